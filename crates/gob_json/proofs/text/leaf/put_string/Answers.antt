-- The text between quotes.
use Rattle.std.proofs.Common.{[], ◌∷◌, ◌++◌}
use Rattle.json.specs.Print.{escape}
use Rattle.gob_json.proofs.OutLaws.{piece_failed}
use Rattle.gob_json.proofs.text.leaf.put_string.Goals as goal

pub returns-in_err-put : goal.returns-in_err-put
returns-in_err-put g c =
    piece_failed g.O.TextOut.puts g.met.O.TextOut.cut (escape c.args.bytes.now ++ 34 ∷ []) c.from_residual.result
    c.from_residual.ensures.1
    c.in_err-put.ensures

pub returns-in_err-put_escaped : goal.returns-in_err-put_escaped
returns-in_err-put_escaped g c =
    let r = c.from_residual-in_err-put_escaped.result in
    g.met.O.TextOut.joined _ _ _ _ _ r c.in_ok-put.ensures
    (piece_failed g.O.TextOut.puts g.met.O.TextOut.cut (34 ∷ []) r c.from_residual-in_err-put_escaped.ensures.1
    c.in_err-put_escaped.ensures)

pub returns : goal.returns
returns g c =
    let joined = g.met.O.TextOut.joined in
    joined _ _ _ _ _ _ c.in_ok-put.ensures (joined _ _ _ _ _ _ c.in_ok-put_escaped.ensures c.put-2.ensures)
