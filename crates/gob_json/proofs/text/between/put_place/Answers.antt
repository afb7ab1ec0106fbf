-- The pieces, one behind another.
use Rattle.std.proofs.Common.{[], ◌∷◌, ◌++◌}
use Rattle.std.specs.Fmt.{decimal}
use Rattle.gob_json.proofs.OutLaws.{piece_failed}
use Rattle.gob_json.proofs.text.between.put_place.Goals as goal

pub returns-in_err-put : goal.returns-in_err-put
returns-in_err-put g c =
    piece_failed g.O.TextOut.puts g.met.O.TextOut.cut (decimal c.args.number ++ 44 ∷ []) c.from_residual.result
    c.from_residual.ensures.1 c.in_err-put.ensures

pub returns-in_err-put_natural : goal.returns-in_err-put_natural
returns-in_err-put_natural g c =
    let r = c.from_residual-in_err-put_natural.result in
    g.met.O.TextOut.joined _ _ _ _ _ r c.in_ok-put.ensures
    (piece_failed g.O.TextOut.puts g.met.O.TextOut.cut (44 ∷ []) r c.from_residual-in_err-put_natural.ensures.1
    c.in_err-put_natural.ensures)

pub returns : goal.returns
returns g c =
    let joined = g.met.O.TextOut.joined in
    joined _ _ _ _ _ _ c.in_ok-put.ensures (joined _ _ _ _ _ _ c.in_ok-put_natural.ensures c.put-2.ensures)
