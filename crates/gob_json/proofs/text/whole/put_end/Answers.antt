-- The bracket and the line feed.
use Rattle.std.proofs.Common.{[], ◌∷◌}
use Rattle.gob_json.proofs.OutLaws.{piece_failed}
use Rattle.gob_json.proofs.text.whole.put_end.Goals as goal

pub returns-in_err-put_mark : goal.returns-in_err-put_mark
returns-in_err-put_mark g c =
    piece_failed g.O.TextOut.puts g.met.O.TextOut.cut (10 ∷ []) c.from_residual.result c.from_residual.ensures.1
    c.in_err-put_mark.ensures

pub returns : goal.returns
returns g c = g.met.O.TextOut.joined _ _ _ _ _ _ c.in_ok-put_mark.ensures c.put_mark-2.ensures
