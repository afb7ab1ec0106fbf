use Rattle.std.proofs.Common.{eqb-true, sym}
use Rattle.gob_value.proofs.WholeLaws.{given, top_whole}
use Rattle.gob_value.proofs.whole.is_whole_so.Goals as goal

pub returns-in-Some-top_end : goal.returns-in-Some-top_end
returns-in-Some-top_end g c = λ ends. top_whole c.in-Some-top_end.end (sym c.in-Some.ensures) (eqb-true _ _ ends)
    (given _ c.in-Some-top_end.is c.top_end.ensures)
