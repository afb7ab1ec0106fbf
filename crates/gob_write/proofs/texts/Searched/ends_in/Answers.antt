use Rattle.std.proofs.Common.{arith}
use Rattle.gob_write.proofs.TextLaws.{searched_ends, searched_more}
use Rattle.gob_write.proofs.texts.Searched.ends_in.Goals as goal

pub bytes-preserved : goal.bytes-preserved
bytes-preserved c =
    searched_more c.in-Some.unclosed _ _ c.bytes.invariant c.bytes-test.true c.mark_of-mark.ensures c.left_open.ensures
    c.in-Some.is

pub returns-in-None-clause-ends : goal.returns-in-None-clause-ends
returns-in-None-clause-ends c = λ _.
    searched_ends _ _ _ c.bytes.invariant c.bytes-test.true c.mark_of-mark.ensures c.left_open.ensures c.in-None.is

pub returns-clause-goes_on : goal.returns-clause-goes_on
returns-clause-goes_on c = λ _.
    (c.bytes.invariant, omega (arith, c.bytes.invariant.within, c.bytes-test.false))
