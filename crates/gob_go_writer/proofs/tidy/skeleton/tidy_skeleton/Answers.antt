use Rattle.gob_go_writer.proofs.TidiedLaws.{skeleton_tidied}
use Rattle.gob_go_writer.proofs.tidy.skeleton.tidy_skeleton.Goals as goal

pub returns : goal.returns
returns c = skeleton_tidied c.in_ok-nils.ensures c.deref.ensures.value (rw c.in-Some.is at c.in_ok-places.ensures)
    c.deref-2.ensures.value c.deref-3.ensures.value c.deref-4.ensures.value
    (c.are_closer.ensures.closer c.if-not-are_closer.false) c.are_closer.ensures.bytes
