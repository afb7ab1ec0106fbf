use Rattle.std.proofs.Common.{◌≡◌, Bool, true, false, not, refl, IsTrue}
use Rattle.gob_stream.proofs.reader_of.ReaderOf.may_wait.Goals as goal

where_not : {A : Type 0} (b : Bool) → (b ≡ false → A) → IsTrue (not b) → A
where_not true f n = cc
where_not false f n = f refl

pub returns-then-has_room-clause-lacks : goal.returns-then-has_room-clause-lacks
returns-then-has_room-clause-lacks g c = where_not c.has_next.result c.has_next.ensures.lacks
