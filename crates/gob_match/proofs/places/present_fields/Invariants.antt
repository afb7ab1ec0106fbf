-- What the fields behind the place are with those before it.
use Rattle.std.proofs.Common.{ℕ, ◌-◌, ◌≤◌, List, length}
use Rattle.gob_value.specs.Machine.Begins.{HoldsBetween}
use Rattle.gob_match.specs.declared.places.FieldPlace.{FieldPlace}
use Rattle.gob_match.specs.Machine.ReceivingWhole.{StandPresent}
use Rattle.gob_match.proofs.places.present_fields.Given as goal

abbrev pub invariant-fields : goal.invariant-fields
invariant-fields g l = record {
  inside : l.at ≤ length l.part.body.now;
  parts : (end : ℕ) (new : List FieldPlace)
      → HoldsBetween (StandPresent (g.S.Shapes.table l.stream) l.types l.part.depth l.part.body.now l.next
      l.places.items new) l.part.body.now l.at end
      → HoldsBetween (StandPresent (g.S.Shapes.table l.stream) l.types l.part.depth l.part.body.now 0
      l.fn.places.items new) l.part.body.now l.part.at end;
}

abbrev pub decreases-fields : goal.decreases-fields
decreases-fields g l = length l.part.body.now - l.at
