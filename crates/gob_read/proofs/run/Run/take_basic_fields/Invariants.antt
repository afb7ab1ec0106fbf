use Rattle.std.proofs.Common.{◌≡◌, ◌<◌, length}
use Rattle.gob_read.specs.declared.next.NextNumber.TheVariants.{Part}
use Rattle.gob_read.specs.declared.frame.Frame.TheVariants as frame
use Rattle.gob_read.proofs.Machine.BasicPartSteps.{AtItem}
use Rattle.gob_read.proofs.run.Run.take_basic_fields.Given as goal

abbrev pub invariant-fields : goal.invariant-fields
invariant-fields g l = record {
  at : AtItem (g.S.Shapes.table l.shapes) g.B.Builder.building.received l.fn.self l.self l.rest l.used l.counter
      (Part l.field.part) (frame.Fields l.of l.field.next);
  some : l.used < length l.rest;
  same : l.used ≡ 0 → l.self ≡ l.fn.self;
}
