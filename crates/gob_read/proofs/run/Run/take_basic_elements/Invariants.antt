use Rattle.std.proofs.Common.{◌≡◌, ◌+◌, ◌<◌, length, ℕ}
use Rattle.gob_read.specs.declared.frame.Frame.TheVariants as frame
use Rattle.gob_read.specs.declared.next.NextNumber.TheVariants.{Part}
use Rattle.gob_read.proofs.Machine.BasicPartSteps.{AtItem}
use Rattle.gob_read.proofs.run.Run.take_basic_elements.Given as goal

abbrev pub invariant-elements : goal.invariant-elements
invariant-elements g l = record {
  left : ℕ;
  count : left + l.index ≡ l.left;
  at : AtItem (g.S.Shapes.table l.shapes) g.B.Builder.building.received l.fn.self l.self l.rest l.used l.index
      (Part l.elem) (frame.Many l.elem left);
  some : l.used < length l.rest;
  same : l.used ≡ 0 → l.self ≡ l.fn.self;
}
