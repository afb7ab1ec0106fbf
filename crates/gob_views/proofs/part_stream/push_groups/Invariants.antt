-- The lines of the parts before those that are ahead are there.
use Rattle.std.proofs.Common.{◌≡◌, ◌≤◌, length}
use Rattle.gob_types.specs.Defined.{types}
use Rattle.gob_views.specs.Machine.PartLines.{AreParts, HasParts, PrintsEach}
use Rattle.gob_views.proofs.PartLineLaws.{AreMade}
use Rattle.gob_views.proofs.part_stream.push_groups.Given as goal

abbrev pub invariant-groups : goal.invariant-groups
invariant-groups l = record {
  bytes : l.left.bytes ≡ l.fn.left.bytes;
  same : l.left.ahead.parts ≡ l.fn.left.ahead.parts;
  inside : l.left.ahead.begin ≤ length l.left.bytes.items;
  made : PrintsEach l.fn.of.lines l.fn.of.style → HasParts (types l.fn.of.table.now) l.fn.of.id l.fn.left.ahead.parts
      → AreMade (AreParts l.fn.of.lines l.fn.of.style (types l.fn.of.table.now) l.fn.of.id l.fn.depth
      l.fn.left.ahead.parts) l.fn.left.bytes.items l.fn.left.ahead.begin l.left.ahead.begin l.left.ahead.count
      l.fn.left.ahead.count l.fn.text.items l.text.items;
}

abbrev pub decreases-groups : goal.decreases-groups
decreases-groups l = l.left.ahead.count
