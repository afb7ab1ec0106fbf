-- Zeros stand behind the elements.
use Rattle.std.proofs.Common.{◌+◌, ◌-◌, ◌*◌, ◌≤◌, length}
use Rattle.gob_make.proofs.ZeroLaws.{ZerosGoOn}
use Rattle.gob_make.specs.Tells.{SameText}
use Rattle.gob_make.proofs.zero.+zeros.Given as goal

abbrev pub decreases-zero_value : goal.decreases-zero_value
decreases-zero_value g l = 2 * l.depth

abbrev pub decreases-fill : goal.decreases-fill
decreases-fill g l = 2 * l.depth + 1

abbrev pub invariant-fill-zeros : goal.invariant-fill-zeros
invariant-fill-zeros g l = record {
  goes : ZerosGoOn (g.S.Shapes.table l.table) l.id l.fn.elements.items l.elements.items;
  within : length l.elements.items ≤ l.count;
  same : SameText l.fn.said l.said;
}

abbrev pub decreases-fill-zeros : goal.decreases-fill-zeros
decreases-fill-zeros g l = l.count - length l.elements.items
