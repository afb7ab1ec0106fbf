-- The lines of the parts before those that are ahead are there.
use Rattle.std.proofs.Common.{◌≡◌, ◌-◌, ◌≤◌, length}
use Rattle.gob_types.specs.Defined.{types}
use Rattle.gob_views.specs.Machine.PartLines.{AreParts}
use Rattle.gob_views.proofs.PartLineLaws.{AreMade}
use Rattle.gob_views.proofs.body_lines.push_each.Given as goal

abbrev pub invariant-groups : goal.invariant-groups
invariant-groups l = record {
  same : l.ahead.parts ≡ l.fn.all.parts;
  inside : l.ahead.begin ≤ length l.body;
  made : AreMade (AreParts l.fn.of.lines l.fn.of.style (types l.fn.of.table.now) l.fn.of.id (l.fn.depth - 1)
      l.fn.all.parts) l.body l.fn.all.begin l.ahead.begin l.ahead.count l.fn.all.count l.fn.text.items l.text.items;
}

abbrev pub decreases-groups : goal.decreases-groups
decreases-groups l = l.ahead.count
