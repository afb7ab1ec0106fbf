-- What the parts behind the place are with those before it, and the bytes that are appended with those that were.
use Rattle.std.proofs.Common.{ℕ, ◌+◌, ◌*◌, ◌-◌, ◌≤◌, length}
use Rattle.gob_value.specs.Machine.Begins.{HoldsBetween}
use Rattle.gob_tidy.specs.Machine.Tidying.{GivesEach, GivesEntries, GivesFields}
use Rattle.gob_tidy.specs.declared.part.Form.{Form}
use Rattle.gob_tidy.proofs.tidying.+tidy_whole.Given as goal

abbrev pub decreases-tidy_value : goal.decreases-tidy_value
decreases-tidy_value g l = 3 * l.part.depth

abbrev pub decreases-tidy_each : goal.decreases-tidy_each
decreases-tidy_each g l = 3 * l.part.depth + 1

abbrev pub decreases-tidy_map : goal.decreases-tidy_map
decreases-tidy_map g l = 3 * l.part.depth + 1

abbrev pub decreases-tidy_fields : goal.decreases-tidy_fields
decreases-tidy_fields g l = 3 * l.part.depth + 1

abbrev pub decreases-tidy_list : goal.decreases-tidy_list
decreases-tidy_list g l = 3 * l.part.depth + 2

abbrev pub invariant-tidy_each-elements : goal.invariant-tidy_each-elements
invariant-tidy_each-elements g l = record {
  inside : l.at ≤ length l.part.body.now;
  parts : (end : ℕ) (new : Form)
      → HoldsBetween
      (GivesEach (g.S.Shapes.table l.shapes) l.elem (l.count - l.counter) l.part.depth (length l.part.body.now)
      l.part.nils.now l.form new)
      l.part.body.now l.at end
      → HoldsBetween (GivesEach (g.S.Shapes.table l.shapes) l.elem l.count l.part.depth (length l.part.body.now)
      l.part.nils.now l.fn.form new)
      l.part.body.now l.part.at end;
}

abbrev pub invariant-tidy_map-entries : goal.invariant-tidy_map-entries
invariant-tidy_map-entries g l = record {
  inside : l.at ≤ length l.part.body.now;
  parts : (end : ℕ) (new : Form)
      → HoldsBetween (GivesEntries (g.S.Shapes.table l.shapes) l.key l.elem (l.count - l.counter) l.part.depth
      (length l.part.body.now) l.part.nils.now l.form new) l.part.body.now l.at end
      → HoldsBetween (GivesEntries (g.S.Shapes.table l.shapes) l.key l.elem l.count l.part.depth
      (length l.part.body.now) l.part.nils.now l.initial.form new) l.part.body.now l.begin end;
}

abbrev pub invariant-tidy_fields-fields : goal.invariant-tidy_fields-fields
invariant-tidy_fields-fields g l = record {
  inside : l.at ≤ length l.part.body.now;
  ordered : l.kept ≤ l.next;
  parts : (end : ℕ) (new : Form)
      → HoldsBetween
      (GivesFields (g.S.Shapes.table l.shapes) l.types l.next l.kept l.part.depth (length l.part.body.now)
      l.part.nils.now l.form new)
      l.part.body.now l.at end
      → HoldsBetween (GivesFields (g.S.Shapes.table l.shapes) l.types 0 0 l.part.depth (length l.part.body.now)
      l.part.nils.now l.fn.form new)
      l.part.body.now l.part.at end;
}

abbrev pub decreases-tidy_fields-fields : goal.decreases-tidy_fields-fields
decreases-tidy_fields-fields g l = length l.part.body.now - l.at
