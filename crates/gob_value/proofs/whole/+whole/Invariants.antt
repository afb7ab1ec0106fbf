use Rattle.std.proofs.Common.{ℕ, nat_eq, Bool, not, ◌+◌, ◌-◌, ◌*◌, ◌≤◌, length}
use Rattle.gob_value.specs.Machine.Begins.{HoldsBetween, BeginsEach, BeginsPairs, BeginsFields}
use Rattle.gob_value.proofs.whole.+whole.Given as goal

-- whether tidy values alone are asked for
abbrev pub is_tidy : ℕ → Bool
is_tidy n = not (nat_eq n 0)

abbrev pub decreases-value_end : goal.decreases-value_end
decreases-value_end g l = 3 * l.depth

abbrev pub decreases-part_end : goal.decreases-part_end
decreases-part_end g l = 3 * l.depth + 1

abbrev pub decreases-field_end : goal.decreases-field_end
decreases-field_end g l = 3 * l.depth + 1

abbrev pub decreases-elements_end : goal.decreases-elements_end
decreases-elements_end g l = 3 * l.depth + 2

abbrev pub decreases-pairs_end : goal.decreases-pairs_end
decreases-pairs_end g l = 3 * l.depth + 2

abbrev pub decreases-fields_end : goal.decreases-fields_end
decreases-fields_end g l = 3 * l.depth + 2

-- what the parts behind the place are with those before it
abbrev pub invariant-elements_end-elements : goal.invariant-elements_end-elements
invariant-elements_end-elements g l = record {
  inside : l.at ≤ length l.body;
  parts : (end : ℕ)
      → HoldsBetween (BeginsEach (g.S.Shapes.table l.shapes) (is_tidy g.row.TIDY) l.fn.elem l.depth
      (l.count - l.counter)) l.body l.at end
      → HoldsBetween (BeginsEach (g.S.Shapes.table l.shapes) (is_tidy g.row.TIDY) l.fn.elem l.depth l.count) l.body
      l.begin end;
}

abbrev pub invariant-pairs_end-pairs : goal.invariant-pairs_end-pairs
invariant-pairs_end-pairs g l = record {
  inside : l.at ≤ length l.body;
  parts : (end : ℕ)
      → HoldsBetween (BeginsPairs (g.S.Shapes.table l.shapes) (is_tidy g.row.TIDY) l.fn.key l.fn.elem l.depth
      (l.count - l.counter)) l.body l.at
      end
      → HoldsBetween (BeginsPairs (g.S.Shapes.table l.shapes) (is_tidy g.row.TIDY) l.fn.key l.fn.elem l.depth l.count)
      l.body l.begin end;
}

abbrev pub invariant-fields_end-fields : goal.invariant-fields_end-fields
invariant-fields_end-fields g l = record {
  inside : l.at ≤ length l.body;
  parts : (end : ℕ) → HoldsBetween (BeginsFields (g.S.Shapes.table l.shapes) (is_tidy g.row.TIDY) l.types l.next
      l.depth) l.body l.at end
      → HoldsBetween (BeginsFields (g.S.Shapes.table l.shapes) (is_tidy g.row.TIDY) l.types 0 l.depth) l.body l.begin
      end;
}

abbrev pub decreases-fields_end-fields : goal.decreases-fields_end-fields
decreases-fields_end-fields g l = length l.body - l.at
