use Rattle.std.proofs.Common.{ℕ, ◌+◌, ◌-◌, ◌*◌, ◌≤◌, length}
use Rattle.gob_types.specs.Defined.{types}
use Rattle.gob_value.specs.Machine.Begins.{HoldsBetween}
use Rattle.gob_go.specs.Machine.WholeFilled.{BeginsFilledEach, BeginsFilledPairs, BeginsFilledFields}
use Rattle.gob_go.proofs.filled_whole.+filled.Given as goal

abbrev pub decreases-value_end : goal.decreases-value_end
decreases-value_end l = 4 * l.depth

abbrev pub decreases-top_end : goal.decreases-top_end
decreases-top_end l = 4 * l.depth + 1

abbrev pub decreases-elements_end : goal.decreases-elements_end
decreases-elements_end l = 4 * l.depth + 2

abbrev pub decreases-entries_end : goal.decreases-entries_end
decreases-entries_end l = 4 * l.depth + 2

abbrev pub decreases-fields_end : goal.decreases-fields_end
decreases-fields_end l = 4 * l.depth + 2

abbrev pub decreases-interface_end : goal.decreases-interface_end
decreases-interface_end l = 4 * l.depth + 2

-- what the parts behind the place are with those before it
abbrev pub invariant-elements_end-elements : goal.invariant-elements_end-elements
invariant-elements_end-elements l = record {
  inside : l.at ≤ length l.body;
  parts : (end : ℕ)
      → HoldsBetween (BeginsFilledEach (types l.table) l.fn.elem l.depth (l.count - l.counter)) l.body l.at end
      → HoldsBetween (BeginsFilledEach (types l.table) l.fn.elem l.depth l.count) l.body l.begin end;
}

abbrev pub invariant-entries_end-pairs : goal.invariant-entries_end-pairs
invariant-entries_end-pairs l = record {
  inside : l.at ≤ length l.body;
  parts : (end : ℕ)
      → HoldsBetween (BeginsFilledPairs (types l.table) l.key l.elem l.depth (l.count - l.counter)) l.body l.at end
      → HoldsBetween (BeginsFilledPairs (types l.table) l.fn.entries.key l.fn.entries.elem l.depth l.fn.entries.count)
      l.body l.begin end;
}

abbrev pub invariant-fields_end-fields : goal.invariant-fields_end-fields
invariant-fields_end-fields l = record {
  inside : l.at ≤ length l.body;
  parts : (end : ℕ)
      → HoldsBetween (BeginsFilledFields (types l.table) l.fields l.next l.depth) l.body l.at end
      → HoldsBetween (BeginsFilledFields (types l.table) l.fields 0 l.depth) l.body l.begin end;
}

abbrev pub decreases-fields_end-fields : goal.decreases-fields_end-fields
decreases-fields_end-fields l = length l.body - l.at
