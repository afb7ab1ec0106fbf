-- What is told of the parts that are left is told of all.
use Rattle.std.proofs.Common.{◌≡◌, ℕ, ◌∷◌, ◌+◌, ◌-◌, ◌*◌, ◌^◌, ◌≤◌, false, drop, length, nat_lt}
use Rattle.gob_types.specs.Defined.{types}
use Rattle.gob_filled_walk.specs.HeldEvent.{HasHeard}
use Rattle.gob_filled_walk.specs.Reads.{ReadsEach, ReadsEntries, ReadsFields, ReadsList, ReadsMap, ReadsStruct}
use Rattle.gob_filled_walk.proofs.walk.+filled.Given as goal

abbrev pub decreases-walk_value : goal.decreases-walk_value
decreases-walk_value g l = 4 * l.depth

abbrev pub decreases-walk_top : goal.decreases-walk_top
decreases-walk_top g l = 4 * l.depth + 1

abbrev pub decreases-walk_typed : goal.decreases-walk_typed
decreases-walk_typed g l = 4 * l.depth + 1

abbrev pub decreases-walk_interface : goal.decreases-walk_interface
decreases-walk_interface g l = 4 * l.depth + 2

abbrev pub decreases-walk_elements : goal.decreases-walk_elements
decreases-walk_elements g l = 4 * l.depth + 2

abbrev pub decreases-walk_entries : goal.decreases-walk_entries
decreases-walk_entries g l = 4 * l.depth + 2

abbrev pub decreases-walk_fields : goal.decreases-walk_fields
decreases-walk_fields g l = 4 * l.depth + 2

abbrev pub invariant-walk_elements-elements : goal.invariant-walk_elements-elements
invariant-walk_elements-elements g l = record {
  inside : l.at ≤ length l.body;
  all : (new : _) (end : ℕ)
      → HasHeard g.V.HeldVisitor.hears (ReadsEach (types l.table) l.fn.elem l.depth (l.count - l.index)
      (nat_lt 0 l.index)) l.out new l.body l.at end
      → HasHeard g.V.HeldVisitor.hears (ReadsList (types l.table) l.fn.elem l.depth l.count) l.fn.out new l.body
      l.begin end;
}

abbrev pub invariant-walk_entries-pairs : goal.invariant-walk_entries-pairs
invariant-walk_entries-pairs g l = record {
  inside : l.at ≤ length l.body;
  all : (new : _) (end : ℕ)
      → HasHeard g.V.HeldVisitor.hears (ReadsEntries (types l.table) l.key l.elem l.depth (l.count - l.index)
      (nat_lt 0 l.index)) l.out new l.body l.at end
      → HasHeard g.V.HeldVisitor.hears
      (ReadsMap (types l.table) l.fn.entries.key l.fn.entries.elem l.depth l.fn.entries.count) l.fn.out new l.body
      l.begin end;
}

abbrev pub invariant-walk_fields-fields : goal.invariant-walk_fields-fields
invariant-walk_fields-fields g l = record {
  inside : l.at ≤ length l.body;
  all : (new : _) (end : ℕ)
      → HasHeard g.V.HeldVisitor.hears (ReadsFields (types l.table) l.fields l.next l.depth) l.out new l.body l.at end
      → HasHeard g.V.HeldVisitor.hears (ReadsStruct (types l.table) l.fields l.depth) l.fn.out new l.body l.begin end;
}

abbrev pub decreases-walk_fields-fields : goal.decreases-walk_fields-fields
decreases-walk_fields-fields g l = 2 ^ 64 - l.next
