-- What is left of the parts, with what was put out of them, and where they stand.
use Rattle.std.proofs.Common.{◌≡◌, ℕ, List, ◌∷◌, ◌+◌, ◌-◌, ◌*◌, ◌^◌, ◌≤◌, false, drop, length, nat_lt}
use Rattle.gob_value.specs.Tree.{Trees, Pairs, Fields, pair_count, tree_count}
use Rattle.gob_value.specs.Machine.Begins.{BeginsEach, BeginsFields, BeginsPairs}
use Rattle.gob_walk.specs.Event.{elements_told, entries_told, fields_told, list_begins, map_begins, struct_begins}
use Rattle.gob_walk.specs.Told.{Reaches}
use Rattle.gob_walk.specs.Standing.{BeginsElements, BeginsEntries, BeginsPresent, EndsAt}
use Rattle.gob_walk.proofs.EndLaws.{is_known}
use Rattle.gob_walk.proofs.TellLaws.{ElementsLeft, EntriesLeft, PresentLeft}
use Rattle.gob_walk.proofs.walk.+walk.Given as goal

abbrev pub decreases-walk_value : goal.decreases-walk_value
decreases-walk_value g l = 4 * l.depth

abbrev pub decreases-walk_part : goal.decreases-walk_part
decreases-walk_part g l = 4 * l.depth + 1

abbrev pub decreases-walk_typed : goal.decreases-walk_typed
decreases-walk_typed g l = 4 * l.depth + 1

abbrev pub decreases-walk_pair : goal.decreases-walk_pair
decreases-walk_pair g l = 4 * l.depth + 2

abbrev pub decreases-walk_field : goal.decreases-walk_field
decreases-walk_field g l = 4 * l.depth + 2

abbrev pub decreases-walk_elements : goal.decreases-walk_elements
decreases-walk_elements g l = 4 * l.depth + 3

abbrev pub decreases-walk_pairs : goal.decreases-walk_pairs
decreases-walk_pairs g l = 4 * l.depth + 3

abbrev pub decreases-walk_fields : goal.decreases-walk_fields
decreases-walk_fields g l = 4 * l.depth + 3

abbrev pub invariant-walk_elements-elements : goal.invariant-walk_elements-elements
invariant-walk_elements-elements g l = record {
  inside : l.at ≤ length l.body;
  stands : (end : ℕ)
      → EndsAt (is_known g.row.KNOWN) (BeginsEach (g.S.Shapes.table l.shapes) false l.fn.elem l.depth
      (l.count - l.index))
      l.body l.at end
      → EndsAt (is_known g.row.KNOWN) (BeginsEach (g.S.Shapes.table l.shapes) false l.fn.elem l.depth l.count) l.body
      l.begin end;
  left : (vs : Trees) (rest : List ℕ)
      → BeginsElements (g.S.Shapes.table l.shapes) l.fn.elem l.depth vs (drop l.begin l.body) rest
      → tree_count vs ≡ l.count
      → ElementsLeft (Reaches g.V.Visitor.tells) (g.S.Shapes.table l.shapes) l.fn.elem l.depth (l.count - l.index)
      (nat_lt 0 l.index) l.fn.out l.out (drop l.at l.body) rest
      (list_begins ∷ elements_told false (g.S.Shapes.table l.shapes) l.fn.elem vs);
}

abbrev pub invariant-walk_pairs-pairs : goal.invariant-walk_pairs-pairs
invariant-walk_pairs-pairs g l = record {
  inside : l.at ≤ length l.body;
  stands : (end : ℕ)
      → EndsAt (is_known g.row.KNOWN) (BeginsPairs (g.S.Shapes.table l.shapes) false l.fn.key l.fn.elem l.depth
      (l.count - l.index))
      l.body l.at end
      → EndsAt (is_known g.row.KNOWN) (BeginsPairs (g.S.Shapes.table l.shapes) false l.fn.key l.fn.elem l.depth l.count)
      l.body
      l.begin end;
  left : (ps : Pairs) (rest : List ℕ)
      → BeginsEntries (g.S.Shapes.table l.shapes) l.fn.key l.fn.elem l.depth ps (drop l.begin l.body) rest
      → pair_count ps ≡ l.count
      → EntriesLeft (Reaches g.V.Visitor.tells) (g.S.Shapes.table l.shapes) l.fn.key l.fn.elem l.depth
      (l.count - l.index)
      (nat_lt 0 l.index) l.fn.out l.out (drop l.at l.body) rest
      (map_begins l.fn.key ∷ entries_told false (g.S.Shapes.table l.shapes) l.fn.key l.fn.elem ps);
}

abbrev pub invariant-walk_fields-fields : goal.invariant-walk_fields-fields
invariant-walk_fields-fields g l = record {
  inside : l.at ≤ length l.body;
  stands : (end : ℕ)
      → EndsAt (is_known g.row.KNOWN) (BeginsFields (g.S.Shapes.table l.shapes) false l.types l.next l.depth) l.body
      l.at end
      → EndsAt (is_known g.row.KNOWN) (BeginsFields (g.S.Shapes.table l.shapes) false l.types 0 l.depth) l.body l.begin
      end;
  left : (fs : Fields) (rest : List ℕ)
      → BeginsPresent (g.S.Shapes.table l.shapes) l.types 0 l.depth fs (drop l.begin l.body) rest
      → PresentLeft (Reaches g.V.Visitor.tells) (g.S.Shapes.table l.shapes) l.types l.next l.depth
      l.fn.out l.out
      (drop l.at l.body) rest (struct_begins ∷ fields_told (g.S.Shapes.table l.shapes) l.types 0 fs);
}

abbrev pub decreases-walk_fields-fields : goal.decreases-walk_fields-fields
decreases-walk_fields-fields g l = 2 ^ 64 - l.next
