-- What is written, and what the parts that are left would write, is what all would write.
use Rattle.std.proofs.Common.{◌≡◌, ℕ, ◌+◌, ◌*◌, ◌^◌, ◌≤◌, Option, Some, None}
use Rattle.json.specs.Tree.{json_tokens}
use Rattle.serde_json.specs.Data.{Data, array}
use Rattle.serde_json.specs.Written.{outline}
use Rattle.gob_value.specs.Tree.{Trees, Pairs, Fields}
use Rattle.gob_read.specs.Weight.{parts_of_all, parts_of_pairs, parts_of_fields}
use Rattle.gob_tape.specs.Seeing.{Gives, elements, alternating, present, nodes_from, nodes_left}
use Rattle.gob_json_writer.specs.NilsJson.{elements_json_with, pairs_json_with, fields_json_with}
use Rattle.gob_json_writer.specs.declared.held.Held.{Held}
use Rattle.gob_json_writer.proofs.TapeLaws.{ElementsLeft, EntriesLeft, FieldsLeft}
use Rattle.gob_json_writer.proofs.tape_json.+part.Given as goal

-- what one interface holds in another counts for more than any nodes
abbrev pub measure : (levels nodes : ℕ) → ℕ
measure levels nodes = 2 ^ 66 * levels + 2 * nodes

abbrev pub nil_measure : {X : Type 0} → (X → ℕ) → Option (Held X) → ℕ
nil_measure levels None = 0
nil_measure levels (Some held) = measure (levels held.nils) (2 ^ 64)

abbrev pub decreases-write_part : goal.decreases-write_part
decreases-write_part g l = measure (g.N.Nils.levels l.nils.now) (nodes_from l.part)

abbrev pub decreases-write_nil : goal.decreases-write_nil
decreases-write_nil g l = nil_measure g.N.Nils.levels l.held

abbrev pub decreases-write_elements : goal.decreases-write_elements
decreases-write_elements g l = measure (g.N.Nils.levels l.nils.now) (nodes_left l.parts) + 1

abbrev pub decreases-write_entries : goal.decreases-write_entries
decreases-write_entries g l = measure (g.N.Nils.levels l.nils.now) (nodes_left l.parts) + 1

abbrev pub decreases-write_fields : goal.decreases-write_fields
decreases-write_fields g l = measure (g.N.Nils.levels l.nils.now) (nodes_left l.parts) + 1

abbrev pub invariant-write_elements-loop-part : goal.invariant-write_elements-loop-part
invariant-write_elements-loop-part g l =
    let T = g.S.Shapes.table l.table in record {
      next : (goal.iterator-write_elements-loop-part g).can_next l.part-iterator;
      finite : (goal.iterator-write_elements-loop-part g).is_finite l.part-iterator;
      before : l.out.before ≡ l.fn.out.before;
      fewer : nodes_left l.part-iterator ≤ nodes_left l.fn.parts;
      levels : g.N.Nils.levels l.nils ≤ g.N.Nils.levels l.fn.nils;
      written : (vs : Trees) (N : ℕ → Data) (n : ℕ) → Gives l.fn.parts (elements vs) → g.N.Nils.shows T l.fn.nils N n
          → ElementsLeft N T l.id (g.N.Nils.shows T l.nils) l.part-iterator l.fn.out l.out (n + parts_of_all vs)
          (json_tokens (outline (array (elements_json_with N T l.id n vs))));
    }

abbrev pub invariant-write_entries-loop-part : goal.invariant-write_entries-loop-part
invariant-write_entries-loop-part g l =
    let T = g.S.Shapes.table l.table in record {
      next : (goal.iterator-write_entries-loop-part g).can_next l.part-iterator;
      finite : (goal.iterator-write_entries-loop-part g).is_finite l.part-iterator;
      before : l.out.before ≡ l.fn.out.before;
      fewer : nodes_left l.part-iterator ≤ nodes_left l.fn.parts;
      levels : g.N.Nils.levels l.nils ≤ g.N.Nils.levels l.fn.nils;
      written : (ps : Pairs) (N : ℕ → Data) (n : ℕ) → Gives l.fn.parts (alternating ps)
          → g.N.Nils.shows T l.fn.nils N n
          → EntriesLeft N T l.key_id l.id (g.N.Nils.shows T l.nils) l.part-iterator l.fn.out l.out
          (n + parts_of_pairs ps)
          (json_tokens (outline (array (pairs_json_with N T l.key_id l.id n ps)))) l.is_key;
    }

abbrev pub invariant-write_fields-loop-part : goal.invariant-write_fields-loop-part
invariant-write_fields-loop-part g l =
    let T = g.S.Shapes.table l.table in record {
      next : (goal.iterator-write_fields-loop-part g).can_next l.part-iterator;
      finite : (goal.iterator-write_fields-loop-part g).is_finite l.part-iterator;
      before : l.out.before ≡ l.fn.out.before;
      fewer : nodes_left l.part-iterator ≤ nodes_left l.fn.parts;
      levels : g.N.Nils.levels l.nils ≤ g.N.Nils.levels l.fn.nils;
      written : (fs : Fields) (N : ℕ → Data) (n : ℕ) → Gives l.fn.parts (present fs) → g.N.Nils.shows T l.fn.nils N n
          → FieldsLeft N T l.types (g.N.Nils.shows T l.nils) l.part-iterator l.fn.out l.out (n + parts_of_fields fs)
          (json_tokens (outline (array (fields_json_with N T l.types n fs))));
    }
