-- What a visitor has gathered of the value that it is told of, and how an event changes it. For private clauses.
use Rattle.std.specs.Prelude.{◌≡◌, ℕ, ◌+◌, ◌-◌, List, [], ◌∷◌, ◌++◌, Option, Some, None, Result, Ok, Err, length, set}
use Rattle.std.specs.Prelude.{slice_get}
use Rattle.std.proofs.Common.{refl, ap, sym, ◌∙◌}
use Rattle.gob_value.specs.Spelling.{truth}
use Rattle.gob_value.specs.Tree.{Tree}
use Rattle.gob_value.specs.Tree as Value
use Rattle.gob_walk.specs.Event.{Event, between, element, entry, entry_ends, field_ends, leaf, list_begins, list_ends}
use Rattle.gob_walk.specs.Event.{map_begins, map_ends, present, raw, struct_begins, struct_ends}
use Rattle.gob_tape.specs.FlatNodes.{named_word}
use Rattle.gob_tape.specs.Machine.Packing.{number_of}
use Rattle.gob_tape.specs.Seeing.{unsigned_of}
use Rattle.gob_tape.specs.declared.flat.FlatNode.{FlatNode}
use Rattle.gob_handed.specs.declared.flat_visitor.FlatVisitor.{FlatVisitor}

pub record Gathered : Type 0 where
  pub nodes : List FlatNode
  pub pool : List ℕ
  -- where the node stands of the innermost group that has begun and not ended
  pub group : ℕ
  -- the number of the next part, in a struct
  pub field : Option ℕ

abbrev pub gathered_of : FlatVisitor → Gathered
gathered_of v =
    record { nodes = v.value.nodes.items; pool = v.value.pool.items; group = v.group; field = v.field }

abbrev pub nothing_gathered : Gathered
nothing_gathered = record { nodes = []; pool = []; group = 0; field = None }

-- the node of a part with this number in a struct, or in none
abbrev pub part_node : Option ℕ → (kind first second : ℕ) → FlatNode
part_node f k a b = record { first = a; second = b; number = number_of f; kind = k; named = named_word f }

-- a part comes
abbrev pub with_part : Gathered → (kind first second : ℕ) → Gathered
with_part s k a b = record {
  nodes = s.nodes ++ part_node s.field k a b ∷ [];
  pool = s.pool;
  group = s.group;
  field = None;
}

-- one of these raw bytes
abbrev pub with_raw : Gathered → (kind : ℕ) → List ℕ → Gathered
with_raw s k bytes = record {
  nodes = s.nodes ++ part_node s.field k (length s.pool) (length bytes) ∷ [];
  pool = s.pool ++ bytes;
  group = s.group;
  field = None;
}

-- a group begins: up to its end its node says where that of the group around it stands
abbrev pub with_group : Gathered → (kind : ℕ) → Gathered
with_group s k = record {
  nodes = s.nodes ++ part_node s.field k 0 s.group ∷ [];
  pool = s.pool;
  group = length s.nodes;
  field = None;
}

-- the next part is the field of this number
abbrev pub with_field : Gathered → ℕ → Gathered
with_field s f = record { nodes = s.nodes; pool = s.pool; group = s.group; field = Some f }

-- so many more parts have begun in the group of this node
abbrev pub more_parts : FlatNode → ℕ → FlatNode
more_parts n more =
    record { first = n.first + more; second = n.second; number = n.number; kind = n.kind; named = n.named }

-- the group has ended, with so many nodes
abbrev pub ended_node : FlatNode → ℕ → FlatNode
ended_node n count = record { first = n.first; second = count; number = n.number; kind = n.kind; named = n.named }

abbrev pub counted_at : Gathered → Option FlatNode → Gathered
counted_at s None = s
counted_at s (Some n) = record {
  nodes = set s.nodes s.group (more_parts n 1);
  pool = s.pool;
  group = s.group;
  field = s.field;
}

abbrev pub ended_at : Gathered → Option FlatNode → Gathered
ended_at s None = s
ended_at s (Some n) = record {
  nodes = set s.nodes s.group (ended_node n (length s.nodes - s.group));
  pool = s.pool;
  group = n.second;
  field = s.field;
}

-- one more part begins in the innermost group
abbrev pub counted : Gathered → Gathered
counted s = counted_at s (slice_get s.nodes s.group)

-- it ends
abbrev pub ended : Gathered → Gathered
ended s = ended_at s (slice_get s.nodes s.group)

-- no value with parts is told at once
abbrev pub after_leaf : Gathered → Tree → Gathered
after_leaf s (Value.bool b) = with_part s 1 (truth b) 0
after_leaf s (Value.int i) = with_part s 2 (unsigned_of i) 0
after_leaf s (Value.uint n) = with_part s 3 n 0
after_leaf s (Value.float p) = with_part s 4 p 0
after_leaf s (Value.complex p q) = with_part s 7 p q
after_leaf s (Value.bytes b) = with_raw s 5 b
after_leaf s (Value.text b) = with_raw s 6 b
after_leaf s Value.nil = with_part s 8 0 0
after_leaf s _ = s

abbrev pub after : Gathered → Event → Gathered
after s (leaf v) = after_leaf s v
after s (raw shape b) = with_raw s 12 b
after s list_begins = with_group s 9
after s (element later) = counted s
after s list_ends = ended s
after s (map_begins k) = with_group s 10
after s (entry k later) = counted s
after s (between k) = s
after s (entry_ends k) = s
after s (map_ends k) = ended s
after s struct_begins = with_group s 11
after s (present types next f) = with_field (counted s) f
after s field_ends = s
after s (struct_ends types next) = ended s

abbrev pub after_all : Gathered → List Event → Gathered
after_all s [] = s
after_all s (e ∷ es) = after_all (after s e) es

-- what a visitor answers to events; of one for which there was no memory nothing is said
abbrev pub Gathers : {E : Type 0} → (old new : Gathered) → List Event → Result (Unit {0}) E → Type 0
Gathers old new es (Ok _) = new ≡ after_all old es
Gathers old new es (Err _) = Unit {0}

abbrev pub tells_flat : {E : Type 0} → (old new : FlatVisitor) → List Event → Result (Unit {0}) E → Type 0
tells_flat old new es result = Gathers (gathered_of old) (gathered_of new) es result

-- ---- events behind others
pub both_after : (s : Gathered) (xs ys : List Event) → after_all s (xs ++ ys) ≡ after_all (after_all s xs) ys
both_after s [] ys = refl
both_after s (x ∷ xs) ys = both_after (after s x) xs ys

pub gathers_both : {E : Type 0} (a b c : Gathered) (x y : List Event) (r : Result (Unit {0}) E)
    → Gathers {E = E} a b x (Ok tt) → Gathers b c y r → Gathers a c (x ++ y) r
gathers_both a b c x y (Ok u) p q = q ∙ ap (λ s. after_all s y) p ∙ sym (both_after a x y)
gathers_both a b c x y (Err e) p q = tt
