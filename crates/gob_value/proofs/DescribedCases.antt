-- What the description that is made of a shape has in it, case by case.
use Rattle.std.proofs.Common.{◌≡◌, ◌≢◌, ◌⊎◌, inl, inr, ℕ, pos, ◌<◌, true, false, eqb, List, [], ◌∷◌, arith}
use Rattle.std.proofs.lemmas.Bool.Decides.{eqb_tells}
use Rattle.gob_types.specs.declared.id.TypeId.{TypeId}
use Rattle.gob_types.specs.declared.kind.Field.{Field}
use Rattle.gob_types.specs.declared.kind.Kind.{Kind}
use Rattle.gob_types.specs.declared.kind.Kind.TheVariants as kind
use Rattle.gob_types.specs.declared.kind.Marshal.{Marshal}
use Rattle.gob_types.specs.declared.kind.Shape.{Shape}
use Rattle.gob_types.specs.Definable.{IsDefinable, HasLength}
use Rattle.gob_value.specs.Tree.{Tree, Fields, no_field, field}
use Rattle.gob_value.specs.Described.{described, described_kind, id_number, name_and_id, field_types, field_list}
use Rattle.gob_value.specs.Described.{array_length, marshal_field, wire_type_of}

-- the Id, alone or behind a name that isn't empty
pub name_and_id-cases : (P : Fields → Type 0) → ((t : TypeId) → P (field 1 (id_number t) no_field))
    → ((b : ℕ) (bs : List ℕ) (t : TypeId) → P (field 0 (Tree.text (b ∷ bs)) (field 1 (id_number t) no_field)))
    → (name : List ℕ) (t : TypeId) → P (name_and_id name t)
name_and_id-cases P alone behind [] t = alone t
name_and_id-cases P alone behind (b ∷ bs) t = behind b bs t

-- no Field, or a list of some fields
pub field_list-cases : (P : Fields → Type 0) → P no_field
    → ((f : Field) (fs : List Field) → P (field 1 (Tree.many (field_types (f ∷ fs))) no_field)) → (fs : List Field)
    → P (field_list fs)
field_list-cases P none some [] = none
field_list-cases P none some (f ∷ fs) = some f fs

-- no Len, or one above 0
pub array_length-cases : (P : Fields → Type 0) → P no_field
    → ((n : ℕ) → 0 < n → P (field 2 (Tree.int (pos n)) no_field)) → (n : ℕ) → P (array_length n)
array_length-cases P none some n = by (eqb_tells n 0)
  where
    by : ((eqb n 0 ≡ true) × (n ≡ 0)) ⊎ ((eqb n 0 ≡ false) × (n ≢ 0)) → P (array_length n)
    by (inl h) = rw h.0 none
    by (inr h) = let above = h.1 in rw h.0 (some n (omega arith))

-- one field of wireType, a struct whose first field is the CommonType
pub described-cases : (P : Tree → Type 0) (t : TypeId) (s : Shape) → IsDefinable s
    → ((e : TypeId) (n : ℕ)
    → P (wire_type_of 0 (field 0 (Tree.fields (name_and_id s.name t)) (field 1 (id_number e) (array_length n)))))
    → ((e : TypeId) → P (wire_type_of 1 (field 0 (Tree.fields (name_and_id s.name t))
    (field 1 (id_number e) no_field))))
    → ((fs : List Field) → P (wire_type_of 2 (field 0 (Tree.fields (name_and_id s.name t)) (field_list fs))))
    → ((k e : TypeId) → P (wire_type_of 3 (field 0 (Tree.fields (name_and_id s.name t))
    (field 1 (id_number k) (field 2 (id_number e) no_field)))))
    → ((m : Marshal) → P (wire_type_of (marshal_field m) (field 0 (Tree.fields (name_and_id s.name t)) no_field)))
    → P (described t s)
described-cases P t s d array slice struct map opaque = by s.kind d.length
  where
    by : (k : Kind) → HasLength k → P (described_kind (Tree.fields (name_and_id s.name t)) k)
    by (kind.Basic b) l = absurd l
    by (kind.Array e n) l = array e n
    by (kind.Slice e) l = slice e
    by (kind.Struct fs) l = struct fs
    by (kind.Map k e) l = map k e
    by (kind.Opaque m) l = opaque m
