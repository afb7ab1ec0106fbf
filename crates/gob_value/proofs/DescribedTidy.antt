-- The description that is made of a shape has no field that its tidy form would drop.
use Rattle.std.proofs.Common.{◌≡◌, ℕ, suc, pos, ◌<◌, Bool, true, false, List, [], ◌∷◌, Some, inl, inr, arith, refl, eqb}
use Rattle.std.specs.Prelude.{slice_get, codes}
use Rattle.std.proofs.lemmas.Bool.{eqb-false}
use Rattle.gob_types.specs.declared.basic.Basic.TheVariants as basic
use Rattle.gob_types.specs.declared.id.TypeId.{TypeId}
use Rattle.gob_types.specs.declared.kind.Field.{Field}
use Rattle.gob_types.specs.declared.kind.Kind.{Kind}
use Rattle.gob_types.specs.declared.kind.Kind.TheVariants as kind
use Rattle.gob_types.specs.declared.kind.Marshal.TheVariants as marshal
use Rattle.gob_types.specs.declared.kind.Shape.{Shape}
use Rattle.gob_types.specs.Base as base
use Rattle.gob_types.specs.Base.{base_table, wire_type, wire_type_fields}
use Rattle.gob_types.specs.Definable.{IsReference, IsDefinable, HasLength}
use Rattle.gob_types.specs.Ready.{Names, HasFieldOf}
use Rattle.gob_types.specs.Table.{shape_of}
use Rattle.gob_value.specs.Tree.{Tree, Trees, no_tree, tree, Fields, no_field, field}
use Rattle.gob_value.specs.Tree as Value
use Rattle.gob_value.specs.Tidy.{IsDropped, zero_basic, Tidies, of_type, TidiesAs, of_basic, of_slice, of_struct}
use Rattle.gob_value.specs.Tidy.{TidiesEach, no_element, element, TidiesFields, no_more, kept}
use Rattle.gob_value.specs.Tidy as tidy
use Rattle.gob_value.specs.Described.{described, described_kind, name_and_id, field_types, field_list, array_length}
use Rattle.gob_value.specs.Described.{wire_type_of}

-- the fields of CommonType and of fieldType
abbrev name_and_id_fields : List Field
name_and_id_fields = base.field (codes "Name") 6 ∷ base.field (codes "Id") 2 ∷ []

-- of arrayType and structType
abbrev array_type : List Field
array_type = base.field (codes "CommonType") 18 ∷ base.field (codes "Elem") 2 ∷ base.field (codes "Len") 2 ∷ []

abbrev struct_type : List Field
struct_type = base.field (codes "CommonType") 18 ∷ base.field (codes "Field") 22 ∷ []

-- a number above 0, a text with bytes, a struct and a list with elements are kept
number_kept : {n : ℕ} → 0 < n → IsDropped (kind.Basic basic.Int) (Value.int (pos n)) → ⊥
number_kept l (zero_basic tidy.of_int) = omega (arith, l)

text_kept : {b : ℕ} {bs : List ℕ} → IsDropped (kind.Basic basic.Str) (Value.text (b ∷ bs)) → ⊥
text_kept (zero_basic z) = elim z [ ]

struct_kept : {types : List Field} {v : Tree} → IsDropped (kind.Struct types) v → ⊥
struct_kept d = elim d [ ]

list_kept : {e : TypeId} {v : Tree} {vs : Trees} → IsDropped (kind.Slice e) (Value.many (tree v vs)) → ⊥
list_kept d = elim d [ ]

int_tidy : {n : ℕ} → TidiesAs base_table (kind.Basic basic.Int) (Value.int (pos n)) (Value.int (pos n))
int_tidy = of_basic (λ h. h)

named : (name : List ℕ) (t : TypeId) → 0 < t.0
    → TidiesFields base_table name_and_id_fields (name_and_id name t) (name_and_id name t)
named [] t l = kept refl refl (number_kept l) int_tidy no_more
named (b ∷ bs) t l = kept refl refl text_kept (of_basic (λ h. h)) (kept refl refl (number_kept l) int_tidy no_more)

-- behind its CommonType
with_name : {types : List Field} {fs : Fields} (name : List ℕ) (t : TypeId) → 0 < t.0
    → slice_get types 0 ≡ Some (base.field (codes "CommonType") 18) → TidiesFields base_table types fs fs
    → TidiesFields base_table types (field 0 (Value.fields (name_and_id name t)) fs)
    (field 0 (Value.fields (name_and_id name t)) fs)
with_name name t l e ps = kept e refl struct_kept (of_struct (named name t l)) ps

each_named : (fs : List Field) → ((u : TypeId) → HasFieldOf fs u → IsReference u)
    → TidiesEach base_table (base.id 21) (field_types fs) (field_types fs)
each_named [] each = no_element
each_named (f ∷ fs) each =
    let first : IsReference f.id = each f.id (record { number = 0; field = f; there = refl; type = refl }) in
    element (of_type refl (of_struct (named f.name f.id (omega (arith, first.0)))))
    (each_named fs (λ u h. each u (record { number = suc h.number; field = h.field; there = h.there; type = h.type })))

fields_tidy : (fs : List Field) → ((u : TypeId) → HasFieldOf fs u → IsReference u)
    → TidiesFields base_table struct_type (field_list fs) (field_list fs)
fields_tidy [] each = no_more
fields_tidy (f ∷ fs) each = kept refl refl list_kept (of_slice (each_named (f ∷ fs) each)) no_more

length_tidy : (n : ℕ) → TidiesFields base_table array_type (array_length n) (array_length n)
length_tidy n = by (eqb n 0) refl
  where
    by : (b : Bool) → eqb n 0 ≡ b → TidiesFields base_table array_type (array_length n) (array_length n)
    by true e = rw e no_more
    by false e = rw e (kept refl refl (number_kept {n = n} (omega (arith, eqb-false n 0 e))) int_tidy no_more)

in_wire_type : {f : ℕ} {g : Field} {name : List ℕ} {types : List Field} {fs : Fields}
    → slice_get wire_type_fields f ≡ Some g
    → shape_of base_table g.id ≡ Some (record { name = name; kind = kind.Struct types })
    → TidiesFields base_table types fs fs → Tidies base_table wire_type (wire_type_of f fs) (wire_type_of f fs)
in_wire_type e h ps = of_type refl (of_struct (kept e h struct_kept (of_struct ps) no_more))

pub described_tidy : (t : TypeId) (s : Shape) → IsDefinable s → 0 < t.0
    → Tidies base_table wire_type (described t s) (described t s)
described_tidy t s d l = by s.kind d.length d.references
  where
    common : Tree
    common = Value.fields (name_and_id s.name t)

    by : (k : Kind) → HasLength k → ((u : TypeId) → Names k u → IsReference u)
        → Tidies base_table wire_type (described_kind common k) (described_kind common k)
    by (kind.Basic b) h each = absurd h
    by (kind.Array e n) h each =
        let first : IsReference e = each e refl in
        in_wire_type refl refl (with_name s.name t l refl
        (kept refl refl (number_kept {n = e.0} (omega (arith, first.0))) int_tidy (length_tidy n)))
    by (kind.Slice e) h each =
        let first : IsReference e = each e refl in
        in_wire_type refl refl (with_name s.name t l refl
        (kept refl refl (number_kept {n = e.0} (omega (arith, first.0))) int_tidy no_more))
    by (kind.Struct fs) h each = in_wire_type refl refl (with_name s.name t l refl (fields_tidy fs each))
    by (kind.Map k e) h each =
        let first : IsReference k = each k (inl refl) in
        let second : IsReference e = each e (inr refl) in
        in_wire_type refl refl (with_name s.name t l refl
        (kept refl refl (number_kept {n = k.0} (omega (arith, first.0))) int_tidy
        (kept refl refl (number_kept {n = e.0} (omega (arith, second.0))) int_tidy no_more)))
    by (kind.Opaque marshal.Gob) h each = in_wire_type refl refl (with_name s.name t l refl no_more)
    by (kind.Opaque _) h each = in_wire_type refl refl (with_name s.name t l refl no_more)
