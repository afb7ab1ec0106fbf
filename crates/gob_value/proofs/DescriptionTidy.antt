-- A description and its tidy form say the same.
use Rattle.std.proofs.Common.{◌≡◌, ℕ, zero, suc, ◌<◌, inl, inr, List, [], ◌∷◌, Option, Some, None, arith, refl, sym, ap}
use Rattle.std.proofs.Common.{◌∙◌, subst}
use Rattle.std.specs.Prelude.{slice_get, codes}
use Rattle.std.proofs.lemmas.Bool.{cases_eq, eq-eqb, ne_eqb}
use Rattle.gob_num.specs.Unsigned.{short}
use Rattle.gob_types.specs.declared.basic.Basic.TheVariants as basic
use Rattle.gob_types.specs.declared.id.TypeId.{TypeId}
use Rattle.gob_types.specs.declared.kind.Field.{Field}
use Rattle.gob_types.specs.declared.kind.Kind.{Kind}
use Rattle.gob_types.specs.declared.kind.Kind.TheVariants as kind
use Rattle.gob_types.specs.declared.kind.Shape.{Shape}
use Rattle.gob_types.specs.declared.reason.Reason.{Reason}
use Rattle.gob_types.specs.Base as base
use Rattle.gob_types.specs.Base.{base_table, wire_type, wire_type_fields, id}
use Rattle.gob_types.specs.Table.{Table, shape_of}
use Rattle.gob_types.proofs.PublicLaws.{some_injective}
use Rattle.gob_value.specs.Tree.{Tree, Trees, no_tree, tree, Fields, no_field, field}
use Rattle.gob_value.specs.Tree as Value
use Rattle.gob_value.specs.Spelling.{Spells}
use Rattle.gob_value.specs.Written.{Written, of_many, of_fields, WrittenEach, WrittenFields, end_of_fields, next_field}
use Rattle.gob_value.specs.Written as written
use Rattle.gob_value.specs.Tidy.{IsDropped, zero_basic, empty_slice, Tidies, of_type, TidiesAs, of_basic, of_slice}
use Rattle.gob_value.specs.Tidy.{of_struct, TidiesEach, no_element, element, TidiesFields, no_more, dropped, kept}
use Rattle.gob_value.specs.Tidy as tidy
use Rattle.gob_value.specs.Description.{present_field, number_in, name_in, fields_in, elements_in, SaidKind, said_slice}
use Rattle.gob_value.specs.Description.{said_struct, said_fields, said_with, said, Describes, Misdescribes, kind_count}
use Rattle.gob_value.specs.Description.{wrong_id, bad_reference, bad_length}
use Rattle.gob_value.proofs.TidyLaws.{same_shape}
use Rattle.gob_value.proofs.WrittenLaws.{spells_written}

-- ---- a field before and after

present_here : (f n : ℕ) (v : Tree) (fs : Fields) → f ≡ n → present_field n (field f v fs) ≡ Some v
present_here f n v fs h = rw (eq-eqb f n h)

present_past : (f n : ℕ) (v : Tree) (fs : Fields) → (f ≡ n → ⊥) → present_field n (field f v fs) ≡ present_field n fs
present_past f n v fs h = rw (ne_eqb f n h)

-- absent before and after, dropped, or kept and tidied
data Left (T : Table) (k : Kind) : Option Tree → Option Tree → Type 0 where
  absent : Left T k None None
  gone : {v : Tree} → IsDropped k v → Left T k (Some v) None
  there : {v w : Tree} {b : List ℕ} → TidiesAs T k v w → Written v b → Left T k (Some v) (Some w)

none_before : {T : Table} {types : List Field} {next : ℕ} {fs gs : Fields} {b : List ℕ} (n : ℕ) → n < next
    → TidiesFields T types fs gs → WrittenFields next fs b → present_field n gs ≡ None
none_before n l no_more (end_of_fields q) = refl
none_before n l (dropped m p d ps) (next_field o a q qs) = none_before n (omega arith) ps qs
none_before n l (kept {f = f} {w = w} {gs = gs} m p d r ps) (next_field o a q qs) = present_past f n w gs
    (λ h. omega arith) ∙ none_before n (omega arith) ps qs

left_of : {T : Table} {types : List Field} {next : ℕ} {fs gs : Fields} {b : List ℕ} (n : ℕ) (e : Field) (s : Shape)
    → slice_get types n ≡ Some e → shape_of T e.id ≡ Some s → TidiesFields T types fs gs
    → WrittenFields next fs b → Left T s.kind (present_field n fs) (present_field n gs)
left_of n e s h i no_more (end_of_fields q) = absent
left_of {T = T} {types = types} n e s h i (dropped {f = f} {e = x} {s = r} {v = v} {fs = fs} {gs = gs} m p d ps)
    (next_field o a q qs) =
    elim (cases_eq f n) [
      | inl c ↦
          let one : s ≡ r = same_shape T types n (sym (ap (slice_get types) c) ∙ m) h p i in
          rw (present_here f n v fs c, none_before n (omega arith) ps qs)
          (gone (subst (λ (s : Shape). IsDropped s.kind v) (sym one) d))
      | inr c ↦ rw (present_past f n v fs c) (left_of n e s h i ps qs)
    ]
left_of {T = T} {types = types} n e s h i (kept {f = f} {e = x} {s = r} {v = v} {w = w} {fs = fs} {gs = gs} m p d k ps)
    (next_field o a q qs) =
    elim (cases_eq f n) [
      | inl c ↦
          let one : s ≡ r = same_shape T types n (sym (ap (slice_get types) c) ∙ m) h p i in
          rw (present_here f n v fs c, present_here f n w gs c)
          (there (subst (λ (s : Shape). TidiesAs T s.kind v w) (sym one) k) q)
      | inr c ↦ rw (present_past f n v fs c, present_past f n w gs c) (left_of n e s h i ps qs)
    ]

number_left : {T : Table} {x y : Option Tree} → Left T (kind.Basic basic.Int) x y → number_in y ≡ number_in x
number_left (gone (zero_basic tidy.of_bool)) = refl
number_left (there (of_basic n) q) = refl
number_left _ = refl

name_left : {T : Table} {x y : Option Tree} → Left T (kind.Basic basic.Str) x y → name_in y ≡ name_in x
name_left (gone (zero_basic tidy.of_bool)) = refl
name_left (there (of_basic n) q) = refl
name_left _ = refl

-- a struct, or no field where it is absent
struct_left : {T : Table} {types : List Field} {x y : Option Tree} → Left T (kind.Struct types) x y → (b : List ℕ)
    × WrittenFields 0 (fields_in x) b × TidiesFields T types (fields_in x) (fields_in y)
struct_left absent = (0 ∷ [], end_of_fields (short (omega arith)), no_more)
struct_left (gone d) = elim d [ ]
struct_left (there (of_struct ps) (of_fields {b = b} qs)) = (b, qs, ps)

-- a list, or no element where it is absent
list_left : {T : Table} {e : TypeId} {x y : Option Tree} → Left T (kind.Slice e) x y → (b : List ℕ)
    × WrittenEach (elements_in x) b × TidiesEach T e (elements_in x) (elements_in y)
list_left absent = ([], written.no_element, no_element)
list_left (gone empty_slice) = ([], written.no_element, no_element)
list_left (there (of_slice ps) (of_many {b = b} q qs)) = (b, qs, ps)

-- ---- what the fields of a description say

abbrev name_and_id : List Field
name_and_id = base.field (codes "Name") 6 ∷ base.field (codes "Id") 2 ∷ []

abbrev struct_shape : List ℕ → List Field → Shape
struct_shape name types = record { name = name; kind = kind.Struct types }

abbrev int_shape : Shape
int_shape = record { name = codes "int"; kind = kind.Basic basic.Int }

abbrev string_shape : Shape
string_shape = record { name = codes "string"; kind = kind.Basic basic.Str }

abbrev fields_shape : Shape
fields_shape = record { name = []; kind = kind.Slice (id 21) }

module _ {types : List Field} {fs gs : Fields} {b : List ℕ} (p : TidiesFields base_table types fs gs)
    (q : WrittenFields 0 fs b) where
  number_at : (n : ℕ) (name : List ℕ) → slice_get types n ≡ Some (base.field name 2)
      → number_in (present_field n gs) ≡ number_in (present_field n fs)
  number_at n name h = number_left (left_of n (base.field name 2) int_shape h refl p q)

  name_at : (n : ℕ) (name : List ℕ) → slice_get types n ≡ Some (base.field name 6)
      → name_in (present_field n gs) ≡ name_in (present_field n fs)
  name_at n name h = name_left (left_of n (base.field name 6) string_shape h refl p q)

module _ {types : List Field} {fs gs : Fields} {b : List ℕ} (p : TidiesFields base_table types fs gs)
    (q : WrittenFields 0 fs b) where
  -- the CommonType of each kind
  common_at : slice_get types 0 ≡ Some (base.field (codes "CommonType") 18)
      → (name_in (present_field 0 (fields_in (present_field 0 gs))) ≡ name_in
      (present_field 0 (fields_in (present_field 0 fs))))
      × (number_in (present_field 1 (fields_in (present_field 0 gs))) ≡ number_in
      (present_field 1 (fields_in (present_field 0 fs))))
  common_at h =
      let l = struct_left (left_of 0 (base.field (codes "CommonType") 18)
      (struct_shape (codes "CommonType") name_and_id) h refl p q) in
      (name_at l.2 l.1 0 (codes "Name") refl, number_at l.2 l.1 1 (codes "Id") refl)

same_fields : {vs ws : Trees} {b : List ℕ} → TidiesEach base_table (id 21) vs ws → WrittenEach vs b
    → said_fields ws ≡ said_fields vs
same_fields no_element written.no_element = refl
same_fields (element {v = v} {w = w} (of_type {s = s} e p) ps) (written.element q qs) =
    let one : struct_shape (codes "fieldType") name_and_id ≡ s = some_injective e in
    let f = same_field (subst (λ (s : Shape). TidiesAs base_table s.kind v w) (sym one) p) q in
    let r = same_fields ps qs in rw (f.0, f.1, r)
  where
    same_field : {v w : Tree} {b : List ℕ} → TidiesAs base_table (kind.Struct name_and_id) v w → Written v b
        → (name_in (present_field 0 (fields_in (Some w))) ≡ name_in (present_field 0 (fields_in (Some v))))
        × (number_in (present_field 1 (fields_in (Some w))) ≡ number_in (present_field 1 (fields_in (Some v))))
    same_field (of_struct ps) (of_fields qs) = (
      name_at ps qs 0 (codes "Name") refl,
      number_at ps qs 1 (codes "Id")
          refl,
    )

same_said : (c d : Fields) (k l : SaidKind) → (name_in (present_field 0 c) ≡ name_in (present_field 0 d))
    × (number_in (present_field 1 c) ≡ number_in (present_field 1 d)) → k ≡ l
    → said_with c (Some k) ≡ said_with d (Some l)
same_said c d k l h e = rw (h.0, h.1, e)

-- ---- what the one field of wireType says

abbrev alone : ℕ → Tree → Tree
alone f v = Value.fields (field f v no_field)

abbrev array_types : List Field
array_types = base.field (codes "CommonType") 18 ∷ base.field (codes "Elem") 2 ∷ base.field (codes "Len") 2 ∷ []

abbrev slice_types : List Field
slice_types = base.field (codes "CommonType") 18 ∷ base.field (codes "Elem") 2 ∷ []

abbrev struct_types : List Field
struct_types = base.field (codes "CommonType") 18 ∷ base.field (codes "Field") 22 ∷ []

abbrev map_types : List Field
map_types = base.field (codes "CommonType") 18 ∷ base.field (codes "Key") 2 ∷ base.field (codes "Elem") 2 ∷ []

abbrev opaque_types : List Field
opaque_types = base.field (codes "CommonType") 18 ∷ []

array_said : {v w : Tree} {b : List ℕ} → TidiesAs base_table (kind.Struct array_types) v w → Written v b
    → said (alone 0 w) ≡ said (alone 0 v)
array_said (of_struct {fs = fs} {gs = gs} ps) (of_fields qs) =
    let e = number_at ps qs 1 (codes "Elem") refl in let l = number_at ps qs 2 (codes "Len") refl in
    same_said (fields_in (present_field 0 gs)) (fields_in (present_field 0 fs)) _ _ (common_at ps qs refl) (rw (e, l))

slice_said : {v w : Tree} {b : List ℕ} → TidiesAs base_table (kind.Struct slice_types) v w → Written v b
    → said (alone 1 w) ≡ said (alone 1 v)
slice_said (of_struct {fs = fs} {gs = gs} ps) (of_fields qs) =
    same_said (fields_in (present_field 0 gs)) (fields_in (present_field 0 fs)) _ _ (common_at ps qs refl)
    (ap said_slice (number_at ps qs 1 (codes "Elem") refl))

struct_said : {v w : Tree} {b : List ℕ} → TidiesAs base_table (kind.Struct struct_types) v w → Written v b
    → said (alone 2 w) ≡ said (alone 2 v)
struct_said (of_struct {fs = fs} {gs = gs} ps) (of_fields qs) =
    let l = list_left (left_of 1 (base.field (codes "Field") 22) fields_shape refl refl ps qs) in
    same_said (fields_in (present_field 0 gs)) (fields_in (present_field 0 fs)) _ _ (common_at ps qs refl)
    (ap said_struct (same_fields l.2 l.1))

map_said : {v w : Tree} {b : List ℕ} → TidiesAs base_table (kind.Struct map_types) v w → Written v b
    → said (alone 3 w) ≡ said (alone 3 v)
map_said (of_struct {fs = fs} {gs = gs} ps) (of_fields qs) =
    let k = number_at ps qs 1 (codes "Key") refl in let e = number_at ps qs 2 (codes "Elem") refl in
    same_said (fields_in (present_field 0 gs)) (fields_in (present_field 0 fs)) _ _ (common_at ps qs refl) (rw (k, e))

gob_said : {v w : Tree} {b : List ℕ} → TidiesAs base_table (kind.Struct opaque_types) v w → Written v b
    → said (alone 4 w) ≡ said (alone 4 v)
gob_said (of_struct {fs = fs} {gs = gs} ps) (of_fields qs) = same_said (fields_in (present_field 0 gs))
    (fields_in (present_field 0 fs)) _ _ (common_at ps qs refl) refl

binary_said : {v w : Tree} {b : List ℕ} → TidiesAs base_table (kind.Struct opaque_types) v w → Written v b
    → said (alone 5 w) ≡ said (alone 5 v)
binary_said (of_struct {fs = fs} {gs = gs} ps) (of_fields qs) = same_said (fields_in (present_field 0 gs))
    (fields_in (present_field 0 fs)) _ _ (common_at ps qs refl) refl

text_said : {v w : Tree} {b : List ℕ} → TidiesAs base_table (kind.Struct opaque_types) v w → Written v b
    → said (alone 6 w) ≡ said (alone 6 v)
text_said (of_struct {fs = fs} {gs = gs} ps) (of_fields qs) = same_said (fields_in (present_field 0 gs))
    (fields_in (present_field 0 fs)) _ _ (common_at ps qs refl) refl

module _ {e : Field} {s : Shape} where
  -- the shape of a field of wireType
  wire_shape : (f : ℕ) (g : Field) (r : Shape) → slice_get wire_type_fields f ≡ Some g
      → shape_of base_table g.id ≡ Some r → slice_get wire_type_fields f ≡ Some e → shape_of base_table e.id ≡ Some s
      → s ≡ r
  wire_shape f g r h d m p = same_shape base_table wire_type_fields f h m d p

  array_shape : slice_get wire_type_fields 0 ≡ Some e → shape_of base_table e.id ≡ Some s
      → s ≡ struct_shape (codes "arrayType") array_types
  array_shape = wire_shape 0 (base.field (codes "ArrayT") 17) (struct_shape (codes "arrayType") array_types) refl refl

  slice_shape : slice_get wire_type_fields 1 ≡ Some e → shape_of base_table e.id ≡ Some s
      → s ≡ struct_shape (codes "sliceType") slice_types
  slice_shape = wire_shape 1 (base.field (codes "SliceT") 19) (struct_shape (codes "sliceType") slice_types) refl refl

  of_struct_shape : slice_get wire_type_fields 2 ≡ Some e → shape_of base_table e.id ≡ Some s
      → s ≡ struct_shape (codes "structType") struct_types
  of_struct_shape = wire_shape 2 (base.field (codes "StructT") 20) (struct_shape (codes "structType") struct_types) refl
      refl

  map_shape : slice_get wire_type_fields 3 ≡ Some e → shape_of base_table e.id ≡ Some s
      → s ≡ struct_shape (codes "mapType") map_types
  map_shape = wire_shape 3 (base.field (codes "MapT") 23) (struct_shape (codes "mapType") map_types) refl refl

  gob_shape : slice_get wire_type_fields 4 ≡ Some e → shape_of base_table e.id ≡ Some s
      → s ≡ struct_shape (codes "gobEncoderType") opaque_types
  gob_shape = wire_shape 4 (base.field (codes "GobEncoderT") 24) (struct_shape (codes "gobEncoderType") opaque_types)
      refl refl

  binary_shape : slice_get wire_type_fields 5 ≡ Some e → shape_of base_table e.id ≡ Some s
      → s ≡ struct_shape (codes "gobEncoderType") opaque_types
  binary_shape = wire_shape 5 (base.field (codes "BinaryMarshalerT") 24)
      (struct_shape (codes "gobEncoderType") opaque_types) refl refl

  text_shape : slice_get wire_type_fields 6 ≡ Some e → shape_of base_table e.id ≡ Some s
      → s ≡ struct_shape (codes "gobEncoderType") opaque_types
  text_shape = wire_shape 6 (base.field (codes "TextMarshalerT") 24)
      (struct_shape (codes "gobEncoderType") opaque_types) refl refl

never_dropped : {types : List Field} {v : Tree} {s : Shape} (name : List ℕ) → s ≡ struct_shape name types
    → IsDropped s.kind v → ⊥
never_dropped {v = v} name h d = never (subst (λ (s : Shape). IsDropped s.kind v) h d)
  where
    never : {types : List Field} {v : Tree} → IsDropped (kind.Struct types) v → ⊥
    never d = elim d [ ]

wire_kept : (f : ℕ) {e : Field} {s : Shape} {v : Tree} → slice_get wire_type_fields f ≡ Some e
    → shape_of base_table e.id ≡ Some s → IsDropped s.kind v → ⊥
wire_kept zero m p d = never_dropped (codes "arrayType") (array_shape m p) d
wire_kept (suc zero) m p d = never_dropped (codes "sliceType") (slice_shape m p) d
wire_kept (suc (suc zero)) m p d = never_dropped (codes "structType") (of_struct_shape m p) d
wire_kept (suc (suc (suc zero))) m p d = never_dropped (codes "mapType") (map_shape m p) d
wire_kept (suc (suc (suc (suc zero)))) m p d = never_dropped (codes "gobEncoderType") (gob_shape m p) d
wire_kept (suc (suc (suc (suc (suc zero))))) m p d = never_dropped (codes "gobEncoderType") (binary_shape m p) d
wire_kept (suc (suc (suc (suc (suc (suc zero)))))) m p d = never_dropped (codes "gobEncoderType") (text_shape m p) d
wire_kept (suc (suc (suc (suc (suc (suc (suc f))))))) m p d = cc

said_alone : (f : ℕ) {e : Field} {s : Shape} {v w : Tree} {b : List ℕ} → slice_get wire_type_fields f ≡ Some e
    → shape_of base_table e.id ≡ Some s → TidiesAs base_table s.kind v w → Written v b
    → said (alone f w) ≡ said (alone f v)
said_alone zero {v = v} {w = w} m p r q = array_said
    (subst (λ (s : Shape). TidiesAs base_table s.kind v w) (array_shape m p) r) q
said_alone (suc zero) {v = v} {w = w} m p r q = slice_said
    (subst (λ (s : Shape). TidiesAs base_table s.kind v w) (slice_shape m p) r) q
said_alone (suc (suc zero)) {v = v} {w = w} m p r q = struct_said
    (subst (λ (s : Shape). TidiesAs base_table s.kind v w) (of_struct_shape m p) r) q
said_alone (suc (suc (suc zero))) {v = v} {w = w} m p r q = map_said
    (subst (λ (s : Shape). TidiesAs base_table s.kind v w) (map_shape m p) r) q
said_alone (suc (suc (suc (suc zero)))) {v = v} {w = w} m p r q = gob_said
    (subst (λ (s : Shape). TidiesAs base_table s.kind v w) (gob_shape m p) r) q
said_alone (suc (suc (suc (suc (suc zero))))) {v = v} {w = w} m p r q = binary_said
    (subst (λ (s : Shape). TidiesAs base_table s.kind v w) (binary_shape m p) r) q
said_alone (suc (suc (suc (suc (suc (suc zero)))))) {v = v} {w = w} m p r q = text_said
    (subst (λ (s : Shape). TidiesAs base_table s.kind v w) (text_shape m p) r) q
said_alone (suc (suc (suc (suc (suc (suc (suc f))))))) m p r q = cc

wire_said : {fs gs : Fields} {b : List ℕ} → TidiesFields base_table wire_type_fields fs gs → WrittenFields 0 fs b
    → said (Value.fields gs) ≡ said (Value.fields fs)
wire_said no_more q = refl
wire_said (dropped {f = f} m p d ps) q = absurd (wire_kept f m p d)
wire_said (kept {f = f} m p n r no_more) (next_field l o q qs) = said_alone f m p r q
wire_said (kept m p n r (dropped {f = f} x y d ps)) q = absurd (wire_kept f x y d)
wire_said (kept m p n r (kept x y o t ps)) q = refl

pub said_stays : {v w : Tree} {b : List ℕ} → Spells base_table wire_type v b → Tidies base_table wire_type v w
    → said w ≡ said v
said_stays {v = v} {w = w} q (of_type {s = s} e p) =
    let one : struct_shape (codes "wireType") wire_type_fields ≡ s = some_injective e in
    inside (subst (λ (s : Shape). TidiesAs base_table s.kind v w) (sym one) p) (spells_written q)
  where
    inside : {v w : Tree} {b : List ℕ} → TidiesAs base_table (kind.Struct wire_type_fields) v w → Written v b
        → said w ≡ said v
    inside (of_struct ps) (of_fields qs) = wire_said ps qs

-- what says the same describes the same
pub described_alike : {t : TypeId} {v w : Tree} {s : Shape} → said w ≡ said v → Describes t v s → Describes t w s
described_alike e d = record { what = d.what; says = e ∙ d.says; same_id = d.same_id; name = d.name; kind = d.kind }

pub misdescribed_alike : {t : TypeId} {v w : Tree} {r : Reason} → said w ≡ said v → Misdescribes t v r
    → Misdescribes t w r
misdescribed_alike e (kind_count h) = kind_count (e ∙ h)
misdescribed_alike e (wrong_id h i) = wrong_id (e ∙ h) i
misdescribed_alike e (bad_reference h i b) = bad_reference (e ∙ h) i b
misdescribed_alike e (bad_length h i n b) = bad_length (e ∙ h) i n b
