-- A value with its zeros put back has the tidy form of the value.
use Rattle.std.proofs.Common.{◌≡◌, ℕ, zero, suc, ◌+◌, List, [], Option, Some, None, refl, sym, ap, ◌∙◌, subst}
use Rattle.std.specs.Prelude.{slice_get, length}
use Rattle.gob_types.specs.declared.basic.Basic.TheVariants as basic
use Rattle.gob_types.specs.declared.id.TypeId.{TypeId}
use Rattle.gob_types.specs.declared.kind.Field.{Field}
use Rattle.gob_types.specs.declared.kind.Kind.{Kind}
use Rattle.gob_types.specs.declared.kind.Kind.TheVariants as kind
use Rattle.gob_types.specs.declared.kind.Shape.{Shape}
use Rattle.gob_types.specs.Table.{Table, shape_of}
use Rattle.gob_types.proofs.PublicLaws.{some_injective}
use Rattle.gob_value.specs.Tree.{Tree, Trees, no_tree, tree, Pairs, no_pair, pair, Fields, no_field, field}
use Rattle.gob_value.specs.Tree as Value
use Rattle.gob_value.specs.Tidy.{IsDropped, zero_basic, empty_slice, Tidies, of_type, TidiesAs, of_basic, of_opaque}
use Rattle.gob_value.specs.Tidy.{of_slice, of_array, of_map, of_struct, TidiesEach, no_element, element, TidiesPairs}
use Rattle.gob_value.specs.Tidy.{no_entry, entry, TidiesFields, no_more, dropped, kept}
use Rattle.gob_value.specs.Tidy as tidy
use Rattle.gob_json.specs.Json.{element_type, key_type, struct_fields, field_type}
use Rattle.gob_plain.specs.Filled.{zero_by, zero_of, zero_at, put_before, zeros_before, between, filled, all_filled}
use Rattle.gob_plain.specs.Filled.{pairs_filled, fields_filled}

-- ---- what the kind of a type says of the parts

-- the type has a shape of this kind
record HasKind (T : Table) (t : TypeId) (k : Kind) : Type 0 where
  shape : Shape
  there : shape_of T t ≡ Some shape
  kind : shape.kind ≡ k

elements_of : {T : Table} {t e : TypeId} {k : Kind} → HasKind T t k
    → element_type (Some (record { name = []; kind = k })) ≡ e → element_type (shape_of T t) ≡ e
elements_of h e = ap element_type h.there ∙ ap (λ (k : Kind). element_type (Some (record { name = []; kind = k })))
    h.kind ∙ e

keys_of : {T : Table} {t e : TypeId} {k : Kind} → HasKind T t k
    → key_type (Some (record { name = []; kind = k })) ≡ e → key_type (shape_of T t) ≡ e
keys_of h e = ap key_type h.there ∙ ap (λ (k : Kind). key_type (Some (record { name = []; kind = k }))) h.kind ∙ e

fields_of : {T : Table} {t : TypeId} {types : List Field} → HasKind T t (kind.Struct types)
    → struct_fields (shape_of T t) ≡ types
fields_of h = ap struct_fields h.there ∙ ap (λ (k : Kind). struct_fields (Some (record { name = []; kind = k }))) h.kind

-- the type of a field has its shape's kind
at_field : {T : Table} (types : List Field) (f : ℕ) {e : Field} {s : Shape} → slice_get types f ≡ Some e
    → shape_of T e.id ≡ Some s → HasKind T (field_type (slice_get types f)) s.kind
at_field {T = T} types f {s = s} there is =
    record { shape = s; there = ap (λ o. shape_of T (field_type o)) there ∙ is; kind = refl }

-- ---- zeros are dropped

zero_drops : (k : Kind) (z : Tree) → zero_by k ≡ Some z → IsDropped k z
zero_drops (kind.Basic basic.Bool) z e = subst (IsDropped (kind.Basic basic.Bool)) (some_injective e)
    (zero_basic tidy.of_bool)
zero_drops (kind.Basic basic.Int) z e = subst (IsDropped (kind.Basic basic.Int)) (some_injective e)
    (zero_basic tidy.of_int)
zero_drops (kind.Basic basic.Uint) z e = subst (IsDropped (kind.Basic basic.Uint)) (some_injective e)
    (zero_basic tidy.of_uint)
zero_drops (kind.Basic basic.Float) z e = subst (IsDropped (kind.Basic basic.Float)) (some_injective e)
    (zero_basic tidy.of_float)
zero_drops (kind.Basic basic.Bytes) z e = subst (IsDropped (kind.Basic basic.Bytes)) (some_injective e)
    (zero_basic tidy.of_bytes)
zero_drops (kind.Basic basic.Str) z e = subst (IsDropped (kind.Basic basic.Str)) (some_injective e)
    (zero_basic tidy.of_text)
zero_drops (kind.Basic basic.Complex) z e = subst (IsDropped (kind.Basic basic.Complex)) (some_injective e)
    (zero_basic tidy.of_complex)
zero_drops (kind.Basic basic.Interface) z e = cc
zero_drops (kind.Slice e) z h = subst (IsDropped (kind.Slice e)) (some_injective h) empty_slice
zero_drops (kind.Array e n) z h = cc
zero_drops (kind.Struct types) z h = cc
zero_drops (kind.Map k e) z h = cc
zero_drops (kind.Opaque m) z h = cc

-- the field of a zero, and its type's shape
record HasZero (T : Table) (o : Option Field) (z : Tree) : Type 0 where
  type : Field
  shape : Shape
  there : o ≡ Some type
  is : shape_of T type.id ≡ Some shape
  drops : IsDropped shape.kind z

has_zero : (T : Table) (o : Option Field) (z : Tree) → zero_at T o ≡ Some z → HasZero T o z
has_zero T None z e = cc
has_zero T (Some type) z e = by (shape_of T type.id) refl e
  where
    by : (o : Option Shape) → shape_of T type.id ≡ o → zero_of o ≡ Some z → HasZero T (Some type) z
    by None is e = cc
    by (Some s) is e =
        record { type = type; shape = s; there = refl; is = is; drops = zero_drops s.kind z e }

-- a field that is dropped is no part of the tidy form
put_off : {T : Table} {types : List Field} (f : ℕ) {fs gs : Fields} (o : Option Tree)
    → zero_at T (slice_get types f) ≡ o → TidiesFields T types (put_before f o fs) gs → TidiesFields T types fs gs
put_off f None e p = p
put_off {T = T} {types = types} f (Some z) e (dropped there is d p) = p
put_off {T = T} {types = types} f (Some z) e (kept {s = s} there is n p q) =
    let h = has_zero T (slice_get types f) z e in
    let same = some_injective (sym h.there ∙ there) in
    let shape = some_injective (sym h.is ∙ ap (λ (e : Field). shape_of T e.id) same ∙ is) in
    absurd (n (subst (λ (s : Shape). IsDropped s.kind z) shape h.drops))

put_on : {T : Table} {types : List Field} (f : ℕ) {fs gs : Fields} (o : Option Tree)
    → zero_at T (slice_get types f) ≡ o → TidiesFields T types fs gs → TidiesFields T types (put_before f o fs) gs
put_on f None e p = p
put_on {T = T} {types = types} f (Some z) e p =
    let h = has_zero T (slice_get types f) z e in dropped h.there h.is h.drops p

zeros_off : {T : Table} {types : List Field} {fs gs : Fields} (f n : ℕ)
    → TidiesFields T types (zeros_before T types f n fs) gs → TidiesFields T types fs gs
zeros_off f zero p = p
zeros_off {T = T} {types = types} f (suc n) p =
    zeros_off (f + 1) n (put_off f (zero_at T (slice_get types f)) refl p)

zeros_on : {T : Table} {types : List Field} {fs gs : Fields} (f n : ℕ) → TidiesFields T types fs gs
    → TidiesFields T types (zeros_before T types f n fs) gs
zeros_on f zero p = p
zeros_on {T = T} {types = types} f (suc n) p =
    put_on f (zero_at T (slice_get types f)) refl (zeros_on (f + 1) n p)

-- ---- a value is dropped where it is without its zeros

filled_drops : (T : Table) (t : TypeId) {k : Kind} (v : Tree) → IsDropped k (filled T t v) → IsDropped k v
filled_drops T t (Value.many no_tree) d = d
filled_drops T t (Value.many (tree v vs)) (zero_basic z) = elim z [ ]
filled_drops T t (Value.pairs ps) (zero_basic z) = elim z [ ]
filled_drops T t (Value.fields fs) (zero_basic z) = elim z [ ]
filled_drops T t (Value.bool b) d = d
filled_drops T t (Value.int i) d = d
filled_drops T t (Value.uint n) d = d
filled_drops T t (Value.float p) d = d
filled_drops T t (Value.complex p q) d = d
filled_drops T t (Value.bytes b) d = d
filled_drops T t (Value.text b) d = d
filled_drops T t Value.nil d = d
filled_drops T t (Value.opaque b) d = d

drops_filled : (T : Table) (t : TypeId) {k : Kind} (v : Tree) → IsDropped k v → IsDropped k (filled T t v)
drops_filled T t (Value.many no_tree) d = d
drops_filled T t (Value.many (tree v vs)) (zero_basic z) = elim z [ ]
drops_filled T t (Value.pairs ps) (zero_basic z) = elim z [ ]
drops_filled T t (Value.fields fs) (zero_basic z) = elim z [ ]
drops_filled T t (Value.bool b) d = d
drops_filled T t (Value.int i) d = d
drops_filled T t (Value.uint n) d = d
drops_filled T t (Value.float p) d = d
drops_filled T t (Value.complex p q) d = d
drops_filled T t (Value.bytes b) d = d
drops_filled T t (Value.text b) d = d
drops_filled T t Value.nil d = d
drops_filled T t (Value.opaque b) d = d

-- ---- the tidy form of a value with its zeros is that of the value

field_off : (T : Table) (types : List Field) (f : ℕ) (v : Tree) (fs : Fields)
    → ((k : Kind) (w : Tree) → HasKind T (field_type (slice_get types f)) k
    → TidiesAs T k (filled T (field_type (slice_get types f)) v) w → TidiesAs T k v w)
    → ((gs : Fields) → TidiesFields T types (fields_filled T types (f + 1) fs) gs → TidiesFields T types fs gs)
    → (gs : Fields)
    → TidiesFields T types (field f (filled T (field_type (slice_get types f)) v) (fields_filled T types (f + 1) fs)) gs
    → TidiesFields T types (field f v fs) gs
field_off T types f v fs value rest gs (dropped there is d q) =
    dropped there is (filled_drops T (field_type (slice_get types f)) v d) (rest gs q)
field_off T types f v fs value rest _ (kept {s = s} {w = w} {gs = gs} there is n q r) =
    kept there is (λ d. n (drops_filled T (field_type (slice_get types f)) v d))
    (value s.kind w (at_field types f there is) q) (rest gs r)

mutual
  tidied_as : {T : Table} {t : TypeId} {k : Kind} {w : Tree} → HasKind T t k → (v : Tree)
      → TidiesAs T k (filled T t v) w → TidiesAs T k v w
  tidied_as h (Value.many vs) (of_basic n) = absurd (n tt)
  tidied_as h (Value.many vs) (of_opaque n) = absurd (n tt)
  tidied_as {T = T} h (Value.many vs) (of_slice {e = e} {ws = ws} p) =
      of_slice (tidied_each vs (subst (λ (x : TypeId). TidiesEach T e (all_filled T x vs) ws) (elements_of h refl) p))
  tidied_as {T = T} h (Value.many vs) (of_array {e = e} {ws = ws} p) =
      of_array (tidied_each vs (subst (λ (x : TypeId). TidiesEach T e (all_filled T x vs) ws) (elements_of h refl) p))
  tidied_as h (Value.pairs ps) (of_basic n) = absurd (n tt)
  tidied_as h (Value.pairs ps) (of_opaque n) = absurd (n tt)
  tidied_as {T = T} {t = t} h (Value.pairs ps) (of_map {k = k} {e = e} {qs = qs} p) =
      of_map (tidied_pairs ps (subst (λ (x : TypeId). TidiesPairs T k e (pairs_filled T x e ps) qs) (keys_of h refl)
      (subst (λ (x : TypeId). TidiesPairs T k e (pairs_filled T (key_type (shape_of T t)) x ps) qs)
      (elements_of h refl) p)))
  tidied_as h (Value.fields fs) (of_basic n) = absurd (n tt)
  tidied_as h (Value.fields fs) (of_opaque n) = absurd (n tt)
  tidied_as {T = T} h (Value.fields fs) (of_struct {types = types} {gs = gs} p) =
      of_struct (tidied_fields 0 fs (subst (λ (x : List Field). TidiesFields T types (fields_filled T x 0 fs) gs)
      (fields_of h) p))
  tidied_as h (Value.bool b) p = p
  tidied_as h (Value.int i) p = p
  tidied_as h (Value.uint n) p = p
  tidied_as h (Value.float x) p = p
  tidied_as h (Value.complex x y) p = p
  tidied_as h (Value.bytes b) p = p
  tidied_as h (Value.text b) p = p
  tidied_as h Value.nil p = p
  tidied_as h (Value.opaque b) p = p

  tidied_each : {T : Table} {e : TypeId} {ws : Trees} (vs : Trees) → TidiesEach T e (all_filled T e vs) ws
      → TidiesEach T e vs ws
  tidied_each no_tree p = p
  tidied_each (tree v vs) (element (of_type {s = s} e p) ps) =
      element (of_type e (tidied_as (record { shape = s; there = e; kind = refl }) v p)) (tidied_each vs ps)

  tidied_pairs : {T : Table} {k e : TypeId} {qs : Pairs} (ps : Pairs) → TidiesPairs T k e (pairs_filled T k e ps) qs
      → TidiesPairs T k e ps qs
  tidied_pairs no_pair p = p
  tidied_pairs (pair x v ps) (entry (of_type {s = s} d p) (of_type {s = u} e q) r) =
      entry (of_type d (tidied_as (record { shape = s; there = d; kind = refl }) x p))
      (of_type e (tidied_as (record { shape = u; there = e; kind = refl }) v q)) (tidied_pairs ps r)

  tidied_fields : {T : Table} {types : List Field} {gs : Fields} (from : ℕ) (fs : Fields)
      → TidiesFields T types (fields_filled T types from fs) gs → TidiesFields T types fs gs
  tidied_fields {types = types} from no_field p = zeros_off from (between types from (length types)) p
  tidied_fields {T = T} {types = types} {gs = gs} from (field f v fs) p =
      field_off T types f v fs (λ k w h q. tidied_as h v q) (λ gs q. tidied_fields (f + 1) fs q) gs
      (zeros_off from (between types from f) p)

pub tidied : {T : Table} {t : TypeId} {w : Tree} (v : Tree) → Tidies T t (filled T t v) w → Tidies T t v w
tidied v (of_type {s = s} e p) = of_type e (tidied_as (record { shape = s; there = e; kind = refl }) v p)

-- ---- and the other way

mutual
  refilled_as : {T : Table} {t : TypeId} {k : Kind} {w : Tree} → HasKind T t k → (v : Tree)
      → TidiesAs T k v w → TidiesAs T k (filled T t v) w
  refilled_as h (Value.many vs) (of_basic n) = absurd (n tt)
  refilled_as h (Value.many vs) (of_opaque n) = absurd (n tt)
  refilled_as {T = T} h (Value.many vs) (of_slice {e = e} {ws = ws} p) =
      of_slice (subst (λ (x : TypeId). TidiesEach T e (all_filled T x vs) ws) (sym (elements_of h refl))
      (refilled_each vs p))
  refilled_as {T = T} h (Value.many vs) (of_array {e = e} {ws = ws} p) =
      of_array (subst (λ (x : TypeId). TidiesEach T e (all_filled T x vs) ws) (sym (elements_of h refl))
      (refilled_each vs p))
  refilled_as h (Value.pairs ps) (of_basic n) = absurd (n tt)
  refilled_as h (Value.pairs ps) (of_opaque n) = absurd (n tt)
  refilled_as {T = T} {t = t} h (Value.pairs ps) (of_map {k = k} {e = e} {qs = qs} p) =
      of_map (subst (λ (x : TypeId). TidiesPairs T k e (pairs_filled T (key_type (shape_of T t)) x ps) qs)
      (sym (elements_of h refl)) (subst (λ (x : TypeId). TidiesPairs T k e (pairs_filled T x e ps) qs)
      (sym (keys_of h refl)) (refilled_pairs ps p)))
  refilled_as h (Value.fields fs) (of_basic n) = absurd (n tt)
  refilled_as h (Value.fields fs) (of_opaque n) = absurd (n tt)
  refilled_as {T = T} h (Value.fields fs) (of_struct {types = types} {gs = gs} p) =
      of_struct (subst (λ (x : List Field). TidiesFields T types (fields_filled T x 0 fs) gs) (sym (fields_of h))
      (refilled_fields 0 fs p))
  refilled_as h (Value.bool b) p = p
  refilled_as h (Value.int i) p = p
  refilled_as h (Value.uint n) p = p
  refilled_as h (Value.float x) p = p
  refilled_as h (Value.complex x y) p = p
  refilled_as h (Value.bytes b) p = p
  refilled_as h (Value.text b) p = p
  refilled_as h Value.nil p = p
  refilled_as h (Value.opaque b) p = p

  pub refilled : {T : Table} {t : TypeId} {w : Tree} (v : Tree) → Tidies T t v w → Tidies T t (filled T t v) w
  refilled v (of_type {s = s} e p) = of_type e (refilled_as (record { shape = s; there = e; kind = refl }) v p)

  refilled_each : {T : Table} {e : TypeId} {ws : Trees} (vs : Trees) → TidiesEach T e vs ws
      → TidiesEach T e (all_filled T e vs) ws
  refilled_each no_tree p = p
  refilled_each (tree v vs) (element p ps) = element (refilled v p) (refilled_each vs ps)

  refilled_pairs : {T : Table} {k e : TypeId} {qs : Pairs} (ps : Pairs) → TidiesPairs T k e ps qs
      → TidiesPairs T k e (pairs_filled T k e ps) qs
  refilled_pairs no_pair p = p
  refilled_pairs (pair x v ps) (entry p q r) = entry (refilled x p) (refilled v q) (refilled_pairs ps r)

  refilled_fields : {T : Table} {types : List Field} {gs : Fields} (from : ℕ) (fs : Fields)
      → TidiesFields T types fs gs → TidiesFields T types (fields_filled T types from fs) gs
  refilled_fields {types = types} from no_field p = zeros_on from (between types from (length types)) p
  refilled_fields {T = T} {types = types} from (field f v fs) (dropped there is d q) =
      zeros_on from (between types from f)
      (dropped there is (drops_filled T (field_type (slice_get types f)) v d) (refilled_fields (f + 1) fs q))
  refilled_fields {T = T} {types = types} from (field f v fs) (kept there is n q r) =
      zeros_on from (between types from f)
      (kept there is (λ d. n (filled_drops T (field_type (slice_get types f)) v d))
      (refilled_as (at_field types f there is) v q) (refilled_fields (f + 1) fs r))
