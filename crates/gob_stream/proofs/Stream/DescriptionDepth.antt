-- A description is no deeper than 5, so that it meets no limit from there on, and is read alike under each of them.
use Rattle.std.proofs.Common.{◌≡◌, ℕ, zero, suc, ◌≤◌, min, List, [], ◌∷◌, ◌++◌, Option, Some, None, inl, inr, sym}
use Rattle.std.proofs.Common.{subst, arith}
use Rattle.std.specs.Prelude.{slice_get}
use Rattle.std.proofs.lemmas.Bool.{cases_lt}
use Rattle.gob_types.specs.declared.id.TypeId.{TypeId}
use Rattle.gob_types.specs.declared.kind.Field.{Field}
use Rattle.gob_types.specs.declared.kind.Kind.{Kind}
use Rattle.gob_types.specs.declared.kind.Kind.TheVariants as kind
use Rattle.gob_types.specs.declared.kind.Shape.{Shape}
use Rattle.gob_types.specs.Base.{base_table, wire_type}
use Rattle.gob_types.specs.Table.{Table, shape_of}
use Rattle.gob_types.proofs.PublicLaws.{some_injective}
use Rattle.gob_read.specs.Expected.{Expected}
use Rattle.gob_read.specs.Expects.{Enters, slice_element, array_element, next_key, next_value, next_field, Expects}
use Rattle.gob_read.specs.Expects.{in_itself, in_part, ExpectsTop, in_struct, at_tag, behind_tag}
use Rattle.gob_read.specs.Refusal.{Refusal, Refused, extra, too_deep, short_of, bad_head_at, not_minimal_at}
use Rattle.gob_read.specs.Refusal.{not_allowed}
use Rattle.gob_read.specs.First.{IsFirst}
use Rattle.gob_read.specs.Viable.{IsViable}
use Rattle.gob_stream.specs.Bounds.{greatest_depth}
use Rattle.gob_stream.specs.Machine.ReadParts.{HasWireType}

-- ---- types whose values are no deeper than a number

abbrev pub FieldsAll : (TypeId → Type 0) → List Field → Type 0
FieldsAll P [] = Unit {0}
FieldsAll P (f ∷ fs) = P f.id × FieldsAll P fs

-- this holds of the type of each part of this kind
abbrev pub PartsAll : (TypeId → Type 0) → Kind → Type 0
PartsAll P (kind.Basic b) = Unit {0}
PartsAll P (kind.Array e n) = P e
PartsAll P (kind.Slice e) = P e
PartsAll P (kind.Struct fs) = FieldsAll P fs
PartsAll P (kind.Map k e) = P k × P e
PartsAll P (kind.Opaque m) = Unit {0}

abbrev pub ShapeAll : (TypeId → Type 0) → Option Shape → Type 0
ShapeAll P None = ⊥
ShapeAll P (Some s) = PartsAll P s.kind

-- no value of the type is deeper than this
abbrev pub IsFlat : Table → ℕ → TypeId → Type 0
IsFlat T zero t = ⊥
IsFlat T (suc n) t = ShapeAll (IsFlat T n) (shape_of T t)

pub field_all : (P : TypeId → Type 0) (fs : List Field) (n : ℕ) {f : Field} → FieldsAll P fs → slice_get fs n ≡ Some f
    → P f.id
field_all P [] n all at = absurd (cc at)
field_all P (g ∷ fs) zero all at = subst (λ (h : Field). P h.id) (some_injective at) all.0
field_all P (g ∷ fs) (suc n) all at = field_all P fs n all.1 at

part_all : (P : TypeId → Type 0) {T : Table} {k : Kind} {q : List ℕ} {u : TypeId} → PartsAll P k → Enters T k q u → P u
part_all P all (slice_element c e l) = all
part_all P all (array_element c e l) = all
part_all P all (next_key c e l) = all.0
part_all P all (next_value c e l x) = all.1
part_all P all (next_field {types = types} {f = f} r l at u) = field_all P types f all at

flat : {T : Table} {t : TypeId} {p : List ℕ} {w : Expected} {d : ℕ} (n : ℕ) → IsFlat T n t → Expects T t p w d → d ≤ n
flat zero none a = absurd none
flat (suc n) all (in_itself e a) = omega arith
flat {T = T} (suc n) all (in_part e q a) =
    let deeper = flat n (part_all (IsFlat T n) (subst (λ s. ShapeAll (IsFlat T n) s) e all) q) a in
    omega (arith, deeper)

flat_top : {T : Table} {t : TypeId} {p : List ℕ} {w : Expected} {d : ℕ} (n : ℕ) → IsFlat T n t → ExpectsTop T t p w d
    → d ≤ n
flat_top n all (in_struct e s a) = flat n all a
flat_top n all (at_tag e s) = omega arith
flat_top n all (behind_tag e s a) = flat n all a

-- ---- wireType is one

two_leaves : Unit {0} × (Unit {0} × Unit {0})
two_leaves = (tt, (tt, tt))

-- by the fields of wireType: ArrayT, SliceT, StructT, MapT, and three opaque types
wire_flat : (more : Table) → IsFlat (base_table ++ more) 5 wire_type
wire_flat more = (
  (two_leaves, two_leaves),
  (
    (two_leaves, (tt, tt)),
    (
      (two_leaves, (two_leaves, tt)),
      (
        (two_leaves, two_leaves),
        ((two_leaves, tt), ((two_leaves, tt), ((two_leaves, tt), tt))),
      ),
    ),
  ),
)

description_depth : {T : Table} {p : List ℕ} {w : Expected} {d : ℕ} → HasWireType T → ExpectsTop T wire_type p w d
    → d ≤ 5
description_depth h a = flat_top 5 (subst (λ (T : Table). IsFlat T 5 wire_type) (sym h.grown) (wire_flat h.more)) a

-- ---- so its limit doesn't matter

refused_alike : {T : Table} {n limit : ℕ} {z : List ℕ} {R : Refusal} (other : ℕ) → HasWireType T → 5 ≤ limit
    → Refused T wire_type limit n z R → Refused T wire_type other n z R
refused_alike other h l (extra r s e k) = extra r s e k
refused_alike other h l (too_deep r a e k) = let shallow = description_depth h a in absurd (omega (arith, shallow))
refused_alike other h l (short_of r a e k w) = short_of r a e k w
refused_alike other h l (bad_head_at r a e b) = bad_head_at r a e b
refused_alike other h l (not_minimal_at r a e b) = not_minimal_at r a e b
refused_alike other h l (not_allowed r a e u b) = not_allowed r a e u b

first_alike : {T : Table} {n limit other : ℕ} {z : List ℕ} {R : Refusal} → HasWireType T → 5 ≤ limit → 5 ≤ other
    → IsFirst T wire_type limit n z R → IsFirst T wire_type other n z R
first_alike {limit = limit} {other = other} h l m f = record {
  refused = refused_alike other h l f.refused;
  first =
      λ S q. f.first S (refused_alike limit h m q);
}

-- the refusal of a description that is read as a tree is that under the limit
pub description_first : {T : Table} {n : ℕ} {z : List ℕ} {R : Refusal} (d : ℕ) → HasWireType T
    → IsFirst T wire_type (min d greatest_depth) n z R → IsFirst T wire_type d n z R
description_first {T = T} {n = n} {z = z} {R = R} d h f =
    elim (cases_lt greatest_depth d) [
      | inl deep ↦ first_alike h (omega (arith, deep)) (omega (arith, deep)) f
      | inr low ↦ let same : min d greatest_depth ≡ d = omega (arith, low) in subst (λ d. IsFirst T wire_type d n z R)
          same f
    ]

-- and where nothing of it is refused, nothing is under the limit
pub description_stood : {T : Table} {n : ℕ} {z : List ℕ} (d : ℕ) → IsViable T wire_type (min d greatest_depth) n z
    → IsViable T wire_type d n z
description_stood d i = record {
  before = i.before;
  under_way = i.under_way;
  expected = i.expected;
  depth = i.depth;
  expects = i.expects;
  whole = i.whole;
  within = i.within;
  not_deep = (let deep = i.not_deep in omega arith);
  shallow = record { each = λ q s w e a f g. let deep = i.shallow.each q s w e a f g in omega arith };
  room = i.room;
}
