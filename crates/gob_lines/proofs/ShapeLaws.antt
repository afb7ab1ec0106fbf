-- The line of a definition, part by part.
use Rattle.std.proofs.Common.{◌≡◌, ℕ, suc, ◌^◌, ◌<◌, List, [], ◌∷◌, ◌++◌, inl, inr, codes, refl}
use Rattle.std.proofs.Common.{sym, ap, ◌∙◌, arith, append_assoc}
use Rattle.std.specs.Prelude.{⊤}
use Rattle.json.specs.Token.{Token}
use Rattle.gob_num.specs.Unsigned.{AreBytes}
use Rattle.gob_types.specs.declared.id.TypeId.{TypeId}
use Rattle.gob_types.specs.declared.kind.Field.{Field}
use Rattle.gob_types.specs.declared.kind.Kind.{Kind}
use Rattle.gob_types.specs.declared.kind.Kind.TheVariants as kind
use Rattle.gob_types.specs.declared.kind.Shape.{Shape}
use Rattle.gob_types.specs.Definable.{HasLength, IsDefinable, IsReference}
use Rattle.gob_types.specs.Ready.{HasFieldOf, Names}
use Rattle.gob_value.specs.Bytes.{AllHoldBytes, FieldsHoldBytes, HoldsBytes}
use Rattle.gob_value.specs.Described.{described, described_kind, field_list, field_types, name_and_id}
use Rattle.gob_value.specs.Tree.{Tree}
use Rattle.gob_lines.specs.Complete.{AreFieldTypesReadable, IsKindReadable, SaysDefinition}
use Rattle.gob_lines.specs.Definition.{IsDefinitionJson, ReadsShape}
use Rattle.gob_lines.specs.Numbers.{IsNatural, ReadsSome}
use Rattle.gob_lines.specs.DefinitionLaws.{IsDescribed}
use Rattle.gob_lines.proofs.DefinitionLaws.{JM, shape_said}
use Rattle.gob_lines.proofs.PartLaws.{natural_once}
use Rattle.gob_lines.proofs.PutLaws.{numbered}
use Rattle.gob_lines.proofs.UniqueLaws.{J, behind}

-- the id that was read is the one that is defined, and the members of its shape stand behind it
pub record ShapeStands (n : ℕ) (id : TypeId) (s : Shape) (ts : List Token) : Type 0 where
  pub same : numbered n ≡ id
  pub stand : ReadsShape s ts []

pub define_front : {id : TypeId} {s : Shape} {ts m0 m1 m2 : List Token} (n : ℕ) → SaysDefinition ts id s
    → ts ≡ Token.begin_object ∷ m0 → m0 ≡ Token.key (codes "define") ∷ m1 → n < 2 ^ 64
    → ReadsSome (IsNatural n) m1 m2 → ShapeStands n id s m2
define_front {m1 = m1} {m2 = m2} n says object named small got =
    let said = says.said in
    let front = said.reads ∙ ap (λ d. J d ++ []) said.is.is in
    let r = natural_once m1 m2 (JM said.is.members ++ []) small says.number got.is got.reads said.is.numbered
    (ap behind (sym named ∙ ap behind (sym object ∙ front))
    ∙ append_assoc (J said.is.number) (JM said.is.members) []) in
    record {
      same = ap numbered r.0;
      stand = record { members = said.is.members; says = said.is.says; reads = r.1 };
    }

pub define_told : {id : TypeId} {s : Shape} {old m0 m1 m2 new : List Token} → old ≡ Token.begin_object ∷ m0
    → m0 ≡ Token.key (codes "define") ∷ m1 → ReadsSome (IsNatural id.0) m1 m2 → ReadsShape s m2 new
    → ReadsSome (IsDefinitionJson id s) old new
define_told {new = new} object named n r = record {
  json = _;
  is = record { number = n.json; members = r.members; numbered = n.is; says = r.says; is = refl };
  reads = object ∙ ap (λ (l : List Token). Token.begin_object ∷ l)
      (named ∙ ap (λ (l : List Token). Token.key (codes "define") ∷ l)
      (n.reads ∙ ap (λ (l : List Token). J n.json ++ l) r.reads ∙ sym (append_assoc (J n.json) (JM r.members) new)));
}

-- ---- of a shape whose description consists of bytes the line can be read

abbrev NamesHoldBytes : List Field → Type 0
NamesHoldBytes [] = ⊤
NamesHoldBytes (f ∷ fs) = AreBytes f.name × NamesHoldBytes fs

name_bytes : (name : List ℕ) (id : TypeId) → FieldsHoldBytes (name_and_id name id) → AreBytes name
name_bytes [] id h = tt
name_bytes (b ∷ bs) id h = h.0

names_bytes : (fs : List Field) → AllHoldBytes (field_types fs) → NamesHoldBytes fs
names_bytes [] h = tt
names_bytes (f ∷ fs) h = (name_bytes f.name f.id h.0, names_bytes fs h.1)

list_bytes : (fs : List Field) → FieldsHoldBytes (field_list fs) → NamesHoldBytes fs
list_bytes [] h = tt
list_bytes (f ∷ fs) h = names_bytes (f ∷ fs) h.0

fields_readable : (fs : List Field) → ((u : TypeId) → HasFieldOf fs u → IsReference u) → NamesHoldBytes fs
    → AreFieldTypesReadable fs
fields_readable [] names h = tt
fields_readable (f ∷ fs) names h =
    let r = names f.id (record { number = 0; field = f; there = refl; type = refl }) in (
      h.0,
      omega (arith, r.1),
      fields_readable fs (λ u n. names u
          (record { number = suc n.number; field = n.field; there = n.there; type = n.type })) h.1,
    )

kind_readable : (k : Kind) (common : Tree) → HasLength k → ((u : TypeId) → Names k u → IsReference u)
    → HoldsBytes (described_kind common k) → IsKindReadable k × HoldsBytes common
kind_readable (kind.Basic b) common length names h = absurd length
kind_readable (kind.Array e n) common length names h =
    let r = names e refl in ((omega (arith, r.1), omega (arith, length)), h.0.0)
kind_readable (kind.Slice e) common length names h = let r = names e refl in (omega (arith, r.1), h.0.0)
kind_readable (kind.Struct fs) common length names h = (fields_readable fs names (list_bytes fs h.0.1), h.0.0)
kind_readable (kind.Map k e) common length names h =
    let r = names k (inl refl) in
    let q = names e (inr refl) in
    ((omega (arith, r.1), omega (arith, q.1)), h.0.0)
kind_readable (kind.Opaque m) common length names h = (tt, h.0.0)

pub shape_readable : (id : TypeId) (s : Shape) → IsDefinable s → HoldsBytes (described id s)
    → IsKindReadable s.kind × AreBytes s.name
shape_readable id s d h =
    let r = kind_readable s.kind (Tree.fields (name_and_id s.name id)) d.length d.references h in
    (r.0, name_bytes s.name id r.1)

-- ---- the tokens tell the type and its shape

pub definition_once : {i j : TypeId} {s t : Shape} {all : List Token} (x y : List Token) → IsDescribed i s
    → IsDescribed j t → ReadsSome (IsDefinitionJson i s) all x → ReadsSome (IsDefinitionJson j t) all y
    → (i ≡ j) × (s ≡ t) × (x ≡ y)
definition_once {i = i} {j = j} {s = s} {t = t} x y p q said other =
    let ms = said.is.members in
    let ns = other.is.members in
    let front = J said.is.number in
    let one = said.reads ∙ ap (λ d. J d ++ x) said.is.is in
    let two = other.reads ∙ ap (λ d. J d ++ y) other.is.is in
    let id = natural_once (front ++ (JM ms ++ x)) (JM ms ++ x) (JM ns ++ y) p.small q.small said.is.numbered refl
    other.is.numbered (sym (append_assoc front (JM ms) x) ∙ ap behind (ap behind (sym one ∙ two))
    ∙ append_assoc (J other.is.number) (JM ns) y) in
    let a = shape_readable i s p.definable p.bytes in
    let b = shape_readable j t q.definable q.bytes in
    let shape = shape_said {s = s} {t = t} {old = JM ms ++ x} {x = x} {y = y} a.0 a.1 b.0 b.1
    (record { members = ms; says = said.is.says; reads = refl })
    (record { members = ns; says = other.is.says; reads = id.1 }) in
    (ap numbered id.0, shape.0, shape.1)
