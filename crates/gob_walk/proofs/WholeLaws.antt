-- The value of an item, behind its tag, and the end of its body.
use Rattle.std.proofs.Common.{◌≡◌, ℕ, ◌≤◌, List, [], ◌∷◌, ◌++◌, length, Some}
use Rattle.std.proofs.Common.{drop, false, inl, inr, ◌⊎◌, arith, refl, sym, ap, ◌∙◌, subst}
use Rattle.std.proofs.Common.{append-nil, length-drop}
use Rattle.std.proofs.Math.Seq.{drop-length}
use Rattle.std.specs.Prelude.{slice_get}
use Rattle.gob_types.specs.declared.id.TypeId.{TypeId}
use Rattle.gob_types.specs.declared.kind.Kind.{Kind}
use Rattle.gob_types.specs.declared.kind.Kind.TheVariants as kind
use Rattle.gob_types.specs.declared.kind.Shape.{Shape}
use Rattle.gob_types.specs.Table.{Table, shape_of}
use Rattle.gob_types.proofs.PublicLaws.{some_injective}
use Rattle.gob_value.specs.Tree.{Tree, depth}
use Rattle.gob_value.specs.Spelling.{Spells, SpellsAs, of_type}
use Rattle.gob_value.specs.Top.{IsStruct, SpellsTop, at_once, tagged}
use Rattle.gob_value.proofs.PublicLaws.{first_of}
use Rattle.gob_value.specs.Whole.{IsWhole}
use Rattle.gob_value.specs.Machine.Begins.{BeginsKind, HoldsBetween}
use Rattle.gob_walk.specs.Standing.{HoldsValue, IsBehindTag}

struct_or_not : (k : Kind) → IsStruct k ⊎ (¬ IsStruct k)
struct_or_not (kind.Struct types) = inl tt
struct_or_not _ = inr (λ i. i)

-- a value that stands up to the end is the whole body
pub whole_item : {T : Table} {t : TypeId} {limit : ℕ} (s : Shape) (begin end : ℕ) (body : List ℕ)
    → shape_of T t ≡ Some s
    → IsBehindTag s.kind body begin → end ≡ length body
    → HoldsBetween (BeginsKind T false s.kind limit) body begin end → IsWhole T t limit body
whole_item {T = T} s begin end body f tag last p =
    let b = p.begins in
    let rest : drop end body ≡ [] = ap (λ n. drop n body) last ∙ drop-length body in
    let all : drop begin body ≡ b.bytes = b.whole ∙ ap (λ l. b.bytes ++ l) rest ∙ append-nil b.bytes in
    elim (struct_or_not s.kind) [
      | inl is ↦
          let same : body ≡ b.bytes = ap (λ n. drop n body) (sym (tag.at_once is)) ∙ all in
          record {
            value = b.value;
            spelled = at_once f is (of_type f (subst (SpellsAs T s.kind b.value) (sym same) b.spelled));
            within = b.within;
          }
      | inr other ↦
          let behind = tag.tagged other in
          let same : body ≡ 0 ∷ b.bytes =
          first_of body 0 behind.1 ∙ ap (λ l. 0 ∷ l) (ap (λ n. drop n body) (sym behind.0) ∙ all) in
          rw same (record { value = b.value; spelled = tagged f other (of_type f b.spelled); within = b.within })
    ]

value_behind : {T : Table} {t : TypeId} {v : Tree} {body : List ℕ} (s : Shape) (begin : ℕ) → shape_of T t ≡ Some s
    → IsBehindTag s.kind body begin → SpellsTop T t v body → Spells T t v (drop begin body)
value_behind {T = T} {t = t} {v = v} {body = body} s begin f tag (at_once {s = r} g struct q) =
    let same : r ≡ s = some_injective (sym g ∙ f) in
    subst (λ n. Spells T t v (drop n body)) (sym (tag.at_once (subst (λ (r : Shape). IsStruct r.kind) same struct))) q
value_behind {T = T} {t = t} {v = v} {body = body} s begin f tag (tagged {s = r} {b = b} g other q) =
    let same : r ≡ s = some_injective (sym g ∙ f) in
    let first = tag.tagged (subst (λ (r : Shape). ¬ IsStruct r.kind) same other) in
    subst (λ n. Spells T t v (drop n (0 ∷ b))) (sym first.0) q

-- the value that is known to be the body begins there
pub item_begins : {T : Table} {t : TypeId} {limit : ℕ} {v : Tree} (s : Shape) (begin : ℕ) (body : List ℕ)
    → shape_of T t ≡ Some s → IsBehindTag s.kind body begin → depth v ≤ limit → SpellsTop T t v body
    → HoldsValue T t limit v (drop begin body) []
item_begins s begin body f tag deep p = record {
  bytes = drop begin body;
  spelled = value_behind s begin f tag p;
  within = deep;
  whole = sym (append-nil (drop begin body));
}

-- it has its tag
pub item_tagged : {T : Table} {t : TypeId} {v : Tree} {body : List ℕ} (s : Shape) → shape_of T t ≡ Some s
    → ¬ IsStruct s.kind
    → ¬ (slice_get body 0 ≡ Some 0) → ¬ SpellsTop T t v body
item_tagged s f other none (at_once {s = r} g struct q) =
    let same : r ≡ s = some_injective (sym g ∙ f) in other (subst (λ (r : Shape). IsStruct r.kind) same struct)
item_tagged s f other none (tagged g not q) = none refl

-- its end is that of the body
pub ended_there : (body : List ℕ) (end : ℕ) → end ≤ length body → drop end body ≡ [] → end ≡ length body
ended_there body end l e = omega (arith, length-drop end body, ap length e)
