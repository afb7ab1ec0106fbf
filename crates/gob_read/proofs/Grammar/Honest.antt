-- What the bytes before a refusal, and those that show it, begin.
use Rattle.std.proofs.Common.{◌≡◌, ◌≢◌, ℕ, ◌<◌, ◌⊎◌, inl, inr, List, [], ◌∷◌, ◌++◌, length, take, Some, arith, refl}
use Rattle.std.proofs.Common.{sym, ap, ◌∙◌, subst, append_assoc}
use Rattle.std.proofs.Math.Seq.{take-append_seam}
use Rattle.gob_types.specs.declared.id.TypeId.{TypeId}
use Rattle.gob_types.specs.declared.kind.Kind.{Kind}
use Rattle.gob_types.specs.declared.kind.Kind.TheVariants as kind
use Rattle.gob_types.specs.declared.kind.Shape.{Shape}
use Rattle.gob_types.specs.declared.reason.Reason.TheVariants as reason
use Rattle.gob_types.specs.Table.{Table, shape_of}
use Rattle.gob_types.specs.Ready.{IsReady}
use Rattle.gob_value.specs.Tree.{Tree, depth}
use Rattle.gob_value.specs.Top.{IsStruct, SpellsTop, at_once, tagged}
use Rattle.gob_read.specs.Expected.{Expected, Allowed, any, tag, truth_value, array_count, delta, nil, reason_of}
use Rattle.gob_read.specs.Expects.{Expects, in_itself, in_part, in_struct, behind_tag}
use Rattle.gob_read.specs.Refusal.{Refusal, Refused, extra, too_deep, short_of, bad_head_at, not_minimal_at}
use Rattle.gob_read.specs.Refusal.{not_allowed}
use Rattle.gob_read.specs.Begins.{BeginsValue, BeginsNone, BeginsOnlyDeep}
use Rattle.gob_read.specs.Laws.{IsOfNumber, HasCountedArrays}
use Rattle.gob_read.specs.First.{IsFirst}
use Rattle.gob_read.specs.Honest.{IsHonestBody}
use Rattle.gob_read.proofs.Grammar.Prefixes.{append_nil}
use Rattle.gob_read.proofs.Grammar.Compare.{whole_meets_top, expects_once}
use Rattle.gob_read.proofs.Grammar.Firsts.{bad_not_met, minimal_not_met, not_allowed_not_met}
use Rattle.gob_read.proofs.Grammar.Deep.{expects_top_within}
use Rattle.gob_read.proofs.Grammar.Deepest.{deep_place}
use Rattle.gob_read.proofs.Grammar.Seen.{shared, shared_prefix, shared_number, bad_again, minimal_again}
use Rattle.gob_read.proofs.Grammar.Complete.{expects_begins}

-- where a number is refused, the bytes up to its end begin no value
pub begins_none : {T : Table} {t : TypeId} {limit announced : ℕ} {z : List ℕ} {R : Refusal}
    → Refused T t limit announced z R → IsOfNumber R.reason → BeginsNone T t (take R.seen z)
begins_none (extra r v e l) i b = i
begins_none (too_deep r a e l) i b = i
begins_none (short_of r a e n h) i b = i
begins_none {z = z} (bad_head_at {p = p} r a e h) i b =
    bad_not_met (bad_again r b.rest h) (whole_meets_top (take 1 r ++ b.rest) [] b.spelled a
    (sym (shared z p r b.rest 1 e) ∙ sym (append_nil _)))
begins_none {z = z} (not_minimal_at {p = p} r a e h) i b =
    minimal_not_met (minimal_again r b.rest h) (whole_meets_top (take 2 r ++ b.rest) [] b.spelled a
    (sym (shared z p r b.rest 2 e) ∙ sym (append_nil _)))
begins_none {z = z} (not_allowed {p = p} {c = c} r a e u h) i b =
    not_allowed_not_met b.rest u h (whole_meets_top (c ++ b.rest) [] b.spelled a (sym (shared_number z p c r b.rest e)
    ∙ sym (append_nil _)))

deep_number : (a : Allowed) → reason_of a ≢ reason.TooDeep
deep_number any e = cc
deep_number tag e = cc
deep_number truth_value e = cc
deep_number (array_count n) e = cc
deep_number (delta n) e = cc
deep_number nil e = cc

-- where a part is too deep, the bytes before it begin only values that are too deep
pub begins_deep : {T : Table} {t : TypeId} {limit announced : ℕ} {z : List ℕ} {R : Refusal}
    → Refused T t limit announced z R → R.reason ≡ reason.TooDeep → BeginsOnlyDeep T t limit (take R.place z)
begins_deep (extra r v e l) i v' x s = cc
begins_deep {z = z} (too_deep {p = p} r a e l) i v x s =
    let n = expects_top_within x [] s a (sym (shared_prefix z p r x e) ∙ sym (append_nil _)) in omega arith
begins_deep (short_of r a e n h) i v x s = cc
begins_deep (bad_head_at r a e h) i v x s = cc
begins_deep (not_minimal_at r a e h) i v x s = cc
begins_deep (not_allowed r {a = a} b e u h) i v x s = absurd (deep_number a i)

prefix_begins : {T : Table} {t : TypeId} {z p : List ℕ} (r : List ℕ) → z ≡ p ++ r → BeginsValue T t p
    → BeginsValue T t (take (length p) z)
prefix_begins {T = T} {t = t} {p = p} r e b = subst (BeginsValue T t) (sym (ap (λ l. take (length p) l) e
    ∙ take-append_seam p r)) b

-- the bytes before the place of a refusal begin a value, unless the body ends too early
pub place_begins : {T : Table} {t : TypeId} {limit announced : ℕ} {z : List ℕ} {R : Refusal} → HasCountedArrays T
    → IsReady T t → Refused T t limit announced z R → R.reason ≢ reason.Short → BeginsValue T t (take R.place z)
place_begins {T = T} {t = t} l i (extra {v = v} {f = f} r s e k) n =
    prefix_begins r e (record { value = v; rest = []; spelled = subst (SpellsTop T t v) (sym (append_nil f)) s })
place_begins l i (too_deep r a e k) n = prefix_begins r e (expects_begins l i a)
place_begins l i (short_of r a e m h) n = absurd (n refl)
place_begins l i (bad_head_at r a e h) n = prefix_begins r e (expects_begins l i a)
place_begins l i (not_minimal_at r a e h) n = prefix_begins r e (expects_begins l i a)
place_begins l i (not_allowed {c = c} r a e u h) n = prefix_begins (c ++ r) e (expects_begins l i a)

-- so the refusal that is given is honest
pub first_honest : {T : Table} {t : TypeId} {limit announced : ℕ} {z : List ℕ} {R : Refusal} → HasCountedArrays T
    → IsReady T t → IsFirst T t limit announced z R → IsHonestBody T t limit z R
first_honest l i f = record {
  number = λ n. (place_begins l i f.refused (λ e. subst IsOfNumber e n), begins_none f.refused n);
  deep = λ e. (place_begins l i f.refused (λ short. let same = sym e ∙ short in cc), begins_deep f.refused e);
}

-- a whole value that is too deep is refused for it
pub deep_refused : {T : Table} {t : TypeId} {limit : ℕ} {v : Tree} {b : List ℕ} (announced : ℕ) (r : List ℕ)
    → SpellsTop T t v b → limit < depth v → (S : Refusal) × (S.reason ≡ reason.TooDeep)
    × Refused T t limit announced (b ++ r) S
deep_refused announced r (at_once e i s) l =
    let d = deep_place s in (
      record { place = length d.before; seen = length d.before; reason = reason.TooDeep },
      refl,
      too_deep (d.rest ++ r) (in_struct e i d.expects) (ap (λ l. l ++ r) d.whole ∙ append_assoc d.before d.rest r) l,
    )
deep_refused announced r (tagged e i s) l =
    let d = deep_place s in (
      record { place = length (0 ∷ d.before); seen = length (0 ∷ d.before); reason = reason.TooDeep },
      refl,
      too_deep {p = 0 ∷ d.before} (d.rest ++ r) (behind_tag e i d.expects)
          (ap (λ (l : List ℕ). 0 ∷ l) (ap (λ l. l ++ r) d.whole ∙ append_assoc d.before d.rest r)) l,
    )

is_struct : (k : Kind) → IsStruct k ⊎ (¬ IsStruct k)
is_struct (kind.Basic b) = inr (λ z. z)
is_struct (kind.Array e n) = inr (λ z. z)
is_struct (kind.Slice e) = inr (λ z. z)
is_struct (kind.Struct fs) = inl tt
is_struct (kind.Map k e) = inr (λ z. z)
is_struct (kind.Opaque m) = inr (λ z. z)

record HasShape (T : Table) (t : TypeId) : Type 0 where
  pub shape : Shape
  pub is : shape_of T t ≡ Some shape

shape_there : {T : Table} {t : TypeId} {p : List ℕ} {w : Expected} {d : ℕ} → Expects T t p w d → HasShape T t
shape_there (in_itself {s = s} e a) = record { shape = s; is = e }
shape_there (in_part {s = s} e n a) = record { shape = s; is = e }

-- what is expected at a type is so at the top, behind the tag where there is one
pub expects_once_in : {T : Table} {t : TypeId} {p : List ℕ} {w u : Expected} {d d' : ℕ} → Expects T t p w d
    → Expects T t p u d' → (w ≡ u) × (d ≡ d')
expects_once_in a b =
    let h = shape_there a in
    elim (is_struct h.shape.kind) [
      | inl i ↦ expects_once (in_struct h.is i a) (in_struct h.is i b)
      | inr i ↦ expects_once (behind_tag h.is i a) (behind_tag h.is i b)
    ]
