-- Pairs that were added, and the paths to them.
use Rattle.std.proofs.Common.{◌≡◌, ℕ, zero, suc, ◌<◌, Bool, true, false, List, [], ◌∷◌, ◌++◌, length, get_or, Option}
use Rattle.std.proofs.Common.{Some, None, arith, refl, sym, ap, ◌∙◌, subst, append_assoc, append-nil, true≢false}
use Rattle.std.proofs.Common.{is_some, reverse}
use Rattle.std.proofs.lemmas.List.{reverse-append}
use Rattle.std.proofs.lemmas.List.Quantifiers.{position-Some}
use Rattle.std.proofs.lemmas.Option.{slice_get_within, slice_get-get_or}
use Rattle.std.specs.Map.{keys_of}
use Rattle.std.specs.Prelude.{slice_get, ◌&&◌, ◌==◌, position}
use borrow.Author.Tests.{eqb-true}
use Rattle.gob_types.proofs.PublicLaws.{some_injective}
use Rattle.gob_match.specs.declared.found.Origin.{Origin}
use Rattle.gob_match.specs.declared.pair.TypePair.{TypePair}
use Rattle.gob_match.specs.declared.step.TypeStep.{TypeStep}
use Rattle.gob_match.specs.Machine.Search.{Entry, came, IsPathTo, at_start, from, HasPath, HasOrigin, IsAt, AddsPairs}

-- ---- equal pairs

abbrev pub same_pair : TypePair → TypePair → Bool
same_pair x y = (x.stream.0 == y.stream.0) && (x.wanted.0 == y.wanted.0)

both_true : (a b : Bool) → (a && b) ≡ true → (a ≡ true) × (b ≡ true)
both_true true b e = (refl, e)
both_true false b e = absurd (true≢false (sym e))

pub same_exact : (x y : TypePair) → same_pair x y ≡ true → x ≡ y
same_exact x y e =
    let b = both_true (x.stream.0 == y.stream.0) (x.wanted.0 == y.wanted.0) e in
    let s = eqb-true x.stream.0 y.stream.0 b.0 in
    let w = eqb-true x.wanted.0 y.wanted.0 b.1 in
    (λ i. record { stream = record { 0 = s i }; wanted = record { 0 = w i } })

-- ---- places

key_read : (es : List Entry) (k : ℕ) (d : Entry) → get_or (keys_of es) k d.0 ≡ (get_or es k d).0
key_read [] k d = refl
key_read (e ∷ es) zero d = refl
key_read (e ∷ es) (suc k) d = key_read es k d

pub length_keys : (es : List Entry) → length (keys_of es) ≡ length es
length_keys [] = refl
length_keys (e ∷ es) = ap suc (length_keys es)

pub known_at : (p : TypePair) (es : List Entry) (k : ℕ) → position (same_pair p) (keys_of es) ≡ Some k → IsAt es k p
known_at p es k e =
    let h = position-Some (same_pair p) (keys_of es) k p e in
    let d : Entry = (p, None) in
    let is : p ≡ (get_or es k d).0 = same_exact p (get_or (keys_of es) k p) h.1 ∙ key_read es k d in
    record {
      origin = (get_or es k d).1;
      there = slice_get-get_or es k d (omega (arith, h.0, length_keys es)) ∙ (λ i. Some (sym is i, (get_or es k d).1));
    }

pub at_last : (es : List Entry) (e : Entry) → slice_get (es ++ e ∷ []) (length es) ≡ Some e
at_last [] e = refl
at_last (x ∷ es) e = at_last es e

-- ---- paths

pub path_within : {es : List Entry} {k : ℕ} {path : List TypeStep} → IsPathTo es k path → k < length es
path_within {es = es} (at_start {p = p} e) = slice_get_within es 0 (p, None) e
path_within {es = es} (from {place = k} {before = b} {p = p} {s = s} e below h) = slice_get_within es k (p, came b s) e

pub has_path_within : {es : List Entry} {k : ℕ} → HasPath es k → k < length es
has_path_within h = path_within h.is

-- where the pair has an origin, the path comes from there
pub path_back : {es : List Entry} {k : ℕ} (o : Origin) → HasPath es k → HasOrigin es k (Some o) → (o.place < k)
    × HasPath es o.place
path_back {es = es} o h there = back o h.is there
  where
    back : {k : ℕ} {path : List TypeStep} (o : Origin) → IsPathTo es k path → HasOrigin es k (Some o) → (o.place < k)
        × HasPath es o.place
    back o (at_start e) there = let f = ap (λ (x : Entry). x.1) (some_injective (sym e ∙ there.there)) in absurd
        (true≢false (sym (ap is_some f)))
    back o (from {place = k} {before = b} {p = p} {s = s} {path = path} e below h) there =
        let same : record { place = b; step = s } ≡ o = some_injective
        (ap (λ (x : Entry). x.1) (some_injective (sym e ∙ there.there))) in
        let at : b ≡ o.place = ap (λ (x : Origin). x.place) same in
        (omega (arith, below, at), record { path = path; is = subst (λ n. IsPathTo es n path) at h })

pub path_on : {es : List Entry} {k : ℕ} {path : List TypeStep} (o : Origin) → HasOrigin es k (Some o) → o.place < k
    → IsPathTo es o.place path → IsPathTo es k (path ++ o.step ∷ [])
path_on o there below h = from there.there below h

-- where it has none, the path is empty
pub path_begins : {es : List Entry} {k : ℕ} → HasPath es k → HasOrigin es k None → IsPathTo es k []
path_begins {es = es} h there = begins h.is there
  where
    begins : {k : ℕ} {path : List TypeStep} → IsPathTo es k path → HasOrigin es k None → IsPathTo es k []
    begins (at_start e) there = at_start e
    begins (from e below h) there = let f = ap (λ (x : Entry). x.1) (some_injective (sym e ∙ there.there)) in absurd
        (true≢false (ap is_some f))

-- ---- pairs that are added

pub no_lookup : {X : Type 0} (o : Option X) → is_some o ≡ false → o ≡ None
no_lookup None e = refl
no_lookup (Some x) e = absurd (true≢false e)

-- the pair, by the step
abbrev pub IsStepTo : TypeStep → TypePair → TypeStep → TypePair → Type 0
IsStepTo step pair s q = (s ≡ step) × (q ≡ pair)

pub adds_known : {es : List Entry} {place k : ℕ} {step : TypeStep} {pair : TypePair} → IsAt es k pair
    → AddsPairs es es place (IsStepTo step pair)
adds_known {es = es} {k = k} at = record {
  more = [];
  grown = sym (append-nil es);
  has = λ s q e. (k, subst (IsAt es k) (sym e.1) at);
  only = λ j e there. let f = there in cc;
}

pub at_new : (es : List Entry) {new : List Entry} (place : ℕ) (step : TypeStep) {pair : TypePair}
    → new ≡ es ++ (pair, came place step) ∷ [] → IsAt new (length es) pair
at_new es place step {pair = pair} e = record {
  origin = came place step;
  there = ap (λ zs. slice_get zs (length es)) e
      ∙ at_last es (pair, came place step);
}

pub adds_new : (es : List Entry) {new : List Entry} (place : ℕ) (step : TypeStep) {pair : TypePair}
    → new ≡ es ++ (pair, came place step) ∷ [] → AddsPairs es new place (IsStepTo step pair)
adds_new es {new = new} place step {pair = pair} e = record {
  more = (pair, came place step) ∷ [];
  grown = e;
  has = λ s q h. (length es, subst (IsAt new (length es)) (sym h.1) (at_new es place step e));
  only = only;
}
  where
    only : (k : ℕ) (x : Entry) → slice_get ((pair, came place step) ∷ []) k ≡ Some x → (s : TypeStep) × (q : TypePair)
        × (x ≡ (q, came place s)) × IsStepTo step pair s q
    only zero x there = (step, pair, sym (some_injective there), (refl, refl))
    only (suc k) x there = let f = there in cc

-- one more step in front of those that were turned round
pub turned : (steps : List TypeStep) {one pushed : List TypeStep} (s : TypeStep) (path : List TypeStep)
    → one ≡ steps ++ s ∷ []
    → pushed ≡ one → (path ++ s ∷ []) ++ reverse steps ≡ path ++ reverse pushed
turned steps s path e f =
    append_assoc path (s ∷ []) (reverse steps)
    ∙ ap (λ zs. path ++ zs) (sym (reverse-append steps (s ∷ [])) ∙ ap reverse (sym (f ∙ e)))
