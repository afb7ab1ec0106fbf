-- Cuts, one more of which is made.
use Rattle.std.proofs.Common.{◌≡◌, ℕ, ◌<◌, ◌≤◌, ◌⊎◌, inl, inr, true, false, List, [], ◌∷◌, ◌++◌, arith, refl}
use Rattle.std.proofs.Common.{ap, ◌∙◌, drop, ◌+◌}
use Rattle.std.proofs.Common.{sym, nat_le, if◌then◌else◌, ◌==◌}
use Rattle.std.proofs.lemmas.Bool.{and_from, and_parts, cases_lt, eq-eqb, eqb-true, le-leb, le-ltb, leb-true, lt-leb}
use Rattle.std.proofs.lemmas.Bool.{lt-ltb, or_cases}
use Rattle.std.proofs.lemmas.Bool.{or_left, or_right, true≢false}
use Rattle.gob_appended.specs.Cuts.{Leaves, are_before, has_cut, left_out_at}
use Rattle.gob_appended.specs.declared.places.Cut.{Cut}

-- no cut is behind the offset
abbrev AreBefore : ℕ → List Cut → Type 0
AreBefore n [] = Unit {0}
AreBefore n (c ∷ cs) = (c.at ≤ n) × AreBefore n cs

-- a cut is at the offset
abbrev HasCut : ℕ → List Cut → Type 0
HasCut n [] = ⊥
HasCut n (c ∷ cs) = (c.at ≡ n) ⊎ HasCut n cs

before_from : (n : ℕ) (cs : List Cut) → are_before n cs ≡ true → AreBefore n cs
before_from n [] e = tt
before_from n (c ∷ cs) e =
    let p = and_parts (nat_le c.at n) (are_before n cs) e in (leb-true c.at n p.0, before_from n cs p.1)

cut_from : (n : ℕ) (cs : List Cut) → has_cut n cs ≡ true → HasCut n cs
cut_from n [] e = absurd (true≢false (sym e))
cut_from n (c ∷ cs) e =
    elim (or_cases (c.at == n) (has_cut n cs) e) [ inl l ↦ inl (eqb-true c.at n l) | inr r ↦ inr (cut_from n cs r) ]

pub before_more : (m n : ℕ) (cs : List Cut) → m ≤ n → are_before m cs ≡ true → are_before n cs ≡ true
before_more m n [] l b = refl
before_more m n (c ∷ cs) l b =
    let p = and_parts (nat_le c.at m) (are_before m cs) b in
    let q = leb-true c.at m p.0 in
    and_from (nat_le c.at n) (are_before n cs) (le-leb c.at n (omega arith)) (before_more m n cs l p.1)

pub before_pushed : (n : ℕ) (cs : List Cut) (c : Cut) → c.at ≡ n → are_before n cs ≡ true
    → are_before n (cs ++ c ∷ []) ≡ true
before_pushed n [] c e b = and_from (nat_le c.at n) true (le-leb c.at n (omega arith)) refl
before_pushed n (d ∷ cs) c e b =
    let p = and_parts (nat_le d.at n) (are_before n cs) b in
    and_from (nat_le d.at n) (are_before n (cs ++ c ∷ [])) p.0 (before_pushed n cs c e p.1)

pub cut_pushed : (n : ℕ) (cs : List Cut) (c : Cut) → c.at ≡ n → has_cut n (cs ++ c ∷ []) ≡ true
cut_pushed n [] c e = or_left (c.at == n) false (eq-eqb c.at n e)
cut_pushed n (d ∷ cs) c e = or_right (d.at == n) (has_cut n (cs ++ c ∷ [])) (cut_pushed n cs c e)

-- behind all cuts all counts
all_left_out : (n k all : ℕ) (cs : List Cut) → AreBefore n cs → n ≤ k → left_out_at all cs k ≡ all
all_left_out n k all [] b l = refl
all_left_out n k all (c ∷ cs) b l =
    let low : c.at ≤ k = omega (arith, b.0) in
    rw (le-ltb k c.at low) (all_left_out n k all cs b.1 l)

pub all_before : (n k all : ℕ) (cs : List Cut) → are_before n cs ≡ true → n ≤ k → left_out_at all cs k ≡ all
all_before n k all cs b l = all_left_out n k all cs (before_from n cs b) l

below : (k all : ℕ) (c : Cut) (cs : List Cut) → k < c.at → left_out_at all (c ∷ cs) k ≡ c.before
below k all c cs l = rw (lt-ltb k c.at l) refl

above : (k all : ℕ) (c : Cut) (cs : List Cut) → c.at ≤ k → left_out_at all (c ∷ cs) k ≡ left_out_at all cs k
above k all c cs l = rw (le-ltb k c.at l) refl

-- before a cut what is left out behind it doesn't
same_before : (n k all more : ℕ) (cs : List Cut) → HasCut n cs → k < n → left_out_at more cs k ≡ left_out_at all cs k
same_before n k all more [] h l = absurd h
same_before n k all more (c ∷ cs) h l =
    elim (cases_lt k c.at) [
      | inl m ↦ below k more c cs m ∙ sym (below k all c cs m)
      | inr m ↦ above k more c cs m
          ∙ elim h [ inl e ↦ absurd (omega arith) | inr r ↦ same_before n k all more cs r l ]
          ∙ sym (above k all c cs m)
    ]

pushed_before : (k more : ℕ) (cs : List Cut) (c : Cut) → k < c.at
    → left_out_at more (cs ++ c ∷ []) k ≡ left_out_at c.before cs k
pushed_before k more [] c l = below k more c [] l
pushed_before k more (d ∷ cs) c l =
    elim (cases_lt k d.at) [
      | inl m ↦ below k more d (cs ++ c ∷ []) m ∙ sym (below k c.before d cs m)
      | inr m ↦ above k more d (cs ++ c ∷ []) m ∙ pushed_before k more cs c l ∙ sym (above k c.before d cs m)
    ]

choose : (n k x y z : ℕ) → (n ≤ k → x ≡ y) → (k < n → x ≡ z) → x ≡ (if nat_le n k then y else z)
choose n k x y z a b = by (cases_lt k n)
  where
    by : (k < n) ⊎ (n ≤ k) → x ≡ (if nat_le n k then y else z)
    by (inl l) = rw (lt-leb n k l) (b l)
    by (inr l) = rw (le-leb n k l) (a l)

-- more is left out at the last cut
pub leaves_more : (n all more : ℕ) (cs : List Cut) → are_before n cs ≡ true → has_cut n cs ≡ true
    → Leaves n all more cs cs
leaves_more n all more cs b h k =
    choose n k _ _ _ (all_left_out n k more cs (before_from n cs b)) (same_before n k all more cs (cut_from n cs h))

-- or at a new one
pub leaves_anew : (n all more : ℕ) (cs new : List Cut) (c : Cut) → are_before n cs ≡ true → c.at ≡ n → c.before ≡ all
    → new ≡ cs ++ c ∷ [] → Leaves n all more cs new
leaves_anew n all more cs new c b e f is k =
    choose n k _ _ _
    (λ l. ap (λ r. left_out_at more r k) is ∙ all_left_out n k more (cs ++ c ∷ [])
    (before_from n (cs ++ c ∷ []) (before_pushed n cs c e b)) l)
    (λ l. ap (λ r. left_out_at more r k) is ∙ pushed_before k more cs c (omega arith) ∙ ap (λ a. left_out_at a cs k) f)

-- ---- the search for it

pub found_at : (k all i : ℕ) (cs : List Cut) (c : Cut) → drop i cs ≡ c ∷ drop (i + 1) cs → k < c.at
    → left_out_at all (drop i cs) k ≡ left_out_at all cs k → c.before ≡ left_out_at all cs k
found_at k all i cs c e l h = sym (below k all c (drop (i + 1) cs) l) ∙ ap (λ r. left_out_at all r k) (sym e) ∙ h

pub passed_at : (k all i : ℕ) (cs : List Cut) (c : Cut) → drop i cs ≡ c ∷ drop (i + 1) cs → c.at ≤ k
    → left_out_at all (drop i cs) k ≡ left_out_at all cs k
    → left_out_at all (drop (i + 1) cs) k ≡ left_out_at all cs k
passed_at k all i cs c e l h = sym (above k all c (drop (i + 1) cs) l) ∙ ap (λ r. left_out_at all r k) (sym e) ∙ h
