-- Letters with counts in the places of their cuts.
use Rattle.std.proofs.Common.{◌≡◌, ℕ, List, [], ◌∷◌, ◌++◌, refl, sym, ap, ◌∙◌, subst, append_assoc, arith}
use Rattle.gob_num.specs.Unsigned.{AreBytes, IsUnsigned}
use Rattle.gob_filled.specs.Filled.{AreSegments, cut, last_segment, next_segment}
use Rattle.gob_filled.proofs.Sound.{segments_bytes}
use Rattle.gob_explain.specs.Whole.{HasCounts, a_byte, a_count, no_letter}

-- letters and others behind them
pub record Parts (x y b : List ℕ) : Type 0 where
  pub front : List ℕ
  pub rest : List ℕ
  pub whole : b ≡ front ++ rest
  pub first : HasCounts x front
  pub second : HasCounts y rest

pub parts : (x y : List ℕ) {b : List ℕ} → HasCounts (x ++ y) b → Parts x y b
parts [] y h = record { front = []; rest = _; whole = refl; first = no_letter; second = h }
parts (x ∷ xs) y (a_byte l h) =
    let r = parts xs y h in
    record {
      front = x ∷ r.front;
      rest = r.rest;
      whole = ap (λ (b : List ℕ). x ∷ b) r.whole;
      first = a_byte l r.first;
      second = r.second;
    }
parts (x ∷ xs) y (a_count {c = c} u h) =
    let r = parts xs y h in
    record {
      front = c ++ r.front;
      rest = r.rest;
      whole = ap (λ b. c ++ b) r.whole ∙ sym (append_assoc c r.front r.rest);
      first = a_count u r.first;
      second = r.second;
    }

-- bytes have no cut
pub plain : (x b : List ℕ) → AreBytes x → HasCounts x b → b ≡ x
plain x b o no_letter = refl
plain x b o (a_byte {x = y} {ls = ls} {b = c} l h) = ap (λ (b : List ℕ). y ∷ b) (plain ls c o.1 h)
plain x b o (a_count u h) = absurd (omega (arith, o.0))

-- bytes, and letters behind them
pub behind_bytes : (x y : List ℕ) {b : List ℕ} → AreBytes x → HasCounts (x ++ y) b
    → (rest : List ℕ) × (b ≡ x ++ rest) × HasCounts y rest
behind_bytes x y o h =
    let r = parts x y h in
    (r.rest, r.whole ∙ ap (λ a. a ++ r.rest) (plain x r.front o r.first), r.second)

-- the count behind a cut
pub behind_cut : (y : List ℕ) {b : List ℕ} → HasCounts (cut ∷ y) b
    → (n : ℕ) × (c : List ℕ) × (rest : List ℕ) × IsUnsigned n c × (b ≡ c ++ rest) × HasCounts y rest
behind_cut y (a_byte l h) = absurd (omega arith)
behind_cut y (a_count {n = n} {c = c} {b = b} u h) = (n, c, b, u, refl, h)

then_letters : (x : List ℕ) {y b : List ℕ} → AreBytes x → HasCounts y b → HasCounts (x ++ y) (x ++ b)
then_letters [] o h = h
then_letters (x ∷ xs) o h = a_byte o.0 (then_letters xs o.1 h)

no_cut : (x : List ℕ) → AreBytes x → HasCounts x x
no_cut [] o = no_letter
no_cut (x ∷ xs) o = a_byte o.0 (no_cut xs o.1)

-- segments are a count, and the letters with the counts of the other ones
pub record Counted (ls b : List ℕ) : Type 0 where
  pub number : ℕ
  pub count : List ℕ
  pub rest : List ℕ
  pub counts : IsUnsigned number count
  pub whole : b ≡ count ++ rest
  pub has : HasCounts ls rest

pub counted : {ls b : List ℕ} → AreSegments ls b → Counted ls b
counted (last_segment {c = c} s o u) =
    record { number = _; count = c; rest = s; counts = u; whole = refl; has = no_cut s o }
counted (next_segment {c = c} {ls = ls} {f = f} s o u m) =
    let k = counted m in
    record {
      number = _;
      count = c;
      rest = s ++ f;
      counts = u;
      whole = refl;
      has = subst (λ f. HasCounts (s ++ (cut ∷ ls)) (s ++ f)) (sym k.whole)
          (then_letters s o (a_count k.counts k.has));
    }

-- the bytes of a filling, of what stands before it and of what is left behind it
pub record FillingParts (c a s ds n ls ms b : List ℕ) : Type 0 where
  pub defined : List ℕ
  pub has_defined : HasCounts ds defined
  pub number : ℕ
  pub count : List ℕ
  pub counts : IsUnsigned number count
  pub held : List ℕ
  pub has_held : HasCounts ls held
  pub after : List ℕ
  pub has_after : HasCounts ms after
  pub all : (rest : List ℕ)
      → b ++ rest ≡ c ++ (a ++ (s ++ (defined ++ (n ++ (count ++ (held ++ (after ++ rest)))))))

filling_bytes : {b r0 r1 r2 r3 r4 r5 f : List ℕ} (c a s d n q k m rest : List ℕ) → b ≡ c ++ r0 → r0 ≡ r1 ++ m
    → r1 ≡ a ++ r2 → r2 ≡ s ++ r3 → r3 ≡ d ++ r4 → r4 ≡ n ++ r5 → r5 ≡ f → f ≡ q ++ k
    → b ++ rest ≡ c ++ (a ++ (s ++ (d ++ (n ++ (q ++ (k ++ (m ++ rest)))))))
filling_bytes c a s d n q k m rest e0 e1 e2 e3 e4 e5 e6 e7 =
    let all : (c ++ ((a ++ (s ++ (d ++ (n ++ (q ++ k))))) ++ m)) ++ rest
    ≡ c ++ (a ++ (s ++ (d ++ (n ++ (q ++ (k ++ (m ++ rest)))))))
    = simp append_assoc in
    cc

pub filling_parts : {ls f b : List ℕ} (c a s ds n ms : List ℕ) → AreBytes c → AreBytes a → AreBytes s → AreBytes n
    → AreSegments ls f → HasCounts (c ++ ((a ++ (s ++ (ds ++ (n ++ f)))) ++ ms)) b → FillingParts c a s ds n ls ms b
filling_parts {f = f} c a s ds n ms oc oa os on seg h =
    let p0 = behind_bytes c ((a ++ (s ++ (ds ++ (n ++ f)))) ++ ms) oc h in
    let p1 = parts (a ++ (s ++ (ds ++ (n ++ f)))) ms p0.2 in
    let p2 = behind_bytes a (s ++ (ds ++ (n ++ f))) oa p1.first in
    let p3 = behind_bytes s (ds ++ (n ++ f)) os p2.2 in
    let p4 = parts ds (n ++ f) p3.2 in
    let p5 = behind_bytes n f on p4.second in
    let p6 = plain f p5.0 (segments_bytes seg) p5.2 in
    let q = counted seg in
    record {
      defined = p4.front;
      has_defined = p4.first;
      number = q.number;
      count = q.count;
      counts = q.counts;
      held = q.rest;
      has_held = q.has;
      after = p1.rest;
      has_after = p1.second;
      all = λ rest. filling_bytes c a s p4.front n q.count q.rest p1.rest rest p0.1 p1.whole p2.1 p3.1 p4.whole p5.1
          p6 q.whole;
    }
