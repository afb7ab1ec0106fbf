-- Places of bytes, and the numbers that stand there.
use Rattle.std.proofs.Common.{◌≡◌, ◌≢◌, ℕ, ◌+◌, ◌-◌, ◌<◌, ◌≤◌, List, [], ◌++◌, length, take, drop, sym, ap, ◌∙◌, subst}
use Rattle.std.proofs.Common.{arith, length-append}
use Rattle.std.proofs.lemmas.List.{drop-drop, take-append-drop, length-drop, length-take-le}
use Rattle.std.proofs.Math.Seq.{drop-append_seam, take-append_seam}
use Rattle.gob_num.specs.Unsigned.{IsUnsigned, short, long}
use Rattle.gob_num.specs.Place.{IsUnsignedAt}
use Rattle.gob_num.proofs.PublicLaws.{unsigned_prefix}
use Rattle.gob_read.proofs.Machine.Pieces.{take_further}
use Rattle.gob_explain.specs.Walk.{between}

pub take_between : (body : List ℕ) (a b : ℕ) → a ≤ b → take a body ++ between a b body ≡ take b body
take_between body a b l =
    let up : a + (b - a) ≡ b = omega arith in sym (take_further body a (b - a)) ∙ ap (λ n. take n body) up

pub between_length : (body : List ℕ) (a b : ℕ) → a ≤ b → b ≤ length body → length (between a b body) ≡ b - a
between_length body a b l m = length-take-le (b - a) (drop a body) (omega (arith, length-drop a body))

pub between_rest : (body : List ℕ) (a b : ℕ) → a ≤ b → between a b body ++ drop b body ≡ drop a body
between_rest body a b l =
    let there : a + (b - a) ≡ b = omega arith in
    ap (λ d. take (b - a) (drop a body) ++ d) (sym (drop-drop (b - a) a body ∙ ap (λ i. drop i body) there))
    ∙ take-append-drop (b - a) (drop a body)

no_number : {n : ℕ} {b : List ℕ} → IsUnsigned n b → length b ≢ 0
no_number (short l) e = absurd (omega arith)
no_number (long l) e = absurd (omega arith)

-- a number that is spelled there stands there
pub stands_there : {n : ℕ} (body : List ℕ) (a b : ℕ) → a ≤ b → b ≤ length body → IsUnsigned n (between a b body)
    → IsUnsignedAt n body a b
stands_there body a b l m u =
    let some = no_number u in
    let size = between_length body a b l m in
    record { order = omega arith; inside = m; spelled = u }

-- and it is the only one
pub one_there : {n m : ℕ} (body : List ℕ) (a b c : ℕ) → IsUnsignedAt n body a b → IsUnsignedAt m body a c → n ≡ m
one_there body a b c p q =
    (unsigned_prefix (drop b body) (drop c body) p.spelled q.spelled
    (between_rest body a b (omega (arith, p.order)) ∙ sym (between_rest body a c (omega (arith, q.order))))).value

-- these bytes are left from the place on
abbrev pub IsLeft : List ℕ → ℕ → List ℕ → Type 0
IsLeft bytes at rest = (drop at bytes ≡ rest) × (at ≤ length bytes)

-- the first of them stand there, and behind them the others are left
pub left_front : (bytes : List ℕ) (at : ℕ) (a rest : List ℕ) → IsLeft bytes at (a ++ rest)
    → between at (at + length a) bytes ≡ a
left_front bytes at a rest left =
    let size : at + length a - at ≡ length a = omega arith in
    ap (λ n. take n (drop at bytes)) size ∙ ap (λ l. take (length a) l) left.0 ∙ take-append_seam a rest

pub left_behind : (bytes : List ℕ) (at : ℕ) (a rest : List ℕ) → IsLeft bytes at (a ++ rest) → 0 < length a
    → IsLeft bytes (at + length a) rest
left_behind bytes at a rest left some =
    let count : length a + length rest ≡ length bytes - at =
    sym (length-append a rest) ∙ ap length (sym left.0) ∙ length-drop at bytes in (
      sym (drop-drop (length a) at bytes) ∙ ap (λ l. drop (length a) l) left.0 ∙ drop-append_seam a rest,
      omega (arith, left.1),
    )

-- nothing is left at the end
pub none_left : (bytes : List ℕ) (at : ℕ) → IsLeft bytes at [] → at ≡ length bytes
none_left bytes at left =
    let none = ap length left.0 in omega (arith, none, length-drop at bytes, left.1)

-- a number with which the bytes that are left begin stands there
pub number_left : {bytes : List ℕ} {at n : ℕ} (a rest : List ℕ) → IsLeft bytes at (a ++ rest) → IsUnsigned n a
    → IsUnsignedAt n bytes at (at + length a)
number_left {bytes = bytes} {at = at} {n = n} a rest left u =
    let some = no_number u in
    let behind = left_behind bytes at a rest left (omega arith) in
    record {
      order = omega arith;
      inside = behind.1;
      spelled = subst (λ b. IsUnsigned n b) (sym (left_front bytes at a rest left)) u;
    }

-- and it is the number of the bytes from there to where it ends
pub record NumberLeft (bytes : List ℕ) (at end : ℕ) (a rest : List ℕ) : Type 0 where
  pub bytes_are : between at end bytes ≡ a
  pub left : IsLeft bytes end rest

pub only_left : {bytes : List ℕ} {at end m n : ℕ} (a rest : List ℕ) → IsLeft bytes at (a ++ rest) → IsUnsigned n a
    → IsUnsignedAt m bytes at end → NumberLeft bytes at end a rest
only_left {bytes = bytes} {at = at} {end = end} a rest left u p =
    let one = unsigned_prefix (drop end bytes) rest p.spelled u
    (between_rest bytes at end (omega (arith, p.order)) ∙ left.0) in
    record { bytes_are = one.bytes; left = (one.rest, p.inside) }
