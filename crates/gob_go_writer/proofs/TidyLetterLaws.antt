-- Letters that are no longer than others, segment by segment, in the places of those.
use Rattle.std.proofs.Common.{◌≡◌, ℕ, ◌+◌, ◌-◌, ◌≤◌, List, [], ◌∷◌, ◌++◌, length, inl, inr, arith, refl}
use Rattle.std.proofs.Common.{sym, subst, append_assoc, length-append}
use Rattle.std.proofs.lemmas.Bool.{cases_lt}
use Rattle.gob_num.specs.Unsigned.{AreBytes, IsUnsigned, short, long}
use Rattle.gob_num.proofs.PublicLaws.{big_endian_below, bytes-append, bytes_rest, unsigned_fits, unsigned_length}
use Rattle.gob_num.proofs.PublicLaws.{unsigned_spelled}
use Rattle.gob_stream.specs.Bounds.{Bounds}
use Rattle.gob_filled.specs.Filled.{cut, AreSegments, last_segment, next_segment}
use Rattle.gob_filled.specs.Stream.{AreCounted, last_counted, next_counted}

-- the first letters have as many cuts as the others, and no longer segments
pub data NoLonger : List ℕ → List ℕ → Type 0 where
  last_no_longer : (s r : List ℕ) → AreBytes s → AreBytes r → length s ≤ length r → NoLonger s r
  next_no_longer : {ls ms : List ℕ} (s r : List ℕ) → AreBytes s → AreBytes r → length s ≤ length r → NoLonger ls ms
      → NoLonger (s ++ (cut ∷ ls)) (r ++ (cut ∷ ms))

-- ---- put together

pub bytes_before : {ls ms : List ℕ} (s r : List ℕ) → AreBytes s → AreBytes r → length s ≤ length r → NoLonger ls ms
    → NoLonger (s ++ ls) (r ++ ms)
bytes_before s r o k l (last_no_longer a b p q m) = last_no_longer (s ++ a) (r ++ b) (bytes-append s a o p)
    (bytes-append r b k q) (omega (arith, length-append s a, length-append r b))
bytes_before s r o k l (next_no_longer {ls = ls} {ms = ms} a b p q m n) =
    subst (NoLonger (s ++ (a ++ (cut ∷ ls)))) (append_assoc r b (cut ∷ ms))
    (subst (λ x. NoLonger x ((r ++ b) ++ (cut ∷ ms))) (append_assoc s a (cut ∷ ls))
    (next_no_longer (s ++ a) (r ++ b) (bytes-append s a o p) (bytes-append r b k q)
    (omega (arith, length-append s a, length-append r b)) n))

pub both_no_longer : {ls ms ks ns : List ℕ} → NoLonger ls ms → NoLonger ks ns → NoLonger (ls ++ ks) (ms ++ ns)
both_no_longer (last_no_longer s r o k l) n = bytes_before s r o k l n
both_no_longer {ks = ks} {ns = ns} (next_no_longer {ls = ls} {ms = ms} s r o k l m) n =
    subst (NoLonger ((s ++ (cut ∷ ls)) ++ ks)) (sym (append_assoc r (cut ∷ ms) ns))
    (subst (λ x. NoLonger x (r ++ (cut ∷ (ms ++ ns)))) (sym (append_assoc s (cut ∷ ls) ks))
    (next_no_longer s r o k l (both_no_longer m n)))

-- ---- taken apart

cons_inj : {x y : ℕ} {l k : List ℕ} → x ∷ l ≡ y ∷ k → (x ≡ y) × (l ≡ k)
cons_inj e = (cc, cc)

cons_alike : {x y : ℕ} {l k : List ℕ} → x ≡ y → l ≡ k → x ∷ l ≡ y ∷ k
cons_alike e f = cc

-- bytes up to the first cut
up_to_cut : (s r x y : List ℕ) → AreBytes s → AreBytes r → s ++ (cut ∷ x) ≡ r ++ (cut ∷ y) → (s ≡ r) × (x ≡ y)
up_to_cut [] [] x y o k e = (refl, (cons_inj e).1)
up_to_cut [] (b ∷ r) x y o k e = absurd (let h = (cons_inj e).0 in let l = k.0 in omega arith)
up_to_cut (a ∷ s) [] x y o k e = absurd (let h = (cons_inj e).0 in let l = o.0 in omega arith)
up_to_cut (a ∷ s) (b ∷ r) x y o k e =
    let h = cons_inj e in
    let t = up_to_cut s r x y o.1 k.1 h.1 in
    (cons_alike h.0 t.0, t.1)

no_cut : {A : Type 0} (s x : List ℕ) → AreBytes (s ++ (cut ∷ x)) → A
no_cut s x o = absurd (let l = (bytes_rest s (cut ∷ x) o).0 in omega arith)

-- letters that are no longer than bytes
record NoLongerBytes (ls r : List ℕ) : Type 0 where
  are_bytes : AreBytes ls
  shorter : length ls ≤ length r

by_bytes : {ls r : List ℕ} → AreBytes r → NoLonger ls r → NoLongerBytes ls r
by_bytes o (last_no_longer s r p k l) = record { are_bytes = p; shorter = l }
by_bytes o (next_no_longer {ms = ms} s r p k l n) = no_cut r ms o

-- letters that are no longer than bytes, a cut and other letters
record NoLongerFront (ls r ms : List ℕ) : Type 0 where
  first : List ℕ
  rest : List ℕ
  are_bytes : AreBytes first
  shorter : length first ≤ length r
  whole : ls ≡ first ++ (cut ∷ rest)
  behind : NoLonger rest ms

by_front : {ls ks : List ℕ} (r ms : List ℕ) → AreBytes r → NoLonger ls ks → ks ≡ r ++ (cut ∷ ms)
    → NoLongerFront ls r ms
by_front r ms o (last_no_longer s q p k l) e = no_cut r ms (subst AreBytes e k)
by_front r ms o (next_no_longer {ls = ls} {ms = ks} s q p k l n) e =
    let h = up_to_cut q r ks ms k o e in
    record {
      first = s;
      rest = ls;
      are_bytes = p;
      shorter = subst (λ (x : List ℕ). length s ≤ length x) h.0 l;
      whole = refl;
      behind = subst (NoLonger ls) h.1 n;
    }

-- ---- counts

count_no_longer : {m n : ℕ} {c d : List ℕ} → IsUnsigned n c → IsUnsigned m d → m ≤ n → length d ≤ length c
count_no_longer p (short l) k = omega (arith, unsigned_length p)
count_no_longer (short l) (long q) k = absurd (let g = q.large in omega arith)
count_no_longer (long {digits = cs} p) (long {digits = ds} q) k = elim (cases_lt (length cs) (length ds)) [
  | inl l ↦ absurd (let v = p.value in omega (arith, q.least (length cs) l, big_endian_below cs p.bytes))
  | inr l ↦ omega arith
]

-- a segment behind its count
pub record IsCountedAgain (s c r : List ℕ) : Type 0 where
  pub count : List ℕ
  pub counts : IsUnsigned (length s) count
  pub shorter : length (count ++ s) ≤ length (c ++ r)

pub counted_so : (s r : List ℕ) {c : List ℕ} → IsUnsigned (length r) c → length s ≤ length r → IsCountedAgain s c r
counted_so s r {c = c} u l =
    let f = unsigned_fits u in
    let n = unsigned_spelled (length s) (omega arith) in
    record {
      count = n.bytes;
      counts = n.spelled;
      shorter = omega (arith, length-append n.bytes s, length-append c r, count_no_longer u n.spelled l);
    }

-- ---- segments

pub record SegmentsAgain (ls f : List ℕ) : Type 0 where
  pub bytes : List ℕ
  pub segments : AreSegments ls bytes
  pub shorter : length bytes ≤ length f

pub segments_again : {ls ms f : List ℕ} → AreSegments ms f → NoLonger ls ms → SegmentsAgain ls f
segments_again {ls = ls} (last_segment s o u) n =
    let b = by_bytes o n in
    let c = counted_so ls s u b.shorter in
    record { bytes = c.count ++ ls; segments = last_segment ls b.are_bytes c.counts; shorter = c.shorter }
segments_again {ls = ls} (next_segment {c = c} {ls = ms} {f = f} s o u m) n =
    let b = by_front s ms o n refl in
    let k = counted_so b.first s u b.shorter in
    let r = segments_again {ls = b.rest} m b.behind in
    let bound = k.shorter in let less = r.shorter in
    record {
      bytes = k.count ++ (b.first ++ r.bytes);
      segments = subst (λ x. AreSegments x (k.count ++ (b.first ++ r.bytes))) (sym b.whole)
          (next_segment b.first b.are_bytes k.counts r.segments);
      shorter = omega (
        arith,
        length-append k.count (b.first ++ r.bytes),
        length-append b.first r.bytes,
        length-append k.count b.first,
        length-append c (s ++ f),
        length-append s f,
        length-append c s,
      );
    }

-- ---- those of an item

pub record CountedAgain (L : Bounds) (most offset : ℕ) (ls f : List ℕ) : Type 0 where
  pub bytes : List ℕ
  pub counted : AreCounted L most offset ls bytes
  pub shorter : length bytes ≤ length f

pub counted_again : {L : Bounds} {most more offset lower : ℕ} {ls ms f : List ℕ} → AreCounted L most offset ms f
    → NoLonger ls ms → lower ≤ offset → most ≤ more → CountedAgain L more lower ls f
counted_again {ls = ls} (last_counted s o u l k) n low most =
    let b = by_bytes o n in
    let c = counted_so ls s u b.shorter in
    let few = c.shorter in let less = b.shorter in
    record {
      bytes = c.count ++ ls;
      counted = last_counted ls b.are_bytes c.counts (omega arith) (omega arith);
      shorter = c.shorter;
    }
counted_again {L = L} {more = more} {lower = lower} (next_counted {c = c} {ls = ms} {f = f} s o u l k next m) n low
    most =
    let b = by_front s ms o n refl in
    let h = counted_so b.first s u b.shorter in
    let few = h.shorter in let less = b.shorter in
    let r = counted_again {more = more - length b.first} {lower = lower + length (h.count ++ b.first)} {ls = b.rest} m
    b.behind
    (omega arith) (omega arith) in
    let rest = r.shorter in
    record {
      bytes = h.count ++ (b.first ++ r.bytes);
      counted = subst (λ x. AreCounted L more lower x (h.count ++ (b.first ++ r.bytes))) (sym b.whole)
          (next_counted b.first b.are_bytes h.counts (omega arith) (omega arith) refl r.counted);
      shorter = omega (
        arith,
        length-append h.count (b.first ++ r.bytes),
        length-append b.first r.bytes,
        length-append h.count b.first,
        length-append c (s ++ f),
        length-append s f,
        length-append c s,
      );
    }
