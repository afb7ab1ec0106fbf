-- What bytes are to the spellings of unsigned numbers: a prefix, a whole one, more than one, or the beginning of none.
use Rattle.std.proofs.Common.{◌≡◌, ◌≢◌, ℕ, zero, suc, ◌+◌, ◌-◌, ◌*◌, ◌^◌, ◌<◌, ◌≤◌, ◌⊎◌, inl, inr, List, [], ◌∷◌, ◌++◌}
use Rattle.std.proofs.Common.{length, arith, refl, sym, ap, ◌∙◌, subst, length-append, append_assoc, replicate}
use Rattle.std.proofs.lemmas.Bool.{cases_lt}
use Rattle.std.proofs.lemmas.List.{length-replicate, append-nil}
use Rattle.gob_num.specs.Unsigned.{big_endian, AreBytes, IsCounted, IsUnsigned, short, long, IsUnsignedPrefix}
use Rattle.gob_num.specs.Unsigned.{BeginsNumber, GoesPastNumber, IsBadHead, IsNotMinimal}
use Rattle.gob_num.specs.Laws.{Beginning, prefix, whole, past, bad_head, not_minimal, Begins}
use Rattle.gob_num.proofs.DigitLaws.{pow256_mono, bytes_prefix, bytes-append, high_digit, two_digits}
use Rattle.gob_num.proofs.UnsignedLaws.{unsigned_prefix}

-- digits of which the first is not 0, and as many as the head says, are a spelling
pub counted : (h d : ℕ) (ds : List ℕ) → 248 ≤ h → h + length (d ∷ ds) ≡ 256 → 0 < d → AreBytes (d ∷ ds)
    → 128 ≤ big_endian (d ∷ ds) → IsUnsigned (big_endian (d ∷ ds)) (h ∷ d ∷ ds)
counted h d ds low e p b large = long (record {
  large = large;
  head_counts = e;
  few = omega arith;
  bytes = b;
  value = refl;
  least = λ k l. omega (arith, pow256_mono k (length ds) (omega arith), high_value d (256 ^ length ds) p);
})
  where
    high_value : (d w : ℕ) → 0 < d → w ≤ d * w
    high_value zero w p = absurd (omega arith)
    high_value (suc d) w p = omega arith

-- ---- prefixes, said in both ways
some_length : (r : List ℕ) → r ≢ [] → 0 < length r
some_length [] m = absurd (m refl)
some_length (d ∷ r) m = omega arith

-- a proper prefix of a spelling begins so
pub prefix_begins : {bytes : List ℕ} → IsUnsignedPrefix bytes → BeginsNumber bytes
prefix_begins {bytes = bytes} f = begins bytes (bytes ++ f.rest) f.rest f.number f.spelled refl f.more
  where
    no_room : (bytes r : List ℕ) (n : ℕ) → r ≢ [] → n ∷ [] ≡ bytes ++ r → BeginsNumber bytes
    no_room [] r n m e = tt
    no_room (b ∷ bytes) r n m e =
        let z : [] ≡ bytes ++ r = cc in
        absurd (omega (arith, ap length z, length-append bytes r, some_length r m))

    counted_begins : (bytes r : List ℕ) (n h : ℕ) (ds : List ℕ) → r ≢ [] → IsCounted n h ds → h ∷ ds ≡ bytes ++ r
        → BeginsNumber bytes
    counted_begins [] r n h ds m c e = tt
    counted_begins (g ∷ []) r n h ds m c e =
        let heads : h ≡ g = cc in
        let rest : ds ≡ r = cc in
        let l = some_length r m in
        let s : length ds ≡ length r = ap length rest in
        (omega arith, omega arith)
    counted_begins (g ∷ d ∷ bytes) r n h ds m c e =
        let heads : h ≡ g = cc in
        let rest : ds ≡ d ∷ bytes ++ r = cc in
        let l = some_length r m in
        let sum = length-append bytes r in
        let s : length ds ≡ suc (length (bytes ++ r)) = ap length rest in
        let b : AreBytes (d ∷ bytes ++ r) = subst AreBytes rest c.bytes in
        let v : big_endian (d ∷ bytes ++ r) ≡ n = sym (ap big_endian rest) ∙ c.value in (
          omega arith,
          omega arith,
          high_digit d (bytes ++ r) b.1 (let l = c.least (length (bytes ++ r)) (omega arith) in omega arith),
          (b.0, bytes_prefix bytes r b.1),
        )

    begins : (bytes s r : List ℕ) (n : ℕ) → IsUnsigned n s → s ≡ bytes ++ r → r ≢ [] → BeginsNumber bytes
    begins bytes s r n (short p) e m = no_room bytes r n m e
    begins bytes s r n (long {head = h} {digits = ds} c) e m = counted_begins bytes r n h ds m c e

zeros : ℕ → List ℕ
zeros k = replicate k 0

zeros_length : (k : ℕ) → length (zeros k) ≡ k
unfolding zeros
zeros_length k = length-replicate k 0

bytes_zeros : (k : ℕ) → AreBytes (zeros k)
unfolding zeros
bytes_zeros zero = tt
bytes_zeros (suc k) = (omega arith, bytes_zeros k)

-- what begins so is a proper prefix of a spelling
pub begins_prefix : {bytes : List ℕ} → BeginsNumber bytes → IsUnsignedPrefix bytes
begins_prefix {bytes = bytes} b = goes_on bytes b
  where
    goes_on : (bytes : List ℕ) → BeginsNumber bytes → IsUnsignedPrefix bytes
    goes_on [] b = record { number = 0; rest = 0 ∷ []; more = λ e. cc; spelled = short (omega arith) }
    goes_on (h ∷ []) b =
        elim (cases_lt h 255) [
          | inl l ↦
              let n = zeros_length (255 - h) in
              record {
                number = big_endian (1 ∷ zeros (255 - h));
                rest = 1 ∷ zeros (255 - h);
                more = λ e. cc;
                spelled = counted h 1 (zeros (255 - h)) b.0 (omega arith) (omega arith)
                    (omega arith, bytes_zeros (255 - h))
                    (two_digits 1 (zeros (255 - h)) (omega arith) (omega arith));
              }
          | inr l ↦
              record {
                number = big_endian (128 ∷ []);
                rest = 128 ∷ [];
                more = λ e. cc;
                spelled = counted h 128 [] b.0 (omega arith) (omega arith) (omega arith, tt) (omega arith);
              }
        ]
    goes_on (h ∷ d ∷ ds) b =
        let m = 255 - (h + length ds) in
        let n = zeros_length m in
        let total = length-append ds (zeros m) in
        record {
          number = big_endian (d ∷ ds ++ zeros m);
          rest = zeros m;
          more = λ e. absurd (let z : length (zeros m) ≡ 0 = ap length e in omega arith);
          spelled = counted h d (ds ++ zeros m) b.0 (omega arith) b.2
              (b.3.0, bytes-append ds (zeros m) b.3.1 (bytes_zeros m))
              (two_digits d (ds ++ zeros m) b.2 (omega arith));
        }

-- ---- bytes with which no spelling begins, nor with what follows them
pub bad_head_none : (bytes : List ℕ) → IsBadHead bytes → {n : ℕ} {b : List ℕ} (x y : List ℕ) → IsUnsigned n b
    → bytes ++ x ≡ b ++ y → ⊥
bad_head_none [] h x y s e = h
bad_head_none (c ∷ bytes) h {n = n} x y (short p) e = let heads : c ≡ n = cc in omega arith
bad_head_none (c ∷ bytes) h x y (long {head = g} p) e = let heads : c ≡ g = cc in omega arith

one_low : (f : ℕ) (b : List ℕ) (n : ℕ) → length b ≡ 0 → big_endian (f ∷ b) ≡ n → 128 ≤ n → f < 128 → ⊥
one_low f [] n l v g h = omega arith
one_low f (x ∷ b) n l v g h = omega arith

pub not_minimal_none : (bytes : List ℕ) → IsNotMinimal bytes → {n : ℕ} {b : List ℕ} (x y : List ℕ) → IsUnsigned n b
    → bytes ++ x ≡ b ++ y → ⊥
not_minimal_none [] h x y s e = h
not_minimal_none (c ∷ []) h x y s e = h
not_minimal_none (c ∷ d ∷ bytes) h {n = n} x y (short p) e =
    let heads : c ≡ n = cc in
    elim h [ inl k ↦ omega arith | inr k ↦ omega arith ]
not_minimal_none (c ∷ d ∷ bytes) h x y (long {head = g} {digits = []} p) e = absurd (let v = p.value in omega arith)
not_minimal_none (c ∷ d ∷ bytes) h {n = n} x y (long {head = g} {digits = f ∷ ds} p) e =
    let heads : c ≡ g = cc in
    let seconds : d ≡ f = cc in
    elim h [
      | inl k ↦ one_low f ds n (omega arith) p.value p.large (omega arith)
      | inr k ↦ omega (
        arith,
        high_digit f ds p.bytes.1
            (let v = p.value in let l = p.least (length ds) (omega arith) in omega arith),
      )
    ]

-- ---- bytes begin in one of five ways
-- a list is shorter, or has a prefix of that length
record Cut (n : ℕ) (bytes : List ℕ) : Type 0 where
  pub prefix : List ℕ
  pub rest : List ℕ
  pub all : bytes ≡ prefix ++ rest
  pub size : length prefix ≡ n

cut : (n : ℕ) (bytes : List ℕ) → (length bytes < n) ⊎ Cut n bytes
cut zero bytes = inr (record { prefix = []; rest = bytes; all = refl; size = refl })
cut (suc n) [] = inl (omega arith)
cut (suc n) (b ∷ bytes) =
    elim (cut n bytes) [
      | inl l ↦ inl (omega arith)
      | inr c ↦ inr (record { prefix = b ∷ c.prefix; rest = c.rest; all = ap (λ l. b ∷ l) c.all; size = ap suc c.size })
    ]

abbrev BeginSo : List ℕ → Type 0
BeginSo bytes = (k : Beginning) × Begins k bytes

-- a spelling, and what follows it
spelled_before : (n : ℕ) (b y bytes : List ℕ) → IsUnsigned n b → bytes ≡ b ++ y → BeginSo bytes
spelled_before n b [] bytes s e = (whole, (n, subst (IsUnsigned n) (sym (e ∙ append-nil b)) s))
spelled_before n b (c ∷ y) bytes s e = (
  past,
  record
      { number = n; prefix = b; rest = c ∷ y; more = λ z. cc; spelled = s; whole = e },
)

with_digits : (h d : ℕ) (ds : List ℕ) → 248 ≤ h → AreBytes (h ∷ d ∷ ds) → BeginSo (h ∷ d ∷ ds)
with_digits h d ds k p =
    elim (cases_lt 0 d) [
      | inr z ↦ elim (cases_lt h 255) [
        | inl j ↦ (not_minimal, inr (k, j, omega arith))
        | inr j ↦ (not_minimal, inl (omega arith, omega arith))
      ]
      | inl z ↦ elim (cases_lt h 255) [
        | inr j ↦ elim (cases_lt d 128) [
          | inl low ↦ (not_minimal, inl (omega arith, low))
          | inr low ↦ spelled_before (d * 1 + 0) (h ∷ d ∷ []) ds (h ∷ d ∷ ds)
              (counted h d [] k (omega arith) z (p.1.0, tt) (omega arith)) refl
        ]
        | inl j ↦ elim (cut (255 - h) ds) [
          | inl few ↦ (prefix, begins_prefix (k, omega arith, z, p.1))
          | inr c ↦
              let size : length c.prefix ≡ 255 - h = c.size in
              let b : AreBytes (c.prefix ++ c.rest) = subst AreBytes c.all p.1.1 in
              spelled_before (big_endian (d ∷ c.prefix)) (h ∷ d ∷ c.prefix) c.rest (h ∷ d ∷ ds)
              (counted h d c.prefix k (omega arith) z (p.1.0, bytes_prefix c.prefix c.rest b)
              (two_digits d c.prefix z (omega arith)))
              (ap (λ l. h ∷ d ∷ l) c.all)
        ]
      ]
    ]

pub begin_somehow : (bytes : List ℕ) → AreBytes bytes → (k : Beginning) × Begins k bytes
begin_somehow [] p = (prefix, begins_prefix tt)
begin_somehow (h ∷ t) p =
    elim (cases_lt h 128) [
      | inl l ↦ spelled_before h (h ∷ []) t (h ∷ t) (short l) refl
      | inr l ↦ elim (cases_lt h 248) [
        | inl k ↦ (bad_head, (l, k))
        | inr k ↦ by_tail h t k p
      ]
    ]
  where
    by_tail : (h : ℕ) (t : List ℕ) → 248 ≤ h → AreBytes (h ∷ t) → BeginSo (h ∷ t)
    by_tail h [] k p = (prefix, begins_prefix (k, p.0))
    by_tail h (d ∷ ds) k p = with_digits h d ds k p

-- ---- and in no two of them
no_more : (a b : List ℕ) → a ≢ [] → [] ≡ a ++ b → ⊥
no_more [] b m e = m refl
no_more (c ∷ a) b m e = cc

pub prefix_not_whole : {bytes : List ℕ} → IsUnsignedPrefix bytes → {n : ℕ} → IsUnsigned n bytes → ⊥
prefix_not_whole {bytes = bytes} f s = f.more (sym
    (unsigned_prefix [] f.rest f.spelled s (append-nil (bytes ++ f.rest))).rest)

pub prefix_not_past : {bytes : List ℕ} → IsUnsignedPrefix bytes → GoesPastNumber bytes → ⊥
prefix_not_past {bytes = bytes} f g =
    let e : (bytes ++ f.rest) ++ [] ≡ g.prefix ++ (g.rest ++ f.rest) =
    append-nil (bytes ++ f.rest) ∙ ap (λ l. l ++ f.rest) g.whole ∙ append_assoc g.prefix g.rest f.rest in
    no_more g.rest f.rest g.more (unsigned_prefix [] (g.rest ++ f.rest) f.spelled g.spelled e).rest

pub whole_not_past : {bytes : List ℕ} {n : ℕ} → IsUnsigned n bytes → GoesPastNumber bytes → ⊥
whole_not_past {bytes = bytes} s g = g.more (sym (unsigned_prefix [] g.rest s g.spelled
    (append-nil bytes ∙ g.whole)).rest)

pub prefix_not_bad_head : {bytes : List ℕ} → IsUnsignedPrefix bytes → IsBadHead bytes → ⊥
prefix_not_bad_head {bytes = bytes} f h = bad_head_none bytes h f.rest [] f.spelled (sym (append-nil (bytes ++ f.rest)))

pub whole_not_bad_head : {bytes : List ℕ} {n : ℕ} → IsUnsigned n bytes → IsBadHead bytes → ⊥
whole_not_bad_head {bytes = bytes} s h = bad_head_none bytes h [] [] s refl

pub past_not_bad_head : {bytes : List ℕ} → GoesPastNumber bytes → IsBadHead bytes → ⊥
past_not_bad_head {bytes = bytes} g h = bad_head_none bytes h [] g.rest g.spelled (append-nil bytes ∙ g.whole)

pub prefix_not_padded : {bytes : List ℕ} → IsUnsignedPrefix bytes → IsNotMinimal bytes → ⊥
prefix_not_padded {bytes = bytes} f h = not_minimal_none bytes h f.rest [] f.spelled
    (sym (append-nil (bytes ++ f.rest)))

pub whole_not_padded : {bytes : List ℕ} {n : ℕ} → IsUnsigned n bytes → IsNotMinimal bytes → ⊥
whole_not_padded {bytes = bytes} s h = not_minimal_none bytes h [] [] s refl

pub past_not_padded : {bytes : List ℕ} → GoesPastNumber bytes → IsNotMinimal bytes → ⊥
past_not_padded {bytes = bytes} g h = not_minimal_none bytes h [] g.rest g.spelled (append-nil bytes ∙ g.whole)

pub bad_head_not_padded : (bytes : List ℕ) → IsBadHead bytes → IsNotMinimal bytes → ⊥
bad_head_not_padded [] h n = h
bad_head_not_padded (b ∷ []) h n = n
bad_head_not_padded (b ∷ d ∷ bytes) h n = elim n [ inl k ↦ omega arith | inr k ↦ omega arith ]

pub begin_one_way : (j k : Beginning) (bytes : List ℕ) → Begins j bytes → Begins k bytes → j ≡ k
begin_one_way prefix prefix bytes p q = refl
begin_one_way prefix whole bytes p q = absurd (prefix_not_whole p q.1)
begin_one_way prefix past bytes p q = absurd (prefix_not_past p q)
begin_one_way prefix bad_head bytes p q = absurd (prefix_not_bad_head p q)
begin_one_way prefix not_minimal bytes p q = absurd (prefix_not_padded p q)
begin_one_way whole prefix bytes p q = absurd (prefix_not_whole q p.1)
begin_one_way whole whole bytes p q = refl
begin_one_way whole past bytes p q = absurd (whole_not_past p.1 q)
begin_one_way whole bad_head bytes p q = absurd (whole_not_bad_head p.1 q)
begin_one_way whole not_minimal bytes p q = absurd (whole_not_padded p.1 q)
begin_one_way past prefix bytes p q = absurd (prefix_not_past q p)
begin_one_way past whole bytes p q = absurd (whole_not_past q.1 p)
begin_one_way past past bytes p q = refl
begin_one_way past bad_head bytes p q = absurd (past_not_bad_head p q)
begin_one_way past not_minimal bytes p q = absurd (past_not_padded p q)
begin_one_way bad_head prefix bytes p q = absurd (prefix_not_bad_head q p)
begin_one_way bad_head whole bytes p q = absurd (whole_not_bad_head q.1 p)
begin_one_way bad_head past bytes p q = absurd (past_not_bad_head q p)
begin_one_way bad_head bad_head bytes p q = refl
begin_one_way bad_head not_minimal bytes p q = absurd (bad_head_not_padded bytes p q)
begin_one_way not_minimal prefix bytes p q = absurd (prefix_not_padded q p)
begin_one_way not_minimal whole bytes p q = absurd (whole_not_padded q.1 p)
begin_one_way not_minimal past bytes p q = absurd (past_not_padded q p)
begin_one_way not_minimal bad_head bytes p q = absurd (bad_head_not_padded bytes q p)
begin_one_way not_minimal not_minimal bytes p q = refl
