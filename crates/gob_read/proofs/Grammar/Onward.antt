-- The place goes on behind an item, and until then nothing is refused.
use Rattle.std.proofs.Common.{◌≡◌, ◌≢◌, ℕ, ◌+◌, ◌<◌, ◌≤◌, inl, inr, List, [], ◌∷◌, ◌++◌, length, arith, refl, sym, ap}
use Rattle.std.proofs.Common.{◌∙◌, subst, append_assoc, length-append}
use Rattle.std.proofs.lemmas.Bool.{cases_lt}
use Rattle.gob_num.specs.Unsigned.{IsUnsigned, IsBadHead, IsNotMinimal}
use Rattle.gob_num.proofs.PublicLaws.{unsigned_prefix}
use Rattle.gob_types.specs.declared.id.TypeId.{TypeId}
use Rattle.gob_types.specs.Table.{Table}
use Rattle.gob_read.specs.Expected.{Expected, a_number, raw, Allowed, EndsWithin}
use Rattle.gob_read.specs.Expects.{ExpectsTop}
use Rattle.gob_read.specs.Refusal.{Refusal, Refused, extra, too_deep, short_of, bad_head_at, not_minimal_at}
use Rattle.gob_read.specs.Refusal.{not_allowed}
use Rattle.gob_read.specs.Viable.{IsShallow, IsViable}
use Rattle.gob_read.proofs.Grammar.Prefixes.{Prefix, prefix_of, append_nil, nothing_left, some_bytes, rest_behind}
use Rattle.gob_read.proofs.Grammar.Prefixes.{prefix_length}
use Rattle.gob_read.proofs.Grammar.Whole.{Meets, raw_met}
use Rattle.gob_read.proofs.Grammar.Compare.{compare_top, whole_meets_top, met_some, met_longer, unmet_shallow}
use Rattle.gob_read.proofs.Grammar.Firsts.{met_number, bad_not_met, minimal_not_met, not_allowed_not_met, ends_not_met}
use Rattle.gob_read.proofs.Grammar.Firsts.{ends_number, prefix_not_number, bad_ends, minimal_ends}

-- a whole item, allowed or not
pub data Takes : Expected → List ℕ → Type 0 where
  number_taken : {a : Allowed} {n : ℕ} {c : List ℕ} → IsUnsigned n c → Takes (a_number a) c
  raw_taken : {n : ℕ} {c : List ℕ} → n ≡ length c → Takes (raw n) c

-- what is expected doesn't stand in a proper prefix of such an item
pub takes_least : {w : Expected} {c : List ℕ} (m s : List ℕ) → Takes w c → c ≡ m ++ s → s ≢ [] → Meets w m → ⊥
takes_least {c = c} m s (number_taken u) e z k =
    let n = met_number k in
    let p = unsigned_prefix (n.rest ++ s) [] n.spelled u (sym (append_nil c ∙ e ∙ ap (λ l. l ++ s) n.whole
    ∙ append_assoc n.bytes n.rest s)) in
    z (nothing_left n.rest s p.rest)
takes_least {c = c} m s (raw_taken l) e z (raw_met h) = let k = ap length e in let n = some_bytes s z in
    omega (arith, length-append m s)

-- nothing stands before no bytes
pub shallow_start : {T : Table} {t : TypeId} {limit : ℕ} → IsShallow T t limit []
shallow_start = record { each = λ q s w d a e n. absurd (n (nothing_left q s (sym e))) }

-- behind an item that lay in a shallow part all is shallow
pub shallow_on : {T : Table} {t : TypeId} {d limit : ℕ} {p c : List ℕ} {w : Expected} → IsShallow T t limit p
    → ExpectsTop T t p w d → d ≤ limit → Takes w c → IsShallow T t limit (p ++ c)
shallow_on {T = T} {t = t} {d = d} {limit = limit} {p = p} {c = c} {w = w} s a l k = record { each = each }
  where
    behind : (q m x : List ℕ) (u : Expected) (d' : ℕ) → ExpectsTop T t q u d' → q ≡ p ++ m → c ≡ m ++ x → x ≢ []
        → d' ≤ limit
    behind q m x u d' b e f n =
        elim (compare_top m [] a b (sym e ∙ sym (append_nil q))) [
          | inl z ↦ let o : d ≡ d' = ap (λ (v : Expected × ℕ). v.1) z.value in omega arith
          | inr z ↦ absurd (elim z [ inl h ↦ takes_least m x k f n h | inr h ↦ met_some b h ])
        ]

    before : (q : List ℕ) (o : Prefix q p) → length q < length p → o.rest ≢ []
    before q o h z = let n = prefix_length q p o in let k = ap length z in omega arith

    each : (q x : List ℕ) (u : Expected) (d' : ℕ) → ExpectsTop T t q u d' → p ++ c ≡ q ++ x → x ≢ [] → d' ≤ limit
    each q x u d' b e n =
        elim (cases_lt (length q) (length p)) [
          | inl h ↦ (let f = prefix_of q p x c (sym e) (omega arith) in s.each q f.rest u d' b f.whole (before q f h))
          | inr h ↦ (let f = prefix_of p q c x e h in behind q f.rest x u d' b f.whole (rest_behind p q c x e f) n)
        ]

-- a longer prefix is shallow only where a shorter one is
pub shallow_before : {T : Table} {t : TypeId} {limit : ℕ} (p c : List ℕ) → IsShallow T t limit (p ++ c)
    → IsShallow T t limit p
shallow_before {T = T} {t = t} {limit = limit} p c s =
    record {
      each = λ q x u d' b e n. s.each q (x ++ c) u d' b (ap (λ l. l ++ c) e ∙ append_assoc q x c)
          (λ z. n (prefix_nothing x c z));
    }
  where
    prefix_nothing : (a b : List ℕ) → a ++ b ≡ [] → a ≡ []
    prefix_nothing [] b e = refl
    prefix_nothing (x ∷ a) b e = cc

bad_sooner : (r x : List ℕ) → IsBadHead (r ++ x) → 0 < length r → IsBadHead r
bad_sooner [] x h l = absurd (omega arith)
bad_sooner (a ∷ r) x h l = h

minimal_sooner : (r x : List ℕ) → IsNotMinimal (r ++ x) → 1 < length r → IsNotMinimal r
minimal_sooner [] x h l = absurd (omega arith)
minimal_sooner (a ∷ []) x h l = absurd (omega arith)
minimal_sooner (a ∷ b ∷ r) x h l = h

-- nothing is refused by the bytes so far, whatever follows
pub nothing_yet : {T : Table} {t : TypeId} {limit announced : ℕ} {z : List ℕ} {S : Refusal} (x : List ℕ)
    → IsViable T t limit announced z → Refused T t limit announced (z ++ x) S → length z < S.seen
nothing_yet {T = T} {t = t} {limit = limit} {announced = announced} {z = z} {S = S} x i k = from k
  where
    -- an unmet place among the bytes so far is the one where they stand
    one : (q s y : List ℕ) {u : Expected} {d : ℕ} → ExpectsTop T t q u d → z ≡ q ++ s → y ≡ s ++ x → ¬ Meets u y
        → EndsWithin u s
    one q s y {u = u} b f g m =
        elim (compare_top i.under_way s i.expects b (sym i.whole ∙ f)) [
          | inl o ↦ subst (λ u. EndsWithin u s) (ap (λ (v : Expected × ℕ). v.0) o.value)
              (subst (EndsWithin i.expected) o.rest i.within)
          | inr o ↦ absurd (elim o [
            | inl h ↦ ends_not_met i.within h
            | inr h ↦ m (subst (Meets u) (sym g) (met_longer s x h))
          ])
        ]

    from : {S : Refusal} → Refused T t limit announced (z ++ x) S → length z < S.seen
    from (extra {f = f} y v e l) =
        elim (cases_lt (length z) (length f)) [
          | inl h ↦ h
          | inr h ↦ absurd (let o = prefix_of f z y x (sym e) h in
              ends_not_met i.within (whole_meets_top i.under_way o.rest v i.expects (sym i.whole ∙ o.whole)))
        ]
    from (too_deep {p = q} y b e l) =
        elim (cases_lt (length z) (length q)) [
          | inl h ↦ h
          | inr h ↦ absurd (let o = prefix_of q z y x (sym e) h in unmet_shallow i.under_way o.rest i.expects i.not_deep
              i.shallow (λ m. ends_not_met i.within m) b (sym i.whole ∙ o.whole) l)
        ]
    from (short_of y b e n h) = i.room
    from (bad_head_at {p = q} y b e h) =
        elim (cases_lt (length z) (length q + 1)) [
          | inl k ↦ k
          | inr k ↦ absurd (
              let o = prefix_of q z y x (sym e) (omega arith) in
              let g = rest_behind q z y x (sym e) o in
              let n = prefix_length q z o in
              bad_ends (bad_sooner o.rest x (subst IsBadHead g h) (omega arith))
              (one q o.rest y b o.whole g (bad_not_met h)))
        ]
    from (not_minimal_at {p = q} y b e h) =
        elim (cases_lt (length z) (length q + 2)) [
          | inl k ↦ k
          | inr k ↦ absurd (
              let o = prefix_of q z y x (sym e) (omega arith) in
              let g = rest_behind q z y x (sym e) o in
              let n = prefix_length q z o in
              minimal_ends (minimal_sooner o.rest x (subst IsNotMinimal g h) (omega arith))
              (one q o.rest y b o.whole g (minimal_not_met h)))
        ]
    from (not_allowed {p = q} {c = c} y b e v h) =
        elim (cases_lt (length z) (length q + length c)) [
          | inl k ↦ k
          | inr k ↦ absurd (
              let o = prefix_of q z (c ++ y) x (sym e) (omega arith) in
              let g = rest_behind q z (c ++ y) x (sym e) o in
              let n = prefix_length q z o in
              let m = prefix_of c o.rest y x g (omega arith) in
              prefix_not_number m.rest (ends_number (one q o.rest (c ++ y) b o.whole g (not_allowed_not_met y v h))) v
              m.whole)
        ]
