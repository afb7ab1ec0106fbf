-- The bytes that show a refusal show it whatever follows, and of two refusals one is given.
use Rattle.std.proofs.Common.{◌≡◌, ◌≢◌, ℕ, zero, suc, ◌+◌, ◌<◌, ◌≤◌, inl, inr, List, [], ◌∷◌, ◌++◌, length, take, drop}
use Rattle.std.proofs.Common.{arith, refl, sym, ap, ◌∙◌, subst, append_assoc, length-append}
use Rattle.std.proofs.Math.Seq.{take-append_seam, take-append-add}
use Rattle.std.proofs.lemmas.Bool.{cases_lt}
use Rattle.std.proofs.lemmas.List.{take-append-drop}
use Rattle.gob_num.specs.Unsigned.{IsBadHead, IsNotMinimal}
use Rattle.gob_types.specs.declared.id.TypeId.{TypeId}
use Rattle.gob_types.specs.declared.reason.Reason.TheVariants as reason
use Rattle.gob_types.specs.Table.{Table}
use Rattle.gob_value.specs.Tree.{Tree, depth}
use Rattle.gob_value.specs.Top.{SpellsTop}
use Rattle.gob_value.proofs.PublicLaws.{same_top}
use Rattle.gob_read.specs.Expected.{Expected, Allowed, any, tag, truth_value, array_count, delta, nil, reason_of}
use Rattle.gob_read.specs.Expects.{ExpectsTop}
use Rattle.gob_read.specs.Refusal.{Refusal, Refused, extra, too_deep, short_of, bad_head_at, not_minimal_at}
use Rattle.gob_read.specs.Refusal.{not_allowed}
use Rattle.gob_read.specs.First.{NotAfter, fewer, same, end_last, IsFirst}
use Rattle.gob_read.specs.Viable.{IsViable}
use Rattle.gob_read.specs.Begins.{BeginsValue}
use Rattle.gob_read.proofs.Grammar.Prefixes.{append_nil}
use Rattle.gob_read.proofs.Grammar.Whole.{Meets}
use Rattle.gob_read.proofs.Grammar.Compare.{whole_meets_top}
use Rattle.gob_read.proofs.Grammar.Firsts.{bad_not_met, minimal_not_met, not_allowed_not_met, ends_not_met}
use Rattle.gob_read.proofs.Grammar.Onward.{nothing_yet}
use Rattle.gob_read.proofs.Grammar.Deep.{expects_top_within}

pub take_whole : (xs : List ℕ) (n : ℕ) → length xs ≤ n → take n xs ≡ xs
take_whole [] zero l = refl
take_whole [] (suc n) l = refl
take_whole (x ∷ xs) zero l = absurd (omega arith)
take_whole (x ∷ xs) (suc n) l = ap (λ l. x ∷ l) (take_whole xs n (omega arith))

pub take_fewer : (xs : List ℕ) (n m : ℕ) → n ≤ m → take n (take m xs) ≡ take n xs
take_fewer [] zero zero l = refl
take_fewer [] zero (suc m) l = refl
take_fewer [] (suc n) zero l = refl
take_fewer [] (suc n) (suc m) l = refl
take_fewer (x ∷ xs) zero zero l = refl
take_fewer (x ∷ xs) zero (suc m) l = refl
take_fewer (x ∷ xs) (suc n) zero l = absurd (omega arith)
take_fewer (x ∷ xs) (suc n) (suc m) l = ap (λ l. x ∷ l) (take_fewer xs n m (omega arith))

none_left : (xs : List ℕ) → length xs ≤ 0 → xs ≡ []
none_left [] l = refl
none_left (x ∷ xs) l = absurd (omega arith)

pub bad_again : (r x : List ℕ) → IsBadHead r → IsBadHead (take 1 r ++ x)
bad_again [] x h = absurd h
bad_again (a ∷ r) x h = h

pub minimal_again : (r x : List ℕ) → IsNotMinimal r → IsNotMinimal (take 2 r ++ x)
minimal_again [] x h = absurd h
minimal_again (a ∷ []) x h = absurd h
minimal_again (a ∷ b ∷ r) x h = h

bad_some : (r : List ℕ) → IsBadHead r → 1 ≤ length r
bad_some [] h = absurd h
bad_some (a ∷ r) h = omega arith

minimal_some : (r : List ℕ) → IsNotMinimal r → 2 ≤ length r
minimal_some [] h = absurd h
minimal_some (a ∷ []) h = absurd h
minimal_some (a ∷ b ∷ r) h = omega arith

-- the first bytes of p ++ r, and then others
pub shared : (z p r x : List ℕ) (k : ℕ) → z ≡ p ++ r → take (length p + k) z ++ x ≡ p ++ (take k r ++ x)
shared z p r x k e = ap (λ l. take (length p + k) l ++ x) e ∙ ap (λ l. l ++ x) (take-append-add p r k)
    ∙ append_assoc p (take k r) x

pub shared_prefix : (z p r x : List ℕ) → z ≡ p ++ r → take (length p) z ++ x ≡ p ++ x
shared_prefix z p r x e = ap (λ l. take (length p) l ++ x) e ∙ ap (λ l. l ++ x) (take-append_seam p r)

pub shared_number : (z p c r x : List ℕ) → z ≡ p ++ (c ++ r) → take (length p + length c) z ++ x ≡ p ++ (c ++ x)
shared_number z p c r x e = shared z p (c ++ r) x (length c) e ∙ ap (λ l. p ++ (l ++ x)) (take-append_seam c r)

-- so many bytes are there
pub seen_within : {T : Table} {t : TypeId} {limit announced : ℕ} {z : List ℕ} {R : Refusal}
    → Refused T t limit announced z R → R.seen ≤ length z
seen_within (extra {f = f} r v e l) = let n = ap length e in omega (arith, length-append f r)
seen_within (too_deep {p = p} r a e l) = let n = ap length e in omega (arith, length-append p r)
seen_within (short_of r a e n h) = omega arith
seen_within (bad_head_at {p = p} r a e h) = let n = ap length e in let s = bad_some r h in
    omega (arith, length-append p r)
seen_within (not_minimal_at {p = p} r a e h) = let n = ap length e in let s = minimal_some r h in
    omega (arith, length-append p r)
seen_within (not_allowed {p = p} {c = c} r a e u h) = let n = ap length e in omega (
  arith,
  length-append p (c ++ r),
  length-append c r,
)

place_shown : {T : Table} {t : TypeId} {limit announced : ℕ} {z : List ℕ} {R : Refusal}
    → Refused T t limit announced z R → R.place ≤ R.seen
place_shown (extra r v e l) = omega arith
place_shown (too_deep r a e l) = omega arith
place_shown (short_of r a e n h) = omega arith
place_shown (bad_head_at r a e h) = omega arith
place_shown (not_minimal_at r a e h) = omega arith
place_shown (not_allowed r a e u h) = omega arith

pub place_within : {T : Table} {t : TypeId} {limit announced : ℕ} {z : List ℕ} {R : Refusal}
    → Refused T t limit announced z R → R.place ≤ length z
place_within r = let s = seen_within r in let p = place_shown r in omega arith

-- the bytes that show a refusal show it again before other bytes
refused_before : {T : Table} {t : TypeId} {limit announced : ℕ} {z : List ℕ} {R : Refusal} (x : List ℕ)
    → Refused T t limit announced z R → length (take R.seen z ++ x) ≤ announced
    → Refused T t limit announced (take R.seen z ++ x) R
refused_before {z = z} x (extra {f = f} r v e l) m = extra x v (shared_prefix z f r x e) l
refused_before {z = z} x (too_deep {p = p} r a e l) m = too_deep x a (shared_prefix z p r x e) l
refused_before {announced = announced} {z = z} x (short_of {p = p} r a e n h) m =
    let all : take announced z ≡ z = take_whole z announced (omega arith) in
    let size : length (take announced z ++ x) ≡ length (z ++ x) = ap (λ l. length (l ++ x)) all in
    let none : x ≡ [] = none_left x (omega (arith, length-append z x)) in
    let there : take announced z ++ x ≡ z = ap (λ l. l ++ x) all ∙ ap (λ l. z ++ l) none ∙ append_nil z in
    short_of r a (there ∙ e) (ap length there ∙ n) h
refused_before {z = z} x (bad_head_at {p = p} r a e h) m = bad_head_at (take 1 r ++ x) a (shared z p r x 1 e)
    (bad_again r x h)
refused_before {z = z} x (not_minimal_at {p = p} r a e h) m = not_minimal_at (take 2 r ++ x) a (shared z p r x 2 e)
    (minimal_again r x h)
refused_before {z = z} x (not_allowed {p = p} {c = c} r a e u h) m = not_allowed x a (shared_number z p c r x e) u h

pub refused_again : {T : Table} {t : TypeId} {limit announced : ℕ} {z : List ℕ} {R : Refusal} (y : List ℕ)
    → Refused T t limit announced z R → length y ≤ announced → take R.seen y ≡ take R.seen z
    → Refused T t limit announced y R
refused_again {T = T} {t = t} {limit = limit} {announced = announced} {z = z} {R = R} y k l e =
    let there : take R.seen z ++ drop R.seen y ≡ y = ap (λ l. l ++ drop R.seen y) (sym e) ∙ take-append-drop R.seen y in
    subst (λ l. Refused T t limit announced l R) there (refused_before (drop R.seen y) k (let n = ap length there in
    omega arith))

-- the first of all is the first of all before other bytes, too
pub shown_stays : {T : Table} {t : TypeId} {limit announced : ℕ} {z : List ℕ} {R : Refusal} (y : List ℕ)
    → IsFirst T t limit announced z R → length z ≤ announced → length y ≤ announced → take R.seen y ≡ take R.seen z
    → IsFirst T t limit announced y R
shown_stays {T = T} {t = t} {limit = limit} {announced = announced} {z = z} {R = R} y h l m e =
    record { refused = refused_again y h.refused m e; first = first }
  where
    first : (S : Refusal) → Refused T t limit announced y S → NotAfter R S
    first S k =
        elim (cases_lt R.seen S.seen) [
          | inl n ↦ fewer n
          | inr n ↦ h.first S (refused_again z k l (
              sym (take_fewer z S.seen R.seen n) ∙ ap (λ l. take S.seen l) (sym e) ∙ take_fewer y S.seen R.seen n))
        ]

-- a number that isn't allowed is no end of the body
reason_not_short : (a : Allowed) → reason_of a ≢ reason.Short
reason_not_short any e = cc
reason_not_short tag e = cc
reason_not_short truth_value e = cc
reason_not_short (array_count n) e = cc
reason_not_short (delta n) e = cc
reason_not_short nil e = cc

short_is : {T : Table} {t : TypeId} {limit announced : ℕ} {z : List ℕ} {R : Refusal} → Refused T t limit announced z R
    → R.reason ≡ reason.Short → R ≡ record { place = announced; seen = announced; reason = reason.Short }
short_is (extra r v e l) s = cc
short_is (too_deep r a e l) s = cc
short_is (short_of r a e n h) s = refl
short_is (bad_head_at r a e h) s = cc
short_is (not_minimal_at r a e h) s = cc
short_is (not_allowed r {a = a} b e u h) s = absurd (reason_not_short a s)

pub given_once : {T : Table} {t : TypeId} {limit announced : ℕ} {z : List ℕ} {R S : Refusal}
    → IsFirst T t limit announced z R → IsFirst T t limit announced z S → R ≡ S
given_once {T = T} {t = t} {limit = limit} {announced = announced} {z = z} {R = R} {S = S} h k =
    from (h.first S k.refused) (k.first R h.refused) h.refused k.refused
  where
    from : {R S : Refusal} → NotAfter R S → NotAfter S R → Refused T t limit announced z R
        → Refused T t limit announced z S → R ≡ S
    from (fewer l) (fewer m) a b = absurd (omega arith)
    from (fewer l) same a b = refl
    from (fewer l) (end_last m s) a b = absurd (omega arith)
    from same q a b = refl
    from (end_last l s) (fewer m) a b = absurd (omega arith)
    from (end_last l s) same a b = refl
    from (end_last l s) (end_last m u) a b = short_is a u ∙ sym (short_is b s)

-- a whole value that isn't too deep is refused only for what the body announces behind it
pub only_extra : {T : Table} {t : TypeId} {limit announced : ℕ} {v : Tree} {b : List ℕ} {S : Refusal} (r : List ℕ)
    → SpellsTop T t v b → depth v ≤ limit → Refused T t limit announced (b ++ r) S
    → (S ≡ record { place = length b; seen = length b; reason = reason.Extra }) × (length b < announced)
only_extra r v d (extra y u e l) =
    let o = same_top r y v u e in
    let n = ap length o.bytes in
    (ap (λ (j : ℕ). record { place = j; seen = j; reason = reason.Extra }) (sym n), omega arith)
only_extra r v d (too_deep y a e l) = absurd (let n = expects_top_within y r v a (sym e) in omega arith)
only_extra r v d (short_of y a e n ends) = absurd (ends_not_met ends (whole_meets_top y r v a (sym e)))
only_extra r v d (bad_head_at y a e h) = absurd (bad_not_met h (whole_meets_top y r v a (sym e)))
only_extra r v d (not_minimal_at y a e h) = absurd (minimal_not_met h (whole_meets_top y r v a (sym e)))
only_extra r v d (not_allowed {c = c} y a e u h) =
    absurd (not_allowed_not_met y u h (whole_meets_top (c ++ y) r v a (sym e)))

-- bytes after which something is expected don't begin with a whole value, and none of them is refused
pub stood_not_whole : {T : Table} {t : TypeId} {limit announced : ℕ} {z b : List ℕ} {v : Tree} (r : List ℕ)
    → IsViable T t limit announced z → SpellsTop T t v b → z ≡ b ++ r → ⊥
stood_not_whole r i v e = ends_not_met i.within (whole_meets_top i.under_way r v i.expects (sym i.whole ∙ e))

pub stood_not_refused : {T : Table} {t : TypeId} {limit announced : ℕ} {z : List ℕ} {R : Refusal}
    → IsViable T t limit announced z → Refused T t limit announced z R → ⊥
stood_not_refused {T = T} {t = t} {limit = limit} {announced = announced} {z = z} {R = R} i k =
    let n = nothing_yet [] i (subst (λ l. Refused T t limit announced l R) (sym (append_nil z)) k) in
    let m = seen_within k in omega arith

-- where a value begins, nothing that is expected before its end is unmet
begins_meets : {T : Table} {t : TypeId} {p q : List ℕ} {w : Expected} {d : ℕ} (x : List ℕ) → (b : BeginsValue T t q)
    → ExpectsTop T t p w d → q ++ b.rest ≡ p ++ x → Meets w x
begins_meets {q = q} x b a e = whole_meets_top x [] b.spelled a (sym e ∙ sym (append_nil (q ++ b.rest)))
