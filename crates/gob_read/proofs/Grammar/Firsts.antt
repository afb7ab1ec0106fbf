-- Of all refusals that the bytes show, the one at the place where the reader stands is the first.
use Rattle.std.proofs.Common.{◌≡◌, ◌≢◌, ℕ, ◌+◌, ◌<◌, ◌≤◌, inl, inr, List, [], ◌∷◌, ◌++◌, length, arith, refl, sym, ap}
use Rattle.std.proofs.Common.{◌∙◌, subst, append_assoc, length-append}
use Rattle.std.proofs.lemmas.Bool.{cases_lt}
use Rattle.gob_num.specs.Unsigned.{IsUnsigned, IsUnsignedPrefix, IsBadHead, IsNotMinimal}
use Rattle.gob_num.proofs.PublicLaws.{unsigned_prefix, unsigned_length, bad_head_none, not_minimal_none}
use Rattle.gob_num.proofs.PublicLaws.{prefix_not_bad_head, prefix_not_padded, bad_head_not_padded}
use Rattle.gob_types.specs.declared.id.TypeId.{TypeId}
use Rattle.gob_types.specs.declared.reason.Reason.TheVariants as reason
use Rattle.gob_types.specs.Table.{Table}
use Rattle.gob_value.specs.Tree.{Tree}
use Rattle.gob_value.specs.Top.{SpellsTop}
use Rattle.gob_value.proofs.PublicLaws.{same_top}
use Rattle.gob_read.specs.Expected.{Expected, a_number, Allowed, Allows, reason_of, EndsWithin, within_number}
use Rattle.gob_read.specs.Expected.{within_raw}
use Rattle.gob_read.specs.Expects.{ExpectsTop}
use Rattle.gob_read.specs.Refusal.{Refusal, Refused, extra, too_deep, short_of, bad_head_at, not_minimal_at}
use Rattle.gob_read.specs.Refusal.{not_allowed}
use Rattle.gob_read.specs.First.{NotAfter, fewer, same, end_last, IsFirst}
use Rattle.gob_read.specs.Viable.{IsShallow}
use Rattle.gob_read.proofs.Grammar.Prefixes.{Prefix, prefix_of, append_nil, nothing_left, prefix_length}
use Rattle.gob_read.proofs.Grammar.Whole.{Meets, number_met, raw_met}
use Rattle.gob_read.proofs.Grammar.Compare.{whole_meets_top, met_some, unmet_behind, unmet_once, unmet_shallow}

-- a number that stands first
pub record NumberFirst (a : Allowed) (x : List ℕ) : Type 0 where
  pub number : ℕ
  pub bytes : List ℕ
  pub rest : List ℕ
  pub allowed : Allows a number
  pub spelled : IsUnsigned number bytes
  pub whole : x ≡ bytes ++ rest

pub met_number : {a : Allowed} {x : List ℕ} → Meets (a_number a) x → NumberFirst a x
met_number (number_met {n = n} {c = c} r l s) = record {
  number = n;
  bytes = c;
  rest = r;
  allowed = l;
  spelled = s;
  whole = refl;
}

pub bad_not_met : {a : Allowed} {r : List ℕ} → IsBadHead r → Meets (a_number a) r → ⊥
bad_not_met {r = r} h m = let n = met_number m in bad_head_none r h [] n.rest n.spelled (append_nil r ∙ n.whole)

pub minimal_not_met : {a : Allowed} {r : List ℕ} → IsNotMinimal r → Meets (a_number a) r → ⊥
minimal_not_met {r = r} h m = let n = met_number m in not_minimal_none r h [] n.rest n.spelled (append_nil r ∙ n.whole)

pub not_allowed_not_met : {a : Allowed} {n : ℕ} {c : List ℕ} (y : List ℕ) → IsUnsigned n c → ¬ Allows a n
    → Meets (a_number a) (c ++ y) → ⊥
not_allowed_not_met {a = a} y u h m = let k = met_number m in let r = unsigned_prefix y k.rest u k.spelled k.whole in
    h (subst (Allows a) (sym r.value) k.allowed)

-- no number stands where the bytes end within one
pub prefix_not_number : {r : List ℕ} {n : ℕ} {c : List ℕ} (y : List ℕ) → IsUnsignedPrefix r → IsUnsigned n c → r ≡ c
    ++ y
    → ⊥
prefix_not_number {r = r} {c = c} y f u e =
    let h : (r ++ f.rest) ++ [] ≡ c ++ (y ++ f.rest) = append_nil (r ++ f.rest) ∙ ap (λ l. l ++ f.rest) e
    ∙ append_assoc c y f.rest in
    let p = unsigned_prefix [] (y ++ f.rest) f.spelled u h in
    f.more (nothing_left y f.rest (sym p.rest))

pub ends_number : {a : Allowed} {r : List ℕ} → EndsWithin (a_number a) r → IsUnsignedPrefix r
ends_number (within_number f) = f

pub ends_not_met : {w : Expected} {r : List ℕ} → EndsWithin w r → Meets w r → ⊥
ends_not_met (within_number f) m = let n = met_number m in prefix_not_number n.rest f n.spelled n.whole
ends_not_met (within_raw l) (raw_met k) = omega arith

-- a refusal at this very place
pub data Here (p r : List ℕ) (announced : ℕ) : Expected → Refusal → Type 0 where
  here_short : {w : Expected} → EndsWithin w r
      → Here p r announced w (record { place = announced; seen = announced; reason = reason.Short })
  here_bad : {a : Allowed} → IsBadHead r
      → Here p r announced (a_number a) (record { place = length p; seen = length p + 1; reason = reason.BadHead })
  here_minimal : {a : Allowed} → IsNotMinimal r
      → Here p r announced (a_number a) (record { place = length p; seen = length p + 2; reason = reason.NotMinimal })
  here_number : {a : Allowed} {n : ℕ} {c : List ℕ} (y : List ℕ) → r ≡ c ++ y → IsUnsigned n c → ¬ Allows a n
      → Here p r announced (a_number a) (record { place = length p; seen = length p + length c; reason = reason_of a })

-- where what is expected doesn't stand, and all is shallow before, nothing else is refused
pub only_here : {T : Table} {t : TypeId} {d limit announced : ℕ} {z p : List ℕ} {w : Expected} {S : Refusal}
    (r : List ℕ) → ExpectsTop T t p w d → d ≤ limit → IsShallow T t limit p → ¬ Meets w r → z ≡ p ++ r
    → Refused T t limit announced z S → Here p r announced w S
only_here r a l s m e (extra y v f k) = absurd (m (whole_meets_top r y v a (sym e ∙ f)))
only_here r a l s m e (too_deep y b f k) = absurd (unmet_shallow r y a l s m b (sym e ∙ f) k)
only_here {announced = announced} {p = p} {w = w} r a l s m e (short_of y {w = u} b f n ends) =
    let o = unmet_once r y a b (sym e ∙ f) m (ends_not_met ends) in
    let one : w ≡ u = ap (λ (v : Expected × ℕ). v.0) o.value in
    here_short (subst (λ y. EndsWithin w y) (sym o.rest) (subst (λ u. EndsWithin u y) (sym one) ends))
only_here {announced = announced} {p = p} {w = w} r a l s m e (bad_head_at {p = q} y {a = allowed} b f h) =
    let o = unmet_once r y a b (sym e ∙ f) m (bad_not_met h) in
    let one : w ≡ a_number allowed = ap (λ (v : Expected × ℕ). v.0) o.value in
    let there : p ≡ q = o.bytes in
    subst (λ k. Here p r announced w (record { place = k; seen = k + 1; reason = reason.BadHead })) (ap length there)
    (subst (λ u. Here p r announced u (record { place = length p; seen = length p + 1; reason = reason.BadHead }))
    (sym one) (here_bad (subst IsBadHead (sym o.rest) h)))
only_here {announced = announced} {p = p} {w = w} r a l s m e (not_minimal_at {p = q} y {a = allowed} b f h) =
    let o = unmet_once r y a b (sym e ∙ f) m (minimal_not_met h) in
    let one : w ≡ a_number allowed = ap (λ (v : Expected × ℕ). v.0) o.value in
    let there : p ≡ q = o.bytes in
    subst (λ k. Here p r announced w (record { place = k; seen = k + 2; reason = reason.NotMinimal })) (ap length there)
    (subst (λ u. Here p r announced u (record { place = length p; seen = length p + 2; reason = reason.NotMinimal }))
    (sym one) (here_minimal (subst IsNotMinimal (sym o.rest) h)))
only_here {announced = announced} {p = p} {w = w} r a l s m e (not_allowed {p = q} {c = c} y {a = allowed} b f u h) =
    let o = unmet_once r (c ++ y) a b (sym e ∙ f) m (not_allowed_not_met y u h) in
    let one : w ≡ a_number allowed = ap (λ (v : Expected × ℕ). v.0) o.value in
    let there : p ≡ q = o.bytes in
    subst (λ k. Here p r announced w (record { place = k; seen = k + length c; reason = reason_of allowed }))
    (ap length there)
    (subst (λ u. Here p r announced u (record {
      place = length p;
      seen = length p + length c;
      reason =
          reason_of allowed;
    })) (sym one) (here_number y o.rest u h))

pub bad_ends : {a : Allowed} {r : List ℕ} → IsBadHead r → EndsWithin (a_number a) r → ⊥
bad_ends h e = prefix_not_bad_head (ends_number e) h

pub minimal_ends : {a : Allowed} {r : List ℕ} → IsNotMinimal r → EndsWithin (a_number a) r → ⊥
minimal_ends h e = prefix_not_padded (ends_number e) h

same_refusal : {R S : Refusal} → R ≡ S → NotAfter R S
same_refusal {R = R} e = subst (NotAfter R) e same

-- the first byte of the number is none that a number begins with
pub bad_head_first : {T : Table} {t : TypeId} {d limit announced : ℕ} {z p : List ℕ} {a : Allowed} (r : List ℕ)
    → ExpectsTop T t p (a_number a) d → d ≤ limit → IsShallow T t limit p → z ≡ p ++ r → IsBadHead r
    → IsFirst T t limit announced z (record { place = length p; seen = length p + 1; reason = reason.BadHead })
bad_head_first {announced = announced} {p = p} {a = allowed} r a l s e h =
    record { refused = bad_head_at r a e h; first = λ S k. from (only_here r a l s (bad_not_met h) e k) }
  where
    from : {S : Refusal} → Here p r announced (a_number allowed) S
        → NotAfter (record { place = length p; seen = length p + 1; reason = reason.BadHead }) S
    from (here_short k) = absurd (bad_ends h k)
    from (here_bad k) = same
    from (here_minimal k) = absurd (bad_head_not_padded r h k)
    from (here_number y k u m) = absurd (bad_head_none r h [] y u (append_nil r ∙ k))

-- the number is longer than it needs
pub not_minimal_first : {T : Table} {t : TypeId} {d limit announced : ℕ} {z p : List ℕ} {a : Allowed} (r : List ℕ)
    → ExpectsTop T t p (a_number a) d → d ≤ limit → IsShallow T t limit p → z ≡ p ++ r → IsNotMinimal r
    → IsFirst T t limit announced z (record { place = length p; seen = length p + 2; reason = reason.NotMinimal })
not_minimal_first {announced = announced} {p = p} {a = allowed} r a l s e h =
    record { refused = not_minimal_at r a e h; first = λ S k. from (only_here r a l s (minimal_not_met h) e k) }
  where
    from : {S : Refusal} → Here p r announced (a_number allowed) S
        → NotAfter (record { place = length p; seen = length p + 2; reason = reason.NotMinimal }) S
    from (here_short k) = absurd (minimal_ends h k)
    from (here_bad k) = absurd (bad_head_not_padded r k h)
    from (here_minimal k) = same
    from (here_number y k u m) = absurd (not_minimal_none r h [] y u (append_nil r ∙ k))

-- the number isn't allowed there: a tag, a truth value, an array's count, a field number, or an interface's
pub not_allowed_first : {T : Table} {t : TypeId} {d limit announced n : ℕ} {z p c : List ℕ} {a : Allowed} (y : List ℕ)
    → ExpectsTop T t p (a_number a) d → d ≤ limit → IsShallow T t limit p → z ≡ p ++ (c ++ y) → IsUnsigned n c
    → ¬ Allows a n
    → IsFirst T t limit announced z (record { place = length p; seen = length p + length c; reason = reason_of a })
not_allowed_first {announced = announced} {p = p} {c = c} {a = allowed} y a l s e u h =
    record {
      refused = not_allowed y a e u h;
      first =
          λ S k. from (only_here (c ++ y) a l s (not_allowed_not_met y u h) e k);
    }
  where
    from : {S : Refusal} → Here p (c ++ y) announced (a_number allowed) S
        → NotAfter (record { place = length p; seen = length p + length c; reason = reason_of allowed }) S
    from (here_short k) = absurd (prefix_not_number y (ends_number k) u refl)
    from (here_bad k) = absurd (bad_head_none (c ++ y) k [] y u (append_nil (c ++ y)))
    from (here_minimal k) = absurd (not_minimal_none (c ++ y) k [] y u (append_nil (c ++ y)))
    from (here_number x k v o) =
        let r = unsigned_prefix y x u v k in
        same_refusal (ap (λ (j : ℕ). record { place = length p; seen = length p + j; reason = reason_of allowed })
        (ap length r.bytes))

-- the body ends within what is expected
pub short_first : {T : Table} {t : TypeId} {d limit announced : ℕ} {z p : List ℕ} {w : Expected} (r : List ℕ)
    → ExpectsTop T t p w d → d ≤ limit → IsShallow T t limit p → z ≡ p ++ r → length z ≡ announced → EndsWithin w r
    → IsFirst T t limit announced z (record { place = announced; seen = announced; reason = reason.Short })
short_first {announced = announced} {p = p} {w = w} r a l s e n h =
    record { refused = short_of r a e n h; first = λ S k. from (only_here r a l s (ends_not_met h) e k) h }
  where
    from : {w : Expected} {S : Refusal} → Here p r announced w S → EndsWithin w r
        → NotAfter (record { place = announced; seen = announced; reason = reason.Short }) S
    from (here_short k) h = same
    from (here_bad k) h = absurd (bad_ends k h)
    from (here_minimal k) h = absurd (minimal_ends k h)
    from (here_number x k v o) h = absurd (prefix_not_number x (ends_number h) v k)

-- a part begins too deep
pub too_deep_first : {T : Table} {t : TypeId} {d limit announced : ℕ} {z p : List ℕ} {w : Expected} (r : List ℕ)
    → ExpectsTop T t p w d → limit < d → IsShallow T t limit p → z ≡ p ++ r
    → IsFirst T t limit announced z (record { place = length p; seen = length p; reason = reason.TooDeep })
too_deep_first {T = T} {t = t} {d = d} {limit = limit} {announced = announced} {z = z} {p = p} {w = w} r a l s e =
    record { refused = too_deep r a e l; first = λ S k. from k }
  where
    R : Refusal
    R = record { place = length p; seen = length p; reason = reason.TooDeep }

    at_prefix : (q y : List ℕ) {u : Expected} {d' : ℕ} → ExpectsTop T t q u d' → limit < d' → p ≡ q ++ y
        → NotAfter R (record { place = length q; seen = length q; reason = reason.TooDeep })
    at_prefix q [] b k h = same_refusal (ap (λ (j : ℕ). record { place = j; seen = j; reason = reason.TooDeep })
        (ap length (h ∙ append_nil q)))
    at_prefix q (c ∷ x) {u = u} {d' = d'} b k h = absurd (let n = s.each q (c ∷ x) u d' b h (λ z. cc) in omega arith)

    from : {S : Refusal} → Refused T t limit announced z S → NotAfter R S
    from (extra {f = f} y v g k) =
        elim (cases_lt (length p) (length f)) [
          | inl h ↦ fewer h
          | inr h ↦ absurd (let q = prefix_of f p y r (sym g ∙ e) h in
              met_some a (whole_meets_top [] q.rest v a (append_nil p ∙ q.whole)))
        ]
    from (too_deep {p = q} y b g k) =
        elim (cases_lt (length p) (length q)) [
          | inl h ↦ fewer h
          | inr h ↦ (let f = prefix_of q p y r (sym g ∙ e) h in at_prefix q f.rest b k f.whole)
        ]
    from (short_of y b g n ends) =
        elim (cases_lt (length p) announced) [
          | inl h ↦ fewer h
          | inr h ↦ end_last (let k : length z ≡ length (p ++ r) = ap length e in omega (arith, length-append p r)) refl
        ]
    from (bad_head_at y b g h) = fewer (let k = unmet_behind r y a b (sym e ∙ g) (bad_not_met h) in omega arith)
    from (not_minimal_at y b g h) = fewer (let k = unmet_behind r y a b (sym e ∙ g) (minimal_not_met h) in omega arith)
    from (not_allowed {c = c} y b g v h) =
        fewer (let k = unmet_behind r (c ++ y) a b (sym e ∙ g) (not_allowed_not_met y v h) in let some =
        (unsigned_length v).0 in omega arith)

-- the value is whole before the body ends
pub extra_first : {T : Table} {t : TypeId} {limit announced : ℕ} {z f : List ℕ} {v : Tree} (r : List ℕ)
    → SpellsTop T t v f → IsShallow T t limit f → z ≡ f ++ r → length f < announced
    → IsFirst T t limit announced z (record { place = length f; seen = length f; reason = reason.Extra })
extra_first {T = T} {t = t} {limit = limit} {announced = announced} {z = z} {f = f} r v s e l =
    record { refused = extra r v e l; first = λ S k. from k }
  where
    R : Refusal
    R = record { place = length f; seen = length f; reason = reason.Extra }

    behind : (q : List ℕ) (o : Prefix q f) → length q < length f → o.rest ≢ []
    behind q o h z = let n = prefix_length q f o in let k = ap length z in omega arith

    from : {S : Refusal} → Refused T t limit announced z S → NotAfter R S
    from (extra y u g k) = let o = same_top r y v u (sym e ∙ g) in
        same_refusal (ap (λ (j : ℕ). record { place = j; seen = j; reason = reason.Extra }) (ap length o.bytes))
    from (too_deep {p = q} y {w = w} {d = d'} b g k) =
        elim (cases_lt (length q) (length f)) [
          | inl h ↦ absurd (
              let o = prefix_of q f y r (sym g ∙ e) (omega arith) in
              let n = s.each q o.rest w d' b o.whole (behind q o h) in
              omega arith)
          | inr h ↦ absurd (let o = prefix_of f q r y (sym e ∙ g) h in
              met_some b (whole_meets_top [] o.rest v b (append_nil q ∙ o.whole)))
        ]
    from (short_of y b g n ends) = absurd (ends_not_met ends (whole_meets_top y r v b (sym g ∙ e)))
    from (bad_head_at y b g h) = absurd (bad_not_met h (whole_meets_top y r v b (sym g ∙ e)))
    from (not_minimal_at y b g h) = absurd (minimal_not_met h (whole_meets_top y r v b (sym g ∙ e)))
    from (not_allowed {c = c} y b g u h) =
        absurd (not_allowed_not_met y u h (whole_meets_top (c ++ y) r v b (sym g ∙ e)))
