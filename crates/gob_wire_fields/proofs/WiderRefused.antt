-- Why bytes are refused where wireType has its later fields, and where it has the earlier ones alone: for the same,
-- unless they lead to a later field.
use Rattle.std.proofs.Common.{◌≡◌, ◌≢◌, ℕ, zero, suc, ◌+◌, ◌-◌, ◌<◌, ◌≤◌, ◌⊎◌, inl, inr, List, [], ◌∷◌, ◌++◌, length}
use Rattle.std.proofs.Common.{arith, refl, sym, ap, ◌∙◌, subst, append_assoc, length-append}
use Rattle.std.proofs.lemmas.Bool.{cases_lt}
use Rattle.gob_num.proofs.PublicLaws.{unsigned_prefix, append_split}
use Rattle.gob_types.specs.declared.id.TypeId.{TypeId}
use Rattle.gob_types.specs.declared.reason.Reason.{Reason}
use Rattle.gob_types.specs.declared.reason.Reason.TheVariants as reason
use Rattle.gob_types.specs.Table.{Table}
use Rattle.gob_value.specs.Top.{SpellsTop}
use Rattle.gob_read.specs.Expected.{Allowed, Allows, Expected, a_number, delta, reason_of, EndsWithin, within_number}
use Rattle.gob_read.specs.Expects.{ExpectsTop}
use Rattle.gob_read.specs.Refusal.{Refusal, Refused, extra, too_deep, short_of, bad_head_at, not_minimal_at}
use Rattle.gob_read.specs.Refusal.{not_allowed}
use Rattle.gob_read.specs.First.{NotAfter, fewer, same, end_last, IsFirst}
use Rattle.gob_read.specs.Viable.{IsShallow}
use Rattle.gob_read.proofs.PublicLaws.{expects_once, ends_number, not_allowed_first, bad_head_first, not_minimal_first}
use Rattle.gob_read.proofs.PublicLaws.{short_first, too_deep_first, extra_first, next_below}
use Rattle.gob_wire_fields.specs.Earlier.{BeginsPartTop, refused_delta, IsLaterField}
use Rattle.gob_wire_fields.proofs.WiderLaws.{IsWider}
use Rattle.gob_wire_fields.proofs.WiderSpelled.{longer}
use Rattle.gob_wire_fields.proofs.WiderExpects.{run_expects, run_more, run_later, top_expects, begins_top_later}
use Rattle.gob_wire_fields.proofs.WiderExpects.{NextDelta}
use Rattle.gob_wire_fields.proofs.WiderExpects.{expects_top_later, top_later, Before, just_this, fewer_deltas, LeadsTop}
use Rattle.gob_wire_fields.proofs.WiderExpects.{expects_top_earlier, top_earlier}

-- ---- the refusal of a delta that leads to a later field

pub leads_refused : {T U : Table} {t : TypeId} {limit announced : ℕ} {z : List ℕ} → IsWider T U → (l : LeadsTop T t z)
    → Refused T t limit announced z (refused_delta l.around l.fields l.delta)
leads_refused {T = T} {t = t} {limit = limit} {announced = announced} {z = z} w l =
    let a = top_expects l.begins w.before (run_expects l.run) in
    let below : l.next ≤ 5 = next_below l.run (omega arith) in
    let refused : Refused T t limit announced z (record {
      place = length (l.around ++ l.fields);
      seen =
          length (l.around ++ l.fields) + length l.delta;
      reason = reason.FieldNumber;
    }) =
    not_allowed l.rest a.1 (l.whole ∙ sym (append_assoc l.around l.fields (l.delta ++ l.rest))) l.spelled
    (λ few. beyond l.next l.number l.later below few) in
    subst (λ n. Refused T t limit announced z (record {
      place = n;
      seen = n + length l.delta;
      reason =
          reason.FieldNumber;
    })) (length-append l.around l.fields) refused
  where
    beyond : (next n : ℕ) → (next + n ≡ 6) ⊎ (next + n ≡ 7) → next ≤ 5 → n ≤ 5 - next → ⊥
    beyond next n (inl e) below few = omega arith
    beyond next n (inr e) below few = omega arith

-- ---- on to the later fields

number_is : {a b : Allowed} → ◌≡◌ {A = Expected} (a_number a) (a_number b) → a ≡ b
number_is e = cc

pub refused_later : {T U : Table} {t : TypeId} {limit announced : ℕ} {z : List ℕ} {R : Refusal} → IsWider T U
    → Refused T t limit announced z R → Refused U t limit announced z R ⊎ IsLaterField T t z R
refused_later w (extra r p e l) = inl (extra r (top_later w p) e l)
refused_later {T = T} {U = U} {t = t} {limit = limit} {announced = announced} {z = z} w
    (too_deep {p = p} r {w = v} {d = d} a e l) = inl (by (expects_top_later w a))
  where
    by : ExpectsTop U t p v d ⊎ NextDelta T (BeginsPartTop T t) p v (λ v. ExpectsTop U t p v d)
        → Refused U t limit announced z (record { place = length p; seen = length p; reason = reason.TooDeep })
    by (inl b) = too_deep r b e l
    by (inr x) = too_deep r x.now e l
refused_later {T = T} {U = U} {t = t} {limit = limit} {announced = announced} {z = z} w
    (short_of {p = p} r {w = v} {d = d} a e n h) = inl (by (expects_top_later w a))
  where
    by : ExpectsTop U t p v d ⊎ NextDelta T (BeginsPartTop T t) p v (λ v. ExpectsTop U t p v d)
        → Refused U t limit announced z (record { place = announced; seen = announced; reason = reason.Short })
    by (inl b) = short_of r b e n h
    by (inr x) = short_of r x.now e n (within_number (ends_number (subst (λ v. EndsWithin v r) x.is h)))
refused_later {T = T} {U = U} {t = t} {limit = limit} {announced = announced} {z = z} w
    (bad_head_at {p = p} r {a = v} {d = d} a e h) = inl (by (expects_top_later w a))
  where
    by : ExpectsTop U t p (a_number v) d ⊎ NextDelta T (BeginsPartTop T t) p (a_number v) (λ v. ExpectsTop U t p v d)
        → Refused U t limit announced z (record { place = length p; seen = length p + 1; reason = reason.BadHead })
    by (inl b) = bad_head_at r b e h
    by (inr x) = bad_head_at r x.now e h
refused_later {T = T} {U = U} {t = t} {limit = limit} {announced = announced} {z = z} w
    (not_minimal_at {p = p} r {a = v} {d = d} a e h) = inl (by (expects_top_later w a))
  where
    by : ExpectsTop U t p (a_number v) d ⊎ NextDelta T (BeginsPartTop T t) p (a_number v) (λ v. ExpectsTop U t p v d)
        → Refused U t limit announced z (record { place = length p; seen = length p + 2; reason = reason.NotMinimal })
    by (inl b) = not_minimal_at r b e h
    by (inr x) = not_minimal_at r x.now e h
refused_later {T = T} {U = U} {t = t} {limit = limit} {announced = announced} {z = z} w
    (not_allowed {p = p} {c = c} r {a = v} {d = d} {n = n} a e u h) = by (expects_top_later w a)
  where
    R : Refusal
    R = record { place = length p; seen = length p + length c; reason = reason_of v }

    which : (next : ℕ) → next ≤ 5 → ¬ (n ≤ 5 - next) → n ≤ 7 - next → (next + n ≡ 6) ⊎ (next + n ≡ 7)
    which next below more few = elim (cases_lt (next + n) 7) [
      | inl l ↦ inl (omega (arith, at_least next n below more))
      | inr l ↦ inr (omega arith)
    ]
      where
        at_least : (next n : ℕ) → next ≤ 5 → ¬ (n ≤ 5 - next) → 6 ≤ next + n
        at_least next n below more = elim (cases_lt (5 - next) n) [ inl l ↦ omega arith | inr l ↦ absurd (more l) ]

    next_is : NextDelta T (BeginsPartTop T t) p (a_number v) (λ v. ExpectsTop U t p v d)
        → Refused U t limit announced z R ⊎ IsLaterField T t z R
    next_is x =
        let is : v ≡ delta (5 - x.next) = number_is x.is in
        let why : reason_of v ≡ reason.FieldNumber = ap reason_of is in
        elim (cases_lt (7 - x.next) n) [
          | inl more ↦ inl (subst
              (λ r. Refused U t limit announced z (record { place = length p; seen = length p + length c; reason = r }))
              (sym why) (not_allowed r x.now e u (λ few. omega arith)))
          | inr few ↦ inr (record {
            leads = record {
              around = x.around;
              fields = x.fields;
              next = x.next;
              delta = c;
              number = n;
              rest = r;
              begins = x.begins;
              run = x.run;
              spelled = u;
              later = which x.next x.below (λ l. h (subst (λ v. Allows v n) (sym is) l)) few;
              whole = e ∙ ap (λ p. p ++ (c ++ r)) x.place ∙ append_assoc x.around x.fields (c ++ r);
            };
            refusal = same_refusal (ap length x.place ∙ length-append x.around x.fields) why;
          })
        ]
      where
        same_refusal : {m k : ℕ} {q s : Reason} → m ≡ k → q ≡ s
            → ◌≡◌ {A = Refusal} (record { place = m; seen = m + length c; reason = q })
            (record { place = k; seen = k + length c; reason = s })
        same_refusal {k = k} {q = q} f g =
            ap (λ (m : ℕ). record { place = m; seen = m + length c; reason = q }) f
            ∙ ap (λ (q : Reason). record { place = k; seen = k + length c; reason = q }) g

    by : ExpectsTop U t p (a_number v) d ⊎ NextDelta T (BeginsPartTop T t) p (a_number v) (λ v. ExpectsTop U t p v d)
        → Refused U t limit announced z R ⊎ IsLaterField T t z R
    by (inl b) = inl (not_allowed r b e u h)
    by (inr x) = next_is x

-- ---- back, unless they lead to a later field

-- the delta is among the first bytes of these
pub record LeadsWithin (T : Table) (t : TypeId) (z : List ℕ) (n : ℕ) : Type 0 where
  pub leads : LeadsTop T t z
  pub within : length leads.around + length leads.fields + length leads.delta ≤ n

leads_prefix : {T : Table} {t : TypeId} {p z : List ℕ} {n : ℕ} (r : List ℕ) → z ≡ p ++ r → length p ≤ n → LeadsTop T t p
    → LeadsWithin T t z n
leads_prefix {p = p} r e l x = record {
  leads = record {
    around = x.around;
    fields = x.fields;
    next = x.next;
    delta = x.delta;
    number = x.number;
    rest = x.rest ++ r;
    begins = x.begins;
    run = x.run;
    spelled = x.spelled;
    later = x.later;
    whole = e ∙ ap (λ p. p ++ r) x.whole ∙ longer x.around x.fields x.delta x.rest r;
  };
  within = omega (
    arith,
    ap length x.whole,
    length-append x.around (x.fields ++ (x.delta ++ x.rest)),
    length-append x.fields (x.delta ++ x.rest),
    length-append x.delta x.rest,
    l,
  );
}

pub refused_earlier : {T U : Table} {t : TypeId} {limit announced : ℕ} {z : List ℕ} {S : Refusal} → IsWider T U
    → Refused U t limit announced z S → Refused T t limit announced z S ⊎ LeadsWithin T t z S.seen
refused_earlier {T = T} {t = t} {limit = limit} {announced = announced} {z = z} w (extra {v = v} {f = f} r p e l) =
    by (top_earlier w p)
  where
    by : SpellsTop T t v f ⊎ LeadsTop T t f
        → Refused T t limit announced z (record { place = length f; seen = length f; reason = reason.Extra })
        ⊎ LeadsWithin T t z (length f)
    by (inl q) = inl (extra r q e l)
    by (inr x) = inr (leads_prefix r e (omega arith) x)
refused_earlier {T = T} {t = t} {limit = limit} {announced = announced} {z = z} w (too_deep {p = p} r {w = v} {d = d} a
    e l) = by (expects_top_earlier w a)
  where
    by : Before (λ v. ExpectsTop T t p v d) v ⊎ LeadsTop T t p
        → Refused T t limit announced z (record { place = length p; seen = length p; reason = reason.TooDeep })
        ⊎ LeadsWithin T t z (length p)
    by (inl (just_this b)) = inl (too_deep r b e l)
    by (inl (fewer_deltas next below i b)) = inl (too_deep r b e l)
    by (inr x) = inr (leads_prefix r e (omega arith) x)
refused_earlier {T = T} {t = t} {limit = limit} {announced = announced} {z = z} w (short_of {p = p} r {w = v} {d = d} a
    e n h) = by (expects_top_earlier w a)
  where
    by : Before (λ v. ExpectsTop T t p v d) v ⊎ LeadsTop T t p
        → Refused T t limit announced z (record { place = announced; seen = announced; reason = reason.Short })
        ⊎ LeadsWithin T t z announced
    by (inl (just_this b)) = inl (short_of r b e n h)
    by (inl (fewer_deltas next below i b)) =
        inl (short_of r b e n (within_number (ends_number (subst (λ v. EndsWithin v r) i h))))
    by (inr x) = inr (leads_prefix r e (omega (arith, ap length e, length-append p r)) x)
refused_earlier {T = T} {t = t} {limit = limit} {announced = announced} {z = z} w (bad_head_at {p = p} r {a = v} {d = d}
    a e h) = by (expects_top_earlier w a)
  where
    by : Before (λ v. ExpectsTop T t p v d) (a_number v) ⊎ LeadsTop T t p
        → Refused T t limit announced z (record { place = length p; seen = length p + 1; reason = reason.BadHead })
        ⊎ LeadsWithin T t z (length p + 1)
    by (inl (just_this b)) = inl (bad_head_at r b e h)
    by (inl (fewer_deltas next below i b)) = inl (bad_head_at r b e h)
    by (inr x) = inr (leads_prefix r e (omega arith) x)
refused_earlier {T = T} {t = t} {limit = limit} {announced = announced} {z = z} w
    (not_minimal_at {p = p} r {a = v} {d = d} a e h) = by (expects_top_earlier w a)
  where
    by : Before (λ v. ExpectsTop T t p v d) (a_number v) ⊎ LeadsTop T t p
        → Refused T t limit announced z (record { place = length p; seen = length p + 2; reason = reason.NotMinimal })
        ⊎ LeadsWithin T t z (length p + 2)
    by (inl (just_this b)) = inl (not_minimal_at r b e h)
    by (inl (fewer_deltas next below i b)) = inl (not_minimal_at r b e h)
    by (inr x) = inr (leads_prefix r e (omega arith) x)
refused_earlier {T = T} {t = t} {limit = limit} {announced = announced} {z = z} w (not_allowed {p = p} {c = c} r {a = v}
    {d = d} {n = n} a e u h) = by (expects_top_earlier w a)
  where
    by : Before (λ v. ExpectsTop T t p v d) (a_number v) ⊎ LeadsTop T t p
        → Refused T t limit announced z (record { place = length p; seen = length p + length c; reason = reason_of v })
        ⊎ LeadsWithin T t z (length p + length c)
    by (inl (just_this b)) = inl (not_allowed r b e u h)
    by (inl (fewer_deltas next below i b)) =
        let is : v ≡ delta (7 - next) = number_is i in
        inl (subst (λ r. Refused T t limit announced z (record {
          place = length p;
          seen = length p + length c;
          reason =
              r;
        })) (sym (ap reason_of is))
        (not_allowed r b e u (λ few. h (subst (λ v. Allows v n) (sym is) (let l : n ≤ 7 - next = omega arith in
        l)))))
    by (inr x) = inr (leads_prefix (c ++ r) e (omega arith) x)

-- ---- the refusal that is given

-- the delta isn't refused where it leads to a field
not_refused : {T U : Table} {t : TypeId} {limit announced : ℕ} {z : List ℕ} {R : Refusal} → IsWider T U
    → IsLaterField T t z R → Refused U t limit announced z R → ⊥
not_refused w x (extra r p e l) = let f = ap (λ (R : Refusal). R.reason) x.refusal in cc
not_refused w x (too_deep r a e l) = let f = ap (λ (R : Refusal). R.reason) x.refusal in cc
not_refused w x (short_of r a e n h) = let f = ap (λ (R : Refusal). R.reason) x.refusal in cc
not_refused w x (bad_head_at r a e h) = let f = ap (λ (R : Refusal). R.reason) x.refusal in cc
not_refused w x (not_minimal_at r a e h) = let f = ap (λ (R : Refusal). R.reason) x.refusal in cc
not_refused {U = U} {t = t} w x (not_allowed {p = p} {c = c} r {a = v} {d = d} {n = n} a e u h) =
    let l = x.leads in
    let now = top_expects (begins_top_later w l.begins) w.now (run_expects (run_more (run_later w l.run))) in
    let place : length p ≡ length (l.around ++ l.fields) = ap (λ (R : Refusal). R.place) x.refusal
    ∙ sym (length-append l.around l.fields) in
    let parts = append_split p (l.around ++ l.fields) (c ++ r) (l.delta ++ l.rest) place (sym e ∙ l.whole
    ∙ sym (append_assoc l.around l.fields (l.delta ++ l.rest))) in
    let one = unsigned_prefix r l.rest u l.spelled parts.1 in
    let here = subst (λ p. ExpectsTop U t p (a_number v) d) parts.0 a in
    let is : v ≡ delta (7 - l.next) = number_is (expects_once here now.1).0 in
    h (subst (λ v. Allows v n) (sym is) (within l.next l.number n l.later one.value))
  where
    within : (next m n : ℕ) → (next + m ≡ 6) ⊎ (next + m ≡ 7) → n ≡ m → n ≤ 7 - next
    within next m n (inl f) g = omega arith
    within next m n (inr f) g = omega arith

after_cases : {R S : Refusal} → NotAfter R S → (R.seen < S.seen)
    ⊎ ((R ≡ S) ⊎ ((R.seen ≡ S.seen) × (S.reason ≡ reason.Short)))
after_cases (fewer l) = inl l
after_cases same = inr (inl refl)
after_cases (end_last e s) = inr (inr (e, s))

pub first_later : {T U : Table} {t : TypeId} {limit announced : ℕ} {z : List ℕ} {R : Refusal} → IsWider T U
    → IsFirst T t limit announced z R → IsFirst U t limit announced z R ⊎ IsLaterField T t z R
first_later {T = T} {U = U} {t = t} {limit = limit} {announced = announced} {z = z} {R = R} w h =
    by (refused_later w h.refused)
  where
    behind : Refused U t limit announced z R → {S : Refusal} (x : LeadsWithin T t z S.seen)
        → (R.seen < length x.leads.around + length x.leads.fields + length x.leads.delta)
        ⊎ ((R ≡ refused_delta x.leads.around x.leads.fields x.leads.delta)
        ⊎ ((R.seen ≡ length x.leads.around + length x.leads.fields + length x.leads.delta)
        × (reason.FieldNumber ≡ reason.Short)))
        → NotAfter R S
    behind r x (inl l) = fewer (let n = x.within in omega arith)
    behind r x (inr (inl e)) = absurd (not_refused w (record { leads = x.leads; refusal = e }) r)
    behind r x (inr (inr e)) = absurd (let f = e.1 in cc)

    each : Refused U t limit announced z R → (S : Refusal) → Refused T t limit announced z S ⊎ LeadsWithin T t z S.seen
        → NotAfter R S
    each r S (inl q) = h.first S q
    each r S (inr x) = behind r {S = S} x
        (after_cases (h.first (refused_delta x.leads.around x.leads.fields x.leads.delta) (leads_refused w x.leads)))

    by : Refused U t limit announced z R ⊎ IsLaterField T t z R → IsFirst U t limit announced z R ⊎ IsLaterField T t z R
    by (inr x) = inr x
    by (inl r) = inl (record { refused = r; first = λ S k. each r S (refused_earlier w k) })

-- ---- where something is refused, some refusal is given

deep_somehow : {T : Table} {t : TypeId} {limit announced d : ℕ} {z q : List ℕ} {v : Expected} (n : ℕ) (r : List ℕ)
    → length q ≤ n → ExpectsTop T t q v d → limit < d → z ≡ q ++ r → ((R : Refusal) → ¬ IsFirst T t limit announced z R)
    → ⊥
deep_somehow zero r few a l e none =
    none _ (too_deep_first r a l (record { each = λ q s u c b f m. absurd (m (no_bytes q s f few)) }) e)
  where
    no_bytes : {p : List ℕ} (q s : List ℕ) → p ≡ q ++ s → length p ≤ 0 → s ≡ []
    no_bytes q [] f few = refl
    no_bytes q (x ∷ s) f few = absurd (omega (arith, ap length f, length-append q (x ∷ s)))
deep_somehow {limit = limit} (suc n) r few a l e none = none _ (too_deep_first r a l (record {
  each = λ q s u c b f m. elim (cases_lt limit c) [
    | inl deep ↦
        absurd (deep_somehow n (s ++ r) (shorter q s f m few) b deep (e ∙ ap (λ q. q ++ r) f ∙ append_assoc q s r) none)
    | inr few ↦ few
  ];
}) e)
  where
    shorter : {p : List ℕ} (q s : List ℕ) → p ≡ q ++ s → s ≢ [] → length p ≤ suc n → length q ≤ n
    shorter q [] f m few = absurd (m refl)
    shorter q (x ∷ s) f m few = omega (arith, ap length f, length-append q (x ∷ s))

shallow_somehow : {T : Table} {t : TypeId} {limit announced : ℕ} {z p : List ℕ} (r : List ℕ) → z ≡ p ++ r
    → ((R : Refusal) → ¬ IsFirst T t limit announced z R) → IsShallow T t limit p
shallow_somehow {limit = limit} r e none =
    record {
      each = λ q s u c b f m. elim (cases_lt limit c) [
        | inl deep ↦
            absurd (deep_somehow (length q) (s ++ r) (omega arith) b deep (e ∙ ap (λ q. q ++ r) f ∙ append_assoc q s r)
            none)
        | inr few ↦ few
      ];
    }

pub first_somehow : {T : Table} {t : TypeId} {limit announced : ℕ} {z : List ℕ} {S : Refusal}
    → Refused T t limit announced z S → ((R : Refusal) → ¬ IsFirst T t limit announced z R) → ⊥
first_somehow (extra r p e l) none = none _ (extra_first r p (shallow_somehow r e none) e l)
first_somehow (too_deep {p = p} r a e l) none = deep_somehow (length p) r (omega arith) a l e none
first_somehow {limit = limit} (short_of {p = p} r {d = d} a e n h) none =
    elim (cases_lt limit d) [
      | inl deep ↦ deep_somehow (length p) r (omega arith) a deep e none
      | inr few ↦ none _ (short_first r a few (shallow_somehow r e none) e n h)
    ]
first_somehow {limit = limit} (bad_head_at {p = p} r {d = d} a e h) none =
    elim (cases_lt limit d) [
      | inl deep ↦ deep_somehow (length p) r (omega arith) a deep e none
      | inr few ↦ none _ (bad_head_first r a few (shallow_somehow r e none) e h)
    ]
first_somehow {limit = limit} (not_minimal_at {p = p} r {d = d} a e h) none =
    elim (cases_lt limit d) [
      | inl deep ↦ deep_somehow (length p) r (omega arith) a deep e none
      | inr few ↦ none _ (not_minimal_first r a few (shallow_somehow r e none) e h)
    ]
first_somehow {limit = limit} (not_allowed {p = p} {c = c} r {d = d} a e u h) none =
    elim (cases_lt limit d) [
      | inl deep ↦ deep_somehow (length p) (c ++ r) (omega arith) a deep e none
      | inr few ↦ none _ (not_allowed_first r a few (shallow_somehow (c ++ r) e none) e u h)
    ]
