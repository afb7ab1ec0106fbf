-- Two places of the same bytes: they are one, or what is expected at one of them stands there.
use Rattle.std.proofs.Common.{◌≡◌, ℕ, suc, ◌<◌, ◌≤◌, ◌⊎◌, inl, inr, List, [], ◌∷◌, ◌++◌, length, Option, Some, arith}
use Rattle.std.proofs.Common.{refl, sym, ap, ◌∙◌, subst, append_assoc, length-append}
use Rattle.std.proofs.lemmas.Bool.{cases_lt}
use Rattle.gob_num.specs.Unsigned.{short}
use Rattle.gob_num.specs.Spelled.{Same}
use Rattle.gob_num.proofs.PublicLaws.{unsigned_length, regroup}
use Rattle.gob_types.specs.declared.id.TypeId.{TypeId}
use Rattle.gob_types.specs.declared.kind.Kind.{Kind}
use Rattle.gob_types.specs.declared.kind.Shape.{Shape}
use Rattle.gob_types.specs.Table.{Table}
use Rattle.gob_types.proofs.PublicLaws.{some_injective}
use Rattle.gob_value.specs.Tree.{Tree}
use Rattle.gob_value.specs.Top.{IsStruct, SpellsTop, at_once, tagged}
use Rattle.gob_read.specs.Expected.{Expected, a_number, raw, tag}
use Rattle.gob_read.specs.Expects.{Enters, ExpectsAt, byte_content, text_content, opaque_content, Expects, in_itself}
use Rattle.gob_read.specs.Expects.{in_part, ExpectsTop, in_struct, at_tag, behind_tag}
use Rattle.gob_read.specs.Viable.{IsShallow}
use Rattle.gob_read.proofs.Grammar.Prefixes.{prefix_of, append_nil, rest_behind}
use Rattle.gob_read.proofs.Grammar.Whole.{StandsFirst, Meets, number_met, raw_met, met, whole_meets}
use Rattle.gob_read.proofs.Grammar.Once.{at_once as places_at_once, enters_at, enters_once}

first_meets : {T : Table} {s : TypeId} {d : ℕ} {p : List ℕ} {w : Expected} (x : List ℕ) → StandsFirst T s (p ++ x)
    → Expects T s p w d → Meets w x
first_meets x b a = whole_meets x b.rest b.spelled a b.whole

-- at a type
pub compare : {T : Table} {t : TypeId} {d d' : ℕ} {p q : List ℕ} {w u : Expected} (x y : List ℕ) → Expects T t p w d
    → Expects T t q u d' → p ++ x ≡ q ++ y → Same {A = Expected × ℕ} (w, d) (u, d') p q x y ⊎ (Meets w x ⊎ Meets u y)
compare {T = T} x y (in_itself {s = k} e a) (in_itself {s = l} {p = q} {w = u} f b) h =
    let one : l ≡ k = some_injective (sym f ∙ e) in
    elim (places_at_once x y a (subst (λ (k : Shape). ExpectsAt T k.kind q u) one b) h) [
      | inl z ↦ inl (record { value = ap (λ w. (w, 1)) z.value; bytes = z.bytes; rest = z.rest })
      | inr z ↦ inr z
    ]
compare {T = T} x y (in_itself {s = k} e a) (in_part {u = s} {s = l} {p = p'} {q = q'} f c b) h =
    let one : l ≡ k = some_injective (sym f ∙ e) in
    elim (enters_at x (p' ++ y) (subst (λ (k : Shape). Enters T k.kind q' s) one c) a (h ∙ append_assoc q' p' y))
    [ inl z ↦ inr (inl z) | inr z ↦ inr (inr (first_meets y z b)) ]
compare {T = T} x y (in_part {u = s} {s = l} {p = p'} {q = q'} f c b) (in_itself {s = k} e a) h =
    let one : l ≡ k = some_injective (sym f ∙ e) in
    elim (enters_at y (p' ++ x) (subst (λ (k : Shape). Enters T k.kind q' s) one c) a (sym h ∙ append_assoc q' p' x))
    [ inl z ↦ inr (inr z) | inr z ↦ inr (inl (first_meets x z b)) ]
compare {T = T} x y (in_part {u = s} {d = d1} {s = k} {p = p'} {q = p''} {w = w} e c a)
    (in_part {u = s'} {d = d2} {s = l} {p = q'} {q = q''} {w = u} f g b) h =
    let one : l ≡ k = some_injective (sym f ∙ e) in
    elim (enters_once (p' ++ x) (q' ++ y) c (subst (λ (k : Shape). Enters T k.kind q'' s') one g)
    (regroup p'' p' x q'' q' y h)) [
      | inl z ↦
          let type : s' ≡ s = sym z.value in
          elim (compare x y a (subst (λ s. Expects T s q' u d2) type b) z.rest) [
            | inl r ↦ inl (
                let e1 : p'' ≡ q'' = z.bytes in let e2 : p' ≡ q' = r.bytes in
                record { value = ap (λ (v : Expected × ℕ). (v.0, suc v.1)) r.value; bytes = cc; rest = r.rest })
            | inr r ↦ inr r
          ]
      | inr z ↦ inr (elim z [ inl v ↦ inl (first_meets x v a) | inr v ↦ inr (first_meets y v b) ])
    ]

-- a type has one shape, so its values have a tag, or they have none
pub one_way : {o : Option Shape} {s s' : Shape} {A : Type 0} → o ≡ Some s → IsStruct s.kind → o ≡ Some s'
    → ¬ IsStruct s'.kind → A
one_way e i f n = absurd (n (subst (λ (s : Shape). IsStruct s.kind) (some_injective (sym e ∙ f)) i))

pub tail_same : {a b : ℕ} {xs ys : List ℕ} → a ∷ xs ≡ b ∷ ys → xs ≡ ys
tail_same e = cc

tag_met : {x : List ℕ} (y : List ℕ) → x ≡ 0 ∷ y → Meets (a_number tag) x
tag_met {x = x} y e = met {c = 0 ∷ []} x y refl (short (omega arith)) e

-- at the top
pub compare_top : {T : Table} {t : TypeId} {d d' : ℕ} {p q : List ℕ} {w u : Expected} (x y : List ℕ)
    → ExpectsTop T t p w d → ExpectsTop T t q u d' → p ++ x ≡ q ++ y → Same {A = Expected × ℕ} (w, d) (u, d') p q x y
    ⊎ (Meets w x ⊎ Meets u y)
compare_top x y (in_struct e i a) (in_struct f j b) h = compare x y a b h
compare_top x y (in_struct e i a) (at_tag f n) h = one_way e i f n
compare_top x y (in_struct e i a) (behind_tag f n b) h = one_way e i f n
compare_top x y (at_tag e n) (in_struct f j b) h = one_way f j e n
compare_top x y (at_tag e n) (at_tag f m) h = inl (record { value = refl; bytes = refl; rest = h })
compare_top x y (at_tag e n) (behind_tag {p = q} f m b) h = inr (inl (tag_met (q ++ y) h))
compare_top x y (behind_tag e n a) (in_struct f j b) h = one_way f j e n
compare_top x y (behind_tag {p = p} e n a) (at_tag f m) h = inr (inr (tag_met (p ++ x) (sym h)))
compare_top x y (behind_tag e n a) (behind_tag f m b) h =
    elim (compare x y a b (tail_same h)) [
      | inl z ↦ inl (record { value = z.value; bytes = ap (λ (l : List ℕ). 0 ∷ l) z.bytes; rest = z.rest })
      | inr z ↦ inr z
    ]

-- a whole value meets whatever is expected in it, its tag too
pub whole_meets_top : {T : Table} {t : TypeId} {d : ℕ} {v : Tree} {b p : List ℕ} {w : Expected} (x y : List ℕ)
    → SpellsTop T t v b → ExpectsTop T t p w d → p ++ x ≡ b ++ y → Meets w x
whole_meets_top x y (at_once e i s) (in_struct f j a) h = whole_meets x y s a h
whole_meets_top x y (at_once e i s) (at_tag f n) h = one_way e i f n
whole_meets_top x y (at_once e i s) (behind_tag f n a) h = one_way e i f n
whole_meets_top x y (tagged e n s) (in_struct f j a) h = one_way f j e n
whole_meets_top x y (tagged {b = b} e n s) (at_tag f m) h = tag_met (b ++ y) h
whole_meets_top x y (tagged e n s) (behind_tag f m a) h = whole_meets x y s a (tail_same h)

raw_at : {T : Table} {k : Kind} {p : List ℕ} {n : ℕ} → ExpectsAt T k p (raw n) → 0 < n
raw_at (byte_content l m) = l
raw_at (text_content l m) = l
raw_at (opaque_content l m) = l

raw_in : {T : Table} {t : TypeId} {d : ℕ} {p : List ℕ} {n : ℕ} → Expects T t p (raw n) d → 0 < n
raw_in (in_itself e a) = raw_at a
raw_in (in_part e c a) = raw_in a

-- raw bytes are expected where there are some
pub raw_some : {T : Table} {t : TypeId} {d : ℕ} {p : List ℕ} {n : ℕ} → ExpectsTop T t p (raw n) d → 0 < n
raw_some (in_struct e i a) = raw_in a
raw_some (behind_tag e i a) = raw_in a

-- nothing expected stands in no bytes
pub met_some : {T : Table} {t : TypeId} {d : ℕ} {p : List ℕ} {w : Expected} → ExpectsTop T t p w d → Meets w [] → ⊥
met_some {T = T} {t = t} {d = d} {p = p} a m = from m refl a
  where
    from : {w : Expected} {x : List ℕ} → Meets w x → x ≡ [] → ExpectsTop T t p w d → ⊥
    from (number_met {n = n} {c = c} r l s) e a = let z = ap length e in let some = (unsigned_length s).0 in
        omega (arith, length-append c r)
    from (raw_met {n = n} {r = r} l) e a = let z = ap length e in let some = raw_some a in omega arith

-- what stands somewhere stands there when more bytes follow
pub met_longer : {w : Expected} (x y : List ℕ) → Meets w x → Meets w (x ++ y)
met_longer x y (number_met {a = a} {c = c} r l s) = subst (Meets (a_number a)) (sym (append_assoc c r y))
    (number_met (r ++ y) l s)
met_longer x y (raw_met l) = raw_met (omega (arith, length-append x y))

-- a place where what is expected doesn't stand is at or behind every other one
pub unmet_behind : {T : Table} {t : TypeId} {d d' : ℕ} {p q : List ℕ} {w u : Expected} (x y : List ℕ)
    → ExpectsTop T t p w d → ExpectsTop T t q u d' → p ++ x ≡ q ++ y → ¬ Meets u y → length p ≤ length q
unmet_behind {p = p} {q = q} {w = w} {u = u} x y a b e m =
    elim (cases_lt (length q) (length p)) [
      | inr l ↦ l
      | inl l ↦ absurd (
          let f = prefix_of q p y x (sym e) (omega arith) in
          let end : y ≡ f.rest ++ x = rest_behind q p y x (sym e) f in
          elim (compare_top [] f.rest a b (append_nil p ∙ f.whole)) [
            | inl z ↦ let n : length p ≡ length q = ap length z.bytes in omega arith
            | inr z ↦ elim z [
              | inl c ↦ met_some a c
              | inr c ↦ m (subst (Meets u) (sym end) (met_longer f.rest x c))
            ]
          ])
    ]

-- two such places are one
pub unmet_once : {T : Table} {t : TypeId} {d d' : ℕ} {p q : List ℕ} {w u : Expected} (x y : List ℕ)
    → ExpectsTop T t p w d → ExpectsTop T t q u d' → p ++ x ≡ q ++ y → ¬ Meets w x → ¬ Meets u y
    → Same {A = Expected × ℕ} (w, d) (u, d') p q x y
unmet_once x y a b e m n =
    elim (compare_top x y a b e) [ inl z ↦ z | inr z ↦ absurd (elim z [ inl c ↦ m c | inr c ↦ n c ]) ]

-- bytes stop at one place only
pub expects_once : {T : Table} {t : TypeId} {d d' : ℕ} {p : List ℕ} {w u : Expected} → ExpectsTop T t p w d
    → ExpectsTop T t p u d' → (w ≡ u) × (d ≡ d')
expects_once a b =
    elim (compare_top [] [] a b refl) [
      | inl z ↦ (ap (λ (v : Expected × ℕ). v.0) z.value, ap (λ (v : Expected × ℕ). v.1) z.value)
      | inr z ↦ absurd (elim z [ inl c ↦ met_some a c | inr c ↦ met_some b c ])
    ]

-- before or at an unmet place in the shallow part nothing is too deep
pub unmet_shallow : {T : Table} {t : TypeId} {d d' limit : ℕ} {p q : List ℕ} {w u : Expected} (x y : List ℕ)
    → ExpectsTop T t p w d → d ≤ limit → IsShallow T t limit p → ¬ Meets w x → ExpectsTop T t q u d' → p ++ x ≡ q ++ y
    → limit < d' → ⊥
unmet_shallow {T = T} {t = t} {d = d} {d' = d'} {p = p} {q = q} {w = w} {u = u} x y a l s m b e h =
    let behind = unmet_behind y x b a (sym e) m in
    let f = prefix_of q p y x (sym e) behind in
    by_rest f.rest f.whole
  where
    by_rest : (r : List ℕ) → p ≡ q ++ r → ⊥
    by_rest [] k =
        let same : p ≡ q = k ∙ append_nil q in
        let n = (expects_once a (subst (λ q. ExpectsTop T t q u d') (sym same) b)).1 in omega arith
    by_rest (c ∷ r) k = let n = s.each q (c ∷ r) u d' b k (λ z. cc) in omega arith
