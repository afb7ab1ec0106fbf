-- The bytes that show a refusal show it whatever follows them.
use Rattle.std.proofs.Common.{◌≡◌, ℕ, ◌+◌, ◌-◌, ◌<◌, ◌≤◌, inl, inr, List, [], ◌∷◌, ◌++◌, length, take, arith, sym, ap}
use Rattle.std.proofs.Common.{◌∙◌, subst, append_assoc, length-append}
use Rattle.std.proofs.Math.Seq.{take-append-add}
use Rattle.std.proofs.lemmas.Bool.{cases_lt}
use Rattle.std.proofs.lemmas.List.{take-append-le, length-take}
use Rattle.gob_num.specs.Unsigned.{IsBadHead, IsNotMinimal}
use Rattle.gob_num.proofs.PublicLaws.{unsigned_length}
use Rattle.gob_types.specs.declared.id.TypeId.{TypeId}
use Rattle.gob_types.specs.Table.{Table}
use Rattle.gob_read.specs.Refusal as body
use Rattle.gob_read.specs.First.{IsFirst}
use Rattle.gob_read.proofs.PublicLaws.{prefix_of, rest_behind, seen_within, shown_stays}
use Rattle.gob_stream.specs.declared.fault.Refusal.{Refusal}
use Rattle.gob_stream.specs.Bounds.{Bounds}
use Rattle.gob_stream.specs.Refusing.{RefusesCount, item_too_long, stream_too_long, RefusesBody, short, refused_id}
use Rattle.gob_stream.specs.Refusing.{refused_type, refused_value, refused_description, described_wrongly}
use Rattle.gob_stream.specs.Refusing as refusing
use Rattle.gob_stream.specs.Outcome.{RefusesNext, refused_count, refused_body}

-- ---- bytes and those before them

-- of two beginnings of the same bytes the longer goes on behind the shorter
pub record GoesOnBehind (y x c r : List ℕ) : Type 0 where
  pub more : List ℕ
  pub prefix : y ≡ c ++ more
  pub rest : r ≡ more ++ x

pub goes_on_behind : (y x c r : List ℕ) → y ++ x ≡ c ++ r → length c ≤ length y → GoesOnBehind y x c r
goes_on_behind y x c r e l =
    let f = prefix_of c y r x (sym e) l in
    record { more = f.rest; prefix = f.whole; rest = rest_behind c y r x (sym e) f }

pub take_past : (w x : List ℕ) (m : ℕ) → length w ≤ m → take m (w ++ x) ≡ w ++ take (m - length w) x
take_past w x m l =
    let sum : m ≡ length w + (m - length w) = omega arith in
    ap (λ n. take n (w ++ x)) sum ∙ take-append-add w x (m - length w)

pub past_within : (w x : List ℕ) (m : ℕ) → length w < m → length (w ++ take (m - length w) x) ≤ m
past_within w x m l = omega (arith, length-append w (take (m - length w) x), length-take (m - length w) x)

rest_within : (w more x a : List ℕ) (m : ℕ) → length w ≡ length a + length more → length (w ++ x) ≤ m
    → length (more ++ x) ≤ m - length a
rest_within w more x a m n l = omega (arith, length-append w x, length-append more x)

-- ---- how bytes begin
pub bad_shown : (y p x : List ℕ) → 0 < length y → IsBadHead (y ++ p) → IsBadHead (y ++ x)
bad_shown [] p x l h = absurd (omega arith)
bad_shown (a ∷ y) p x l h = h

pub minimal_shown : (y p x : List ℕ) → 1 < length y → IsNotMinimal (y ++ p) → IsNotMinimal (y ++ x)
minimal_shown [] p x l h = absurd (omega arith)
minimal_shown (a ∷ []) p x l h = absurd (omega arith)
minimal_shown (a ∷ b ∷ y) p x l h = h

pub some_bad : (z : List ℕ) → IsBadHead z → 0 < length z
some_bad [] h = absurd h
some_bad (a ∷ z) h = omega arith

pub two_padded : (z : List ℕ) → IsNotMinimal z → 1 < length z
two_padded [] h = absurd h
two_padded (a ∷ []) h = absurd h
two_padded (a ∷ b ∷ z) h = omega arith

-- ---- a count
pub count_seen : {L : Bounds} {offset : ℕ} {z : List ℕ} {R : Refusal} → RefusesCount L offset z R
    → R.seen ≤ offset + length z
count_seen {z = z} (refusing.RefusesCount.bad_head h) = let n = some_bad z h in omega arith
count_seen {z = z} (refusing.RefusesCount.not_minimal h) = let n = two_padded z h in omega arith
count_seen (item_too_long {c = c} r e u l) = omega (arith, ap length e, length-append c r)
count_seen (stream_too_long {c = c} r e u l k) = omega (arith, ap length e, length-append c r)

pub number_shown : (y p c r x : List ℕ) → y ++ p ≡ c ++ r → length c ≤ length y → (w : List ℕ) × (y ++ x ≡ c ++ w)
number_shown y p c r x e l =
    let g = goes_on_behind y p c r e l in
    (g.more ++ x, ap (λ l. l ++ x) g.prefix ∙ append_assoc c g.more x)

pub count_shown : {L : Bounds} {offset : ℕ} {R : Refusal} (y p x : List ℕ) → RefusesCount L offset (y ++ p) R
    → R.seen ≤ offset + length y → RefusesCount L offset (y ++ x) R
count_shown y p x (refusing.RefusesCount.bad_head h) n = refusing.RefusesCount.bad_head
    (bad_shown y p x (omega arith) h)
count_shown y p x (refusing.RefusesCount.not_minimal h) n = refusing.RefusesCount.not_minimal
    (minimal_shown y p x (omega arith) h)
count_shown y p x (item_too_long {c = c} r e u l) n =
    let g = number_shown y p c r x e (omega arith) in item_too_long g.0 g.1 u l
count_shown y p x (stream_too_long {c = c} r e u l k) n =
    let g = number_shown y p c r x e (omega arith) in stream_too_long g.0 g.1 u l k

-- ---- a body
pub body_seen_behind : {base : Table} {L : Bounds} {T : Table} {offset m : ℕ} {y : List ℕ} {R : Refusal}
    → RefusesBody base L T offset m y R → offset ≤ R.seen
body_seen_behind (refusing.RefusesBody.bad_head h) = omega arith
body_seen_behind (refusing.RefusesBody.not_minimal h) = omega arith
body_seen_behind (short l h) = omega arith
body_seen_behind (refused_id z e n s q) = omega arith
body_seen_behind (refused_type z e s q) = omega arith
body_seen_behind (refused_value z e s p q) = omega arith
body_seen_behind (refused_description z e n s p q) = omega arith
body_seen_behind (described_wrongly e l n s p q d w) = omega arith

pub body_seen : {base : Table} {L : Bounds} {T : Table} {offset m : ℕ} {y : List ℕ} {R : Refusal}
    → RefusesBody base L T offset m y R → R.seen ≤ offset + length y
body_seen {y = y} (refusing.RefusesBody.bad_head h) = let n = some_bad y h in omega arith
body_seen {y = y} (refusing.RefusesBody.not_minimal h) = let n = two_padded y h in omega arith
body_seen (short l h) = omega arith
body_seen (refused_id {a = a} z e n s q) = omega (arith, ap length e, length-append a z)
body_seen (refused_type {a = a} z e s q) = omega (arith, ap length e, length-append a z)
body_seen (refused_value {a = a} z e s p q) = let n = seen_within q.refused in
    omega (arith, ap length e, length-append a z)
body_seen (refused_description {a = a} z e k s p q) = let n = seen_within q.refused in
    omega (arith, ap length e, length-append a z)
body_seen (described_wrongly e l n s p q d w) = omega arith

pub first_shown : {T : Table} {t : TypeId} {limit announced : ℕ} {z : List ℕ} {R : body.Refusal} (w p x : List ℕ)
    → IsFirst T t limit announced z R → z ≡ w ++ p → R.seen ≤ length w
    → length (w ++ p) ≤ announced → length (w ++ x) ≤ announced → IsFirst T t limit announced (w ++ x) R
first_shown {R = R} w p x f e n b t =
    shown_stays (w ++ x) f (omega (arith, ap length e)) t (take-append-le R.seen w x n
    ∙ sym (ap (λ l. take R.seen l) e ∙ take-append-le R.seen w p n))

-- what is there of a body, of which fewer bytes were there
within_shown : {base : Table} {L : Bounds} {T : Table} {offset m : ℕ} {R : Refusal} (w p x : List ℕ)
    → RefusesBody base L T offset m (w ++ p) R → length w < m → length (w ++ p) ≤ m → length (w ++ x) ≤ m
    → R.seen ≤ offset + length w → RefusesBody base L T offset m (w ++ x) R
within_shown w p x (refusing.RefusesBody.bad_head h) l b t n =
    refusing.RefusesBody.bad_head (bad_shown w p x (omega arith) h)
within_shown w p x (refusing.RefusesBody.not_minimal h) l b t n = refusing.RefusesBody.not_minimal
    (minimal_shown w p x (omega arith) h)
within_shown w p x (short k h) l b t n = absurd (omega arith)
within_shown w p x (refused_id {a = a} z e k s q) l b t n = let g = number_shown w p a z x e (omega arith) in
    refused_id g.0 g.1 k s q
within_shown w p x (refused_type {a = a} z e s q) l b t n = let g = number_shown w p a z x e (omega arith) in
    refused_type g.0 g.1 s q
within_shown {m = m} w p x (refused_value {a = a} {R = R} z e s q f) l b t n =
    let g = goes_on_behind w p a z e (omega arith) in
    let size : length w ≡ length a + length g.more = ap length g.prefix ∙ length-append a g.more in
    refused_value (g.more ++ x) (ap (λ l. l ++ x) g.prefix ∙ append_assoc a g.more x) s q
    (first_shown g.more p x f g.rest (omega arith) (rest_within w g.more p a m size b)
    (rest_within w g.more x a m size t))
within_shown {m = m} w p x (refused_description {a = a} {R = R} z e k s q f) l b t n =
    let g = goes_on_behind w p a z e (omega arith) in
    let size : length w ≡ length a + length g.more = ap length g.prefix ∙ length-append a g.more in
    refused_description (g.more ++ x) (ap (λ l. l ++ x) g.prefix ∙ append_assoc a g.more x) k s q
    (first_shown g.more p x f g.rest (omega arith) (rest_within w g.more p a m size b)
    (rest_within w g.more x a m size t))
within_shown w p x (described_wrongly e k i s q r d v) l b t n = absurd (omega arith)

-- a refusal within a body is shown also where more bytes are there than the body has
pub body_shown : {base : Table} {L : Bounds} {T : Table} {offset m : ℕ} {R : Refusal} (w p x : List ℕ)
    → RefusesBody base L T offset m (take m (w ++ p)) R → R.seen ≤ offset + length w
    → RefusesBody base L T offset m (take m (w ++ x)) R
body_shown {base = base} {L = L} {T = T} {offset = offset} {m = m} {R = R} w p x q n =
    elim (cases_lt (length w) m) [
      | inl l ↦
          let before = subst (λ y. RefusesBody base L T offset m y R) (take_past w p m (omega arith)) q in
          subst (λ y. RefusesBody base L T offset m y R) (sym (take_past w x m (omega arith)))
          (within_shown w (take (m - length w) p) (take (m - length w) x) before l (past_within w p m l)
          (past_within w x m l) n)
      | inr l ↦ subst (λ y. RefusesBody base L T offset m y R) (take-append-le m w p l ∙ sym (take-append-le m w x l)) q
    ]

-- ---- the next item
pub next_seen : {base : Table} {L : Bounds} {T : Table} {offset : ℕ} {z : List ℕ} {R : Refusal}
    → RefusesNext base L T offset z R → R.seen ≤ offset + length z
next_seen (refused_count q) = count_seen q
next_seen (refused_body {m = m} {c = c} r e u l s q) = let n = body_seen q in
    omega (arith, ap length e, length-append c r, length-take m r)

-- a refusal of the next item is shown by bytes of it
pub next_seen_behind : {base : Table} {L : Bounds} {T : Table} {offset : ℕ} {z : List ℕ} {R : Refusal}
    → RefusesNext base L T offset z R → offset < R.seen
next_seen_behind (refused_count (refusing.RefusesCount.bad_head h)) = omega arith
next_seen_behind (refused_count (refusing.RefusesCount.not_minimal h)) = omega arith
next_seen_behind (refused_count (item_too_long r e u l)) = omega (arith, (unsigned_length u).0)
next_seen_behind (refused_count (stream_too_long r e u l k)) = omega (arith, (unsigned_length u).0)
next_seen_behind (refused_body r e u l s q) = let n = body_seen_behind q in omega (arith, (unsigned_length u).0)

-- it is the same whatever follows the bytes that show it
pub next_shown : {base : Table} {L : Bounds} {T : Table} {offset : ℕ} {R : Refusal} (y p x : List ℕ)
    → RefusesNext base L T offset (y ++ p) R → R.seen ≤ offset + length y
    → RefusesNext base L T offset (y ++ x) R
next_shown y p x (refused_count q) n = refused_count (count_shown y p x q n)
next_shown {base = base} {L = L} {T = T} {offset = offset} {R = R} y p x (refused_body {m = m} {c = c} r e u l s q) n =
    let b = body_seen_behind q in
    let g = goes_on_behind y p c r e (omega arith) in
    let size : length y ≡ length c + length g.more = ap length g.prefix ∙ length-append c g.more in
    refused_body (g.more ++ x) (ap (λ l. l ++ x) g.prefix ∙ append_assoc c g.more x) u l s
    (body_shown g.more p x (subst (λ r. RefusesBody base L T (offset + length c) m (take m r) R) g.rest q)
    (omega arith))
