-- Where a reader of items stands within an item: no item is whole, and nothing is refused that the bytes so far show.
use Rattle.std.proofs.Common.{◌≡◌, ◌≢◌, ℕ, ℤ, pos, negsuc, ◌+◌, ◌-◌, ◌<◌, ◌≤◌, inl, inr, List, [], ◌∷◌, ◌++◌, length}
use Rattle.std.proofs.Common.{take, arith, refl, sym, ap, ◌∙◌, subst, append_assoc, length-append}
use Rattle.std.proofs.lemmas.Bool.{cases_lt}
use Rattle.std.proofs.lemmas.List.{append-nil}
use Rattle.gob_num.specs.Unsigned.{IsUnsigned, IsUnsignedPrefix, IsBadHead, IsNotMinimal}
use Rattle.gob_num.specs.Signed.{IsSigned}
use Rattle.gob_num.proofs.PublicLaws.{unsigned_prefix, unsigned_length, signed_unsigned, prefix_not_bad_head}
use Rattle.gob_num.proofs.PublicLaws.{prefix_not_padded}
use Rattle.gob_types.specs.declared.id.TypeId.{TypeId}
use Rattle.gob_types.specs.declared.reason.Reason.TheVariants as reason
use Rattle.gob_types.specs.Table.{Table}
use Rattle.gob_types.specs.Base.{base_table, wire_type}
use Rattle.gob_types.specs.Defined.{types}
use Rattle.gob_read.specs.Building.{Building}
use Rattle.gob_read.specs.Viable.{IsViable}
use Rattle.gob_read.proofs.PublicLaws.{prefix_not_number, nothing_yet}
use Rattle.gob_stream.specs.declared.fault.Refusal.{Refusal}
use Rattle.gob_stream.specs.declared.stage.Stage.{Stage}
use Rattle.gob_stream.specs.declared.stage.Stage.TheVariants as stage
use Rattle.gob_stream.specs.declared.count.CountStage.{CountStage}
use Rattle.gob_stream.specs.Machine.Stages.{count_at}
use Rattle.gob_stream.specs.declared.stage.Extent.{Extent}
use Rattle.gob_stream.specs.Machine.SessionState.{SessionState}
use Rattle.gob_stream.specs.Bounds.{Bounds, no_deeper}
use Rattle.gob_stream.specs.Item.{StreamItem}
use Rattle.gob_stream.specs.Body.{MayDefine, MayPut}
use Rattle.gob_stream.specs.Stream.{IsItem, counted, Stream}
use Rattle.gob_stream.specs.Refusing.{refuses, RefusesCount, item_too_long, stream_too_long, RefusesBody, short}
use Rattle.gob_stream.specs.Refusing.{refused_id, refused_type, refused_value, refused_description, described_wrongly}
use Rattle.gob_stream.specs.Refusing as refusing
use Rattle.gob_stream.specs.Outcome.{RefusesNext, refused_count, refused_body, LongestStream, the_end, refused}
use Rattle.gob_stream.specs.Outcome.{at_the_end, Outcome}
use Rattle.gob_stream.specs.Machine.HasRead.{IsCount, IsRest, size, StageHasRead, in_count, in_type_number}
use Rattle.gob_stream.specs.Machine.HasRead.{in_value, in_description, HasRead}
use Rattle.gob_stream.proofs.Stream.DescriptionDepth.{description_stood}
use Rattle.gob_stream.proofs.Stream.StreamLaws.{NoNext, gives_items, same_id}
use Rattle.gob_stream.proofs.Stream.RefusalLaws.{id_met, type_met}
use Rattle.gob_stream.proofs.Stream.RefusingLaws.{is_whole, whole, one_start, RefusesDefinition, by_id, by_first}
use Rattle.gob_stream.proofs.Stream.RefusingLaws.{by_description, RefusesPut, by_type, by_value, RefusesFrom}
use Rattle.gob_stream.proofs.Stream.RefusingLaws.{from_definition, from_value, started, count_not}
use Rattle.gob_stream.proofs.Stream.OutcomeLaws.{outcome_refused, outcome_within}
use Rattle.gob_stream.proofs.Stream.ShownLaws.{goes_on_behind, take_past, body_seen_behind, next_seen}
use Rattle.gob_stream.proofs.Reader.StageSteps.{parts}

-- ---- how much of a body is left
pub rest_size : {body rest : Extent} {a : List ℕ} (m : ℕ) → IsRest body a rest → body.end ≡ body.begin + m
    → size rest ≡ m - length a
rest_size {body = body} {rest = rest} {a = a} m r e =
    let b : rest.begin ≡ body.begin + length a = r.begin in
    let f : rest.end ≡ body.end = r.end in
    let w : rest.begin ≤ rest.end = r.within in
    omega arith

-- ---- no item is whole
pub stands_before_the_end : {base : Table} {X O : Type 0} {most : ℕ} {building : Building X O most} {L : Bounds}
    {T U : Table} {offset : ℕ} {expects : Stage X O} {z b : List ℕ} {i : StreamItem} (y : List ℕ)
    → StageHasRead building L T offset expects z → IsItem base L T offset i b U → z ≡ b ++ y → ⊥
stands_before_the_end y (in_count f) (counted {c = c} {d = d} u l s p) e = prefix_not_number (d ++ y) f u (e
    ∙ append_assoc c d y)
stands_before_the_end y (in_type_number {number = number} k f w) (counted {c = c} {d = d} u l s p) e =
    let same = unsigned_prefix number (d ++ y) k.count u (e ∙ append_assoc c d y) in
    let v = same.value in let n = ap length same.rest in omega (arith, length-append d y)
stands_before_the_end y (in_value {m = m} {a = a} {z = z} k i r q w) (counted {c = c} {d = d} u l s p) e =
    let same = unsigned_prefix (a ++ z) (d ++ y) k.count u (e ∙ append_assoc c d y) in
    let v = same.value in let n = ap length same.rest in let left = rest_size m r k.end in let room = w.viable.room in
    omega (arith, length-append a z, length-append d y)
stands_before_the_end y (in_description {m = m} {a = a} {z = z} k t i r q w) (counted {c = c} {d = d} u l s p) e =
    let same = unsigned_prefix (a ++ z) (d ++ y) k.count u (e ∙ append_assoc c d y) in
    let v = same.value in let n = ap length same.rest in let left = rest_size m r k.end in let room = w.viable.room in
    omega (arith, length-append a z, length-append d y)

pub stands_no_next : {X O : Type 0} {most : ℕ} {building : Building X O most} {L : Bounds} {T : Table} {offset : ℕ}
    {expects : Stage X O} {z : List ℕ}
    → StageHasRead building L T offset expects z → NoNext base_table L T offset z
stands_no_next s = λ i U b y p e. stands_before_the_end y s p e

-- ---- what is refused later is shown by more bytes

-- a prefix of a number is shorter than each number that begins with it
pub prefix_shorter : {y c : List ℕ} {n : ℕ} (x r : List ℕ) → IsUnsignedPrefix y → IsUnsigned n c → y ++ x ≡ c ++ r
    → length y < length c
prefix_shorter {y = y} {c = c} x r f u e =
    elim (cases_lt (length y) (length c)) [
      | inl l ↦ l
      | inr l ↦ let g = goes_on_behind y x c r e l in
          absurd (prefix_not_number g.more f u g.prefix)
    ]

bad_later : {y : List ℕ} (x : List ℕ) → IsUnsignedPrefix y → IsBadHead (y ++ x) → length y < 1
bad_later {y = []} x f h = omega arith
bad_later {y = a ∷ y} x f h = absurd (prefix_not_bad_head f h)

padded_later : {y : List ℕ} (x : List ℕ) → IsUnsignedPrefix y → IsNotMinimal (y ++ x) → length y < 2
padded_later {y = []} x f h = omega arith
padded_later {y = a ∷ []} x f h = omega arith
padded_later {y = a ∷ b ∷ y} x f h = absurd (prefix_not_padded f h)

count_later : {L : Bounds} {offset : ℕ} {y : List ℕ} {R : Refusal} (x : List ℕ) → IsUnsignedPrefix y
    → RefusesCount L offset (y ++ x) R → offset + length y < R.seen
count_later x f (refusing.RefusesCount.bad_head h) = let n = bad_later x f h in omega arith
count_later x f (refusing.RefusesCount.not_minimal h) = let n = padded_later x f h in omega arith
count_later x f (item_too_long r e u l) = let n = prefix_shorter x r f u e in omega arith
count_later x f (stream_too_long r e u l k) = let n = prefix_shorter x r f u e in omega arith

-- behind a prefix of the type number
number_later : {base : Table} {L : Bounds} {T : Table} {offset m : ℕ} {y : List ℕ} {R : Refusal} (x : List ℕ)
    → IsUnsignedPrefix y → length y < m → RefusesBody base L T offset m (y ++ x) R
    → offset + length y < R.seen
number_later x f l (refusing.RefusesBody.bad_head h) = let n = bad_later x f h in omega arith
number_later x f l (refusing.RefusesBody.not_minimal h) = let n = padded_later x f h in omega arith
number_later x f l (short n h) = omega arith
number_later x f l (refused_id z e n s q) = let w = prefix_shorter x z f (signed_unsigned s).1 e in omega arith
number_later x f l (refused_type z e s q) = let w = prefix_shorter x z f (signed_unsigned s).1 e in omega arith
number_later x f l (refused_value z e s p q) = let w = prefix_shorter x z f (signed_unsigned s).1 e in omega arith
number_later x f l (refused_description z e n s p q) = let w = prefix_shorter x z f (signed_unsigned s).1 e in
    omega arith
number_later x f l (described_wrongly {a = a} {z = z} e k n s p q d v) = omega arith

-- behind some bytes of a value
put_later : {L : Bounds} {T : Table} {offset m : ℕ} {t : TypeId} {a z : List ℕ} {R : Refusal} (x : List ℕ)
    → RefusesPut L T offset m t a (z ++ x) R → MayPut T t → IsViable T t L.depth (m - length a) z
    → offset + length a + length z < R.seen
put_later x (by_type p) q i = absurd (type_met p q)
put_later x (by_value p f) q i = let n = nothing_yet x i f.refused in omega arith

from_put_later : {base : Table} {L : Bounds} {T : Table} {offset m : ℕ} {t : TypeId} {i : ℤ} {a z : List ℕ}
    {R : Refusal} (x : List ℕ) → RefusesFrom base L T offset m (whole i a (z ++ x)) R → i ≡ pos t.0
    → MayPut T t → IsViable T t L.depth (m - length a) z → offset + length a + length z < R.seen
from_put_later x (from_definition e p) f q i = cc
from_put_later {L = L} {T = T} {offset = offset} {m = m} {t = t} {a = a} {z = z} {R = R} x (from_value {t = u} e p) f q
    i =
    put_later x (subst (λ t. RefusesPut L T offset m t a (z ++ x) R) (same_id (let l : pos u.0 ≡ pos t.0 = sym e
    ∙ f in let k : u.0 ≡ t.0 = cc in k)) p) q i

value_later : {base : Table} {L : Bounds} {T : Table} {offset m : ℕ} {t : TypeId} {a z : List ℕ} {R : Refusal}
    (x : List ℕ) → RefusesBody base L T offset m (a ++ (z ++ x)) R → IsSigned (pos t.0) a
    → MayPut T t → IsViable T t L.depth (m - length a) z → offset + length a + length z < R.seen
value_later {base = base} {L = L} {T = T} {offset = offset} {m = m} {R = R} x p s q i =
    let h = started p in
    from_put_later x (subst (λ r. RefusesFrom base L T offset m r R) (one_start h.starts (is_whole refl s))
    h.refuses) refl q i

-- and of a description
definition_later : {base : Table} {L : Bounds} {T : Table} {offset m : ℕ} {id : TypeId} {a z : List ℕ} {R : Refusal}
    (x : List ℕ) → RefusesDefinition base L T offset m id a (z ++ x) R → MayDefine base L T id
    → IsViable T wire_type L.depth (m - length a) z → offset + length a + length z < R.seen
definition_later x (by_id p) q i = absurd (id_met p q)
definition_later x (by_first p f) q i = let n = nothing_yet x i f.refused in omega arith
definition_later x (by_description n p s d k) q i = let room = i.room in omega arith

from_definition_later : {base : Table} {L : Bounds} {T : Table} {offset m n : ℕ} {t : TypeId} {a z : List ℕ}
    {R : Refusal} (x : List ℕ) → RefusesFrom base L T offset m (whole (negsuc n) a (z ++ x)) R → t.0 ≡ n + 1
    → MayDefine base L T t → IsViable T wire_type L.depth (m - length a) z → offset + length a + length z < R.seen
from_definition_later {base = base} {L = L} {T = T} {offset = offset} {m = m} {t = t} {a = a} {z = z} {R = R} x
    (from_definition {id = u} e p) f q i =
    definition_later x (subst (λ t. RefusesDefinition base L T offset m t a (z ++ x) R)
    (same_id (let l : u.0 ≡ t.0 = omega arith in l)) p) q i
from_definition_later x (from_value e p) f q i = cc

description_later : {base : Table} {L : Bounds} {T : Table} {offset m n : ℕ} {id : TypeId} {a z : List ℕ} {R : Refusal}
    (x : List ℕ) → RefusesBody base L T offset m (a ++ (z ++ x)) R → id.0 ≡ n + 1 → IsSigned (negsuc n) a
    → MayDefine base L T id → IsViable T wire_type L.depth (m - length a) z → offset + length a + length z < R.seen
description_later {base = base} {L = L} {T = T} {offset = offset} {m = m} {R = R} x p n s q i =
    let h = started p in from_definition_later x (subst (λ r. RefusesFrom base L T offset m r R)
    (one_start h.starts (is_whole refl s)) h.refuses) n q i

-- ---- the body whose count stands there

-- what is there of a body behind its count
pub behind_count : {base : Table} {L : Bounds} {T : Table} {offset m : ℕ} {c : List ℕ} {body : Extent} {R : Refusal}
    (w x : List ℕ) → IsCount L offset m c body → RefusesNext base L T offset ((c ++ w) ++ x) R → length w ≤ m
    → RefusesBody base L T (offset + length c) m (w ++ take (m - length w) x) R
behind_count {c = c} w x k (refused_count q) l =
    absurd (count_not (w ++ x) q k.count (append_assoc c w x) k.item k.stream)
behind_count {base = base} {L = L} {T = T} {offset = offset} {m = m} {c = c} {R = R} w x k
    (refused_body {m = n} {c = d} r e u i s q) l =
    let same = unsigned_prefix r (w ++ x) u k.count (sym e ∙ append_assoc c w x) in
    let P : ℕ → List ℕ → List ℕ → Type 0 = λ m c r. RefusesBody base L T (offset + length c) m (take m r) R in
    let here = subst (λ r. P m c r) same.rest (subst (λ c. P m c r) same.bytes (subst (λ m. P m d r) same.value q)) in
    subst (λ y. RefusesBody base L T (offset + length c) m y R) (take_past w x m l) here

stood_there : {T : Table} {t : TypeId} {limit n m : ℕ} {z : List ℕ} → n ≡ m → IsViable T t limit n z
    → IsViable T t limit m z
stood_there {T = T} {t = t} {limit = limit} {z = z} e i = subst (λ n. IsViable T t limit n z) e i

grouped : {base : Table} {L : Bounds} {T : Table} {offset m : ℕ} {R : Refusal} (a z x : List ℕ)
    → RefusesBody base L T offset m ((a ++ z) ++ x) R → RefusesBody base L T offset m (a ++ (z ++ x)) R
grouped {base = base} {L = L} {T = T} {offset = offset} {m = m} {R = R} a z x q =
    subst (λ y. RefusesBody base L T offset m y R) (append_assoc a z x) q

-- each refusal of what stands there, whatever follows, is shown by more bytes than have come
pub refused_later : {X O : Type 0} {most : ℕ} {building : Building X O most} {L : Bounds} {T : Table} {offset : ℕ}
    {expects : Stage X O} {y : List ℕ} {R : Refusal} (x : List ℕ)
    → StageHasRead building L T offset expects y → RefusesNext base_table L T offset (y ++ x) R
    → offset + length y < R.seen
refused_later x (in_count f) (refused_count q) = count_later x f q
refused_later x (in_count f) (refused_body r e u l s q) = let n = prefix_shorter x r f u e in let b =
    body_seen_behind q in omega arith
refused_later x (in_type_number {m = m} {c = c} {number = number} k f l) q =
    let n = number_later (take (m - length number) x) f l (behind_count number x k q (omega arith)) in
    omega (arith, length-append c number)
refused_later x (in_value {m = m} {c = c} {a = a} {z = z} k s r p w) q =
    let left = rest_size m r k.end in let room = w.viable.room in let split = length-append a z in
    let n = value_later (take (m - length (a ++ z)) x) (grouped a z (take (m - length (a ++ z)) x)
    (behind_count (a ++ z) x k q (omega arith))) s p (stood_there left w.viable) in
    omega (arith, length-append c (a ++ z))
refused_later {L = L} x (in_description {m = m} {c = c} {a = a} {z = z} k e s r p w) q =
    let left = rest_size m r k.end in let room = w.viable.room in let split = length-append a z in
    let n = description_later (take (m - length (a ++ z)) x) (grouped a z (take (m - length (a ++ z)) x)
    (behind_count (a ++ z) x k q (omega arith))) e s p (stood_there left (description_stood L.depth w.viable)) in
    omega (arith, length-append c (a ++ z))

-- so nothing is refused there yet
pub stands_unrefused : {X O : Type 0} {most : ℕ} {building : Building X O most} {L : Bounds} {T : Table} {offset : ℕ}
    {expects : Stage X O} {z : List ℕ} {R : Refusal}
    → StageHasRead building L T offset expects z → RefusesNext base_table L T offset z R → ⊥
stands_unrefused {L = L} {T = T} {offset = offset} {z = z} {R = R} s q =
    let l = refused_later [] s (subst (λ z. RefusesNext base_table L T offset z R) (sym (append-nil z)) q) in
    let n = next_seen q in omega arith

-- ---- what bytes give after which a reader stands
pub after_gives : {X O : Type 0} {most : ℕ} {building : Building X O most} {s : SessionState X O}
    {items : List StreamItem} {bytes : List ℕ}
    → HasRead building s items bytes → LongestStream base_table (no_deeper most s.limits) bytes items
after_gives {most = most} {s = s} {items = items} a =
    subst (λ b. LongestStream base_table (no_deeper most s.limits) b items) (sym a.whole)
    (gives_items a.under_way a.stream (stands_no_next a.stage))

-- within an item they end too early
pub after_some : {X O : Type 0} {most : ℕ} {building : Building X O most} {s : SessionState X O}
    {items : List StreamItem} {bytes : List ℕ} (a : HasRead building s items bytes)
    → a.under_way ≢ [] → Outcome base_table (no_deeper most s.limits) bytes items
    (refused (refuses (length bytes) (length bytes) reason.Ended))
after_some a n = outcome_within a.under_way a.whole a.stream n (stands_no_next a.stage)
    (λ R q. stands_unrefused a.stage q)

-- between two items they are the end of a stream
pub after_none : {X O : Type 0} {most : ℕ} {building : Building X O most} {s : SessionState X O}
    {items : List StreamItem} {bytes : List ℕ} (a : HasRead building s items bytes)
    → a.under_way ≡ [] → Outcome base_table (no_deeper most s.limits) bytes items the_end
after_none {most = most} {s = s} {items = items} a e =
    let all = a.whole ∙ ap (λ l. a.prefix ++ l) e ∙ append-nil a.prefix in
    record {
      gives = after_gives a;
      ends =
          at_the_end (subst (λ b. Stream base_table (no_deeper most s.limits) items b (types s.types)) (sym all)
          a.stream);
    }

-- what follows is refused, by more bytes than have come
pub after_refused : {X O : Type 0} {most : ℕ} {building : Building X O most} {s : SessionState X O}
    {items : List StreamItem} {bytes : List ℕ} {R : Refusal} (piece : List ℕ) (a : HasRead building s items bytes)
    → RefusesNext base_table (no_deeper most s.limits) (types s.types) (length a.prefix) (a.under_way ++ piece) R
    → Outcome base_table (no_deeper most s.limits) (bytes ++ piece) items (refused R) × (length bytes < R.seen)
after_refused piece a q =
    let all = ap (λ l. l ++ piece) a.whole ∙ append_assoc a.prefix a.under_way piece in
    let l = refused_later piece a.stage q in (
      outcome_refused (a.under_way ++ piece) all a.stream q,
      omega (arith, ap length a.whole, length-append a.prefix a.under_way),
    )

-- ---- whether an item is under way
no_number : {n : ℕ} {c : List ℕ} (w : List ℕ) → IsUnsigned n c → c ++ w ≡ [] → ⊥
no_number {c = c} w u e = let some = (unsigned_length u).0 in omega (arith, ap length e, length-append c w)

expects_count : {X O : Type 0} {most : ℕ} {building : Building X O most} {L : Bounds} {T : Table} {offset : ℕ}
    {expects : Stage X O} {z : List ℕ}
    → StageHasRead building L T offset expects z → z ≡ [] → expects ≡ count_at offset []
expects_count {offset = offset} (in_count f) e = ap (λ n. count_at offset n) e
expects_count (in_type_number {number = number} k f l) e = absurd (no_number number k.count e)
expects_count (in_value {a = a} {z = z} k s r p w) e = absurd (no_number (a ++ z) k.count e)
expects_count (in_description {a = a} {z = z} k n s r p w) e = absurd (no_number (a ++ z) k.count e)

-- between two items the count of the next one is expected
pub none_expects_count : {X O : Type 0} {most : ℕ} {building : Building X O most}
    {s : SessionState X O} {items : List StreamItem} {bytes : List ℕ} (a : HasRead building s items bytes)
    → a.under_way ≡ [] → s.stage ≡ count_at s.taken []
none_expects_count {s = s} a e =
    let t : s.taken ≡ length a.prefix = a.taken ∙ ap length (a.whole ∙ ap (λ l. a.prefix ++ l) e ∙ append-nil a.prefix)
    in
    expects_count a.stage e ∙ ap (λ n. count_at n []) (sym t)

-- and where that begins behind all bytes that were taken, no item is under way
pub count_begins_here : {X O : Type 0} {most : ℕ} {building : Building X O most} {s : SessionState X O}
    {items : List StreamItem} {bytes : List ℕ} {at : CountStage} (a : HasRead building s items bytes)
    → s.stage ≡ stage.Count at → at.begin ≡ s.taken → a.under_way ≡ []
count_begins_here {s = s} {at = at} a e f =
    let b = (parts e a.stage).begins in
    none a.under_way (let t = a.taken in omega (arith, ap length a.whole, length-append a.prefix a.under_way))
  where
    none : (z : List ℕ) → length z ≡ 0 → z ≡ []
    none [] l = refl
    none (x ∷ z) l = absurd (omega arith)
