-- The place of a refusal is honest in a stream.
use Rattle.std.proofs.Common.{◌≡◌, ℕ, ◌+◌, ◌-◌, ◌<◌, ◌≤◌, List, [], ◌++◌, length, take, drop, Option, Result, Ok, Err}
use Rattle.std.proofs.Common.{arith, refl, sym, ap, ◌∙◌, subst, append_assoc}
use Rattle.std.proofs.lemmas.List.{append-nil, take-append-le}
use Rattle.gob_num.specs.Unsigned.{IsUnsigned}
use Rattle.gob_num.proofs.PublicLaws.{unsigned_prefix, unsigned_length, signed_prefix, signed_unsigned}
use Rattle.gob_types.specs.declared.id.TypeId.{TypeId}
use Rattle.gob_types.specs.declared.reason.Reason.{Reason}
use Rattle.gob_types.specs.declared.reason.Reason.TheVariants as reason
use Rattle.gob_types.specs.Base.{base_table, wire_type}
use Rattle.gob_types.specs.Defined.{IsTable}
use Rattle.gob_types.specs.Ready.{IsReady}
use Rattle.gob_types.specs.Table.{Table}
use Rattle.gob_types.proofs.PublicLaws.{extends_keeps, ready_on, base_is_table, table-push}
use Rattle.gob_value.specs.Description.{Misdescribes, kind_count, wrong_id, bad_reference, bad_length}
use Rattle.gob_value.specs.Tree.{Tree}
use Rattle.gob_read.specs.Building.{Building}
use Rattle.gob_read.specs.Begins.{BeginsValue, BeginsNone, BeginsOnlyDeep}
use Rattle.gob_read.specs.First.{IsFirst}
use Rattle.gob_read.specs.Honest as body_honest
use Rattle.gob_read.specs.Laws.{IsOfNumber}
use Rattle.gob_read.specs.Refusal as body
use Rattle.gob_read.proofs.PublicLaws.{table_counted, first_honest, place_within, seen_within, take_and_drop}
use Rattle.gob_stream.specs.declared.fault.Refusal.{Refusal}
use Rattle.gob_stream.specs.declared.fault.Fault.{Fault}
use Rattle.gob_stream.specs.declared.fault.Fault.TheVariants as fault
use Rattle.gob_stream.specs.declared.item.Item as declared
use Rattle.gob_stream.specs.Machine.SessionState.{SessionState}
use Rattle.gob_stream.specs.Body.{Body, definition, value}
use Rattle.gob_stream.specs.Bounds.{Bounds}
use Rattle.gob_stream.specs.Honest.{SpellsTypeNumber, of_value, of_definition, from, IsHonest, OfRefusal}
use Rattle.gob_stream.specs.Item.{StreamItem}
use Rattle.gob_stream.specs.Outcome.{RefusesNext, refused_count, refused_body, refused, EndsSo, next_refused}
use Rattle.gob_stream.specs.Outcome.{within_an_item, Outcome}
use Rattle.gob_stream.specs.Reading.{Given, ReadsStream, shown, ended}
use Rattle.gob_stream.specs.Calls.Reads.{FeedAnswers, ReadItemAnswers, FeedsHonestly, ReadsHonestly}
use Rattle.gob_stream.specs.Refusing.{behind, RefusesCount, item_too_long, stream_too_long, RefusesBody, short}
use Rattle.gob_stream.specs.Refusing.{refused_id, refused_type, refused_value, refused_description, described_wrongly}
use Rattle.gob_stream.specs.Refusing as refusing
use Rattle.gob_stream.specs.Machine.HasRead.{HasRead}
use Rattle.gob_stream.specs.Stream.{AreItems, no_more, and_then, counted}
use Rattle.gob_stream.proofs.Stream.DefinableLaws.{definable}
use Rattle.gob_stream.proofs.Stream.OutcomeLaws.{moved, one_prefix}
use Rattle.gob_stream.proofs.Stream.StreamLaws.{same_id}
use Rattle.gob_stream.proofs.Reader.ReadStreamSteps.{given_as}
use Rattle.gob_stream.proofs.Stream.WireLaws.{table_extends, wire_ready}

-- ---- the table behind a stream
body_table : {L : Bounds} {T U : Table} {i : StreamItem} {d : List ℕ} → Body base_table L T i d U → IsTable T
    → IsTable U
body_table (definition {id = id} {s = s} {b = b} may within says n number spelled) h =
    table-push id s h may.own (definable (record { bytes = b; spelled = spelled }) says) may.new
body_table (value may within number spelled) h = h

continues_table : {L : Bounds} {T U : Table} {o : ℕ} {items : List StreamItem} {b : List ℕ}
    → AreItems base_table L T o items b U → IsTable T → IsTable U
continues_table no_more h = h
continues_table (and_then (counted u l s p) e r) h = continues_table r (body_table p h)

wire_ready_in : {T : Table} → IsTable T → IsReady T wire_type
wire_ready_in h = ready_on (extends_keeps (table_extends h)) wire_ready

-- ---- a body
-- counted from a later byte on, and with more bytes behind those that are there
honest_from : {T : Table} {t : TypeId} {limit n k : ℕ} {w z : List ℕ} {S : body.Refusal} (x : List ℕ) → n ≡ k → w
    ++ x ≡ z → S.place ≤ length w → S.seen ≤ length w
    → body_honest.IsHonestBody T t limit w S → body_honest.IsHonestBody T t limit z (from k (behind n S))
honest_from {T = T} {t = t} {limit = limit} {n = n} {k = k} {w = w} {z = z} {S = S} x same e p s h =
    let place : (n + S.place) - k ≡ S.place = omega arith in
    let seen : (n + S.seen) - k ≡ S.seen = omega arith in
    let before : take ((n + S.place) - k) z ≡ take S.place w = ap (λ m. take m z) place
    ∙ ap (λ l. take S.place l) (sym e) ∙ take-append-le S.place w x p in
    let shown : take ((n + S.seen) - k) z ≡ take S.seen w = ap (λ m. take m z) seen ∙ ap (λ l. take S.seen l) (sym e)
    ∙ take-append-le S.seen w x s in
    record {
      number = λ i. let b = h.number i in (
        subst (λ l. BeginsValue T t l) (sym before) b.0,
        subst (λ l. BeginsNone T t l) (sym shown) b.1,
      );
      deep = λ i. let b = h.deep i in (
        subst (λ l. BeginsValue T t l) (sym before) b.0,
        subst (λ l. BeginsOnlyDeep T t limit l) (sym before) b.1,
      );
    }

-- of reasons that aren't those of a number, nor of depth, nothing is said
pub nothing_said : {T : Table} {t : TypeId} {limit : ℕ} {z : List ℕ} {S : body.Refusal} → ¬ IsOfNumber S.reason
    → ¬ (S.reason ≡ reason.TooDeep) → body_honest.IsHonestBody T t limit z S
nothing_said i d = record { number = λ n. absurd (i n); deep = λ e. absurd (d e) }

description_number : {id : TypeId} {v : Tree} {r : Reason} → Misdescribes id v r → ¬ IsOfNumber r
description_number (kind_count p) i = i
description_number (wrong_id p q) i = i
description_number (bad_reference p q s) i = i
description_number (bad_length p q s u) i = i

description_deep : {id : TypeId} {v : Tree} {r : Reason} → Misdescribes id v r → ¬ (r ≡ reason.TooDeep)
description_deep (kind_count p) e = cc
description_deep (wrong_id p q) e = cc
description_deep (bad_reference p q s) e = cc
description_deep (bad_length p q s u) e = cc

some_number : {t : TypeId} {a : List ℕ} → SpellsTypeNumber t a → 0 < length a
some_number (of_value s) = (unsigned_length (signed_unsigned s).1).0
some_number (of_definition s) = (unsigned_length (signed_unsigned s).1).0

value_honest : {T : Table} {limit announced : ℕ} {t u : TypeId} {a b w z : List ℕ} {S : body.Refusal} (offset : ℕ)
    (x : List ℕ) → IsTable T → IsReady T u
    → SpellsTypeNumber t a → SpellsTypeNumber u b → (t ≡ u) × (b ≡ a) × (w ++ x ≡ z) → IsFirst T u limit announced w S
    → body_honest.IsHonestBody T t limit z (from (offset + length a) (behind (offset + length b) S))
value_honest {T = T} {limit = limit} {w = w} {S = S} offset x h ready s s' same f =
    let honest = subst (λ t. body_honest.IsHonestBody T t limit w S) (sym same.0) (first_honest (table_counted h) ready
    f) in
    honest_from x (ap (λ l. offset + length l) same.1) same.2 (place_within f.refused) (seen_within f.refused) honest

-- bytes begin with one type number
one_number : {t u : TypeId} {a b z : List ℕ} (w x : List ℕ) → SpellsTypeNumber t a → SpellsTypeNumber u b → (b ++ w)
    ++ x ≡ a ++ z → (t ≡ u) × (b ≡ a) × (w ++ x ≡ z)
one_number {t = t} {u = u} {b = b} {z = z} w x (of_value s) (of_value r) e =
    let p = signed_prefix (w ++ x) z r s (sym (append_assoc b w x) ∙ e) in
    let same : t.0 ≡ u.0 = let v = p.value in cc in
    (same_id same, p.bytes, p.rest)
one_number {b = b} {z = z} w x (of_value s) (of_definition r) e =
    absurd (let v = (signed_prefix (w ++ x) z r s (sym (append_assoc b w x) ∙ e)).value in cc)
one_number {b = b} {z = z} w x (of_definition s) (of_value r) e =
    absurd (let v = (signed_prefix (w ++ x) z r s (sym (append_assoc b w x) ∙ e)).value in cc)
one_number {b = b} {z = z} w x (of_definition s) (of_definition r) e =
    let p = signed_prefix (w ++ x) z r s (sym (append_assoc b w x) ∙ e) in (refl, p.bytes, p.rest)

pub body_refused_honestly : {L : Bounds} {T : Table} {offset m : ℕ} {t : TypeId} {y a z : List ℕ} {R : Refusal}
    (x : List ℕ) → IsTable T → RefusesBody base_table L T offset m y R → y ++ x ≡ a ++ z
    → SpellsTypeNumber t a → offset + length a ≤ R.place
    → body_honest.IsHonestBody T t L.depth z (from (offset + length a) R)
body_refused_honestly x h (refusing.RefusesBody.bad_head q) e s l = absurd (let n = some_number s in omega arith)
body_refused_honestly x h (refusing.RefusesBody.not_minimal q) e s l = absurd (let n = some_number s in omega arith)
body_refused_honestly x h (short n q) e s l = nothing_said (λ i. i) (λ i. cc)
body_refused_honestly x h (refused_id w f n r q) e s l = absurd (let n = some_number s in omega arith)
body_refused_honestly x h (refused_type w f r q) e s l = absurd (let n = some_number s in omega arith)
body_refused_honestly {offset = offset} x h (refused_value w f r may first) e s l =
    value_honest offset x h may.ready s (of_value r) (one_number w x s (of_value r) (ap (λ y. y ++ x) (sym f) ∙ e))
    first
body_refused_honestly {offset = offset} x h (refused_description w f n r may first) e s l =
    value_honest offset x h (wire_ready_in h) s (of_definition r)
    (one_number w x s (of_definition r) (ap (λ y. y ++ x) (sym f) ∙ e)) first
body_refused_honestly x h (described_wrongly f n i r may spelled d bad) e s l = nothing_said (description_number bad)
    (description_deep bad)

-- ---- an item
count_place : {L : Bounds} {offset : ℕ} {z : List ℕ} {R : Refusal} → RefusesCount L offset z R → R.place ≡ offset
count_place (refusing.RefusesCount.bad_head h) = refl
count_place (refusing.RefusesCount.not_minimal h) = refl
count_place (item_too_long r e u l) = refl
count_place (stream_too_long r e u l k) = refl

next_honest : {L : Bounds} {T : Table} {offset m : ℕ} {t : TypeId} {c a z : List ℕ} {R : Refusal} → IsTable T
    → RefusesNext base_table L T offset (c ++ (a ++ z)) R
    → IsUnsigned m c → SpellsTypeNumber t a → offset + length c + length a ≤ R.place
    → body_honest.IsHonestBody T t L.depth z (from (offset + length c + length a) R)
next_honest h (refused_count q) u s l = absurd (let n = (unsigned_length u).0 in let p = count_place q in omega arith)
next_honest {L = L} {T = T} {offset = offset} {c = c} {a = a} {z = z} {R = R} h (refused_body {m = m} {c = d} r e v i k
    q) u s l =
    let p = unsigned_prefix (a ++ z) r u v e in
    let there = subst (λ c. RefusesBody base_table L T (offset + length c) m (take m r) R) (sym p.bytes) q in
    body_refused_honestly (drop m r) h there (take_and_drop r m ∙ sym p.rest) s l

ending_honest : {L : Bounds} {bytes : List ℕ} {items : List StreamItem} {R : Refusal}
    → EndsSo base_table L bytes items (refused R) → IsHonest L bytes items R
ending_honest (next_refused y p e r) = record {
  each = λ T t z h l.
      let there = moved (one_prefix y (h.count ++ (h.number ++ z)) p h.stream (sym e ∙ h.whole)) r in
      next_honest (continues_table h.stream base_is_table) there h.counted h.numbered l;
}
ending_honest (within_an_item y p e n r) = record { each = λ T t z h l. nothing_said (λ i. i) (λ i. cc) }

pub outcome_honest : (L : Bounds) (bytes : List ℕ) (items : List StreamItem) (R : Refusal)
    → Outcome base_table L bytes items (refused R) → IsHonest L bytes items R
outcome_honest L bytes items R o = ending_honest o.ends

-- ---- what the calls answer
pub feeds_honestly : {X O : Type 0} {most : ℕ} (building : Building X O most) (s s' : SessionState X O)
    (items : List StreamItem) (bytes piece : List ℕ) (given : List (declared.Item O)) (result : Result (Unit {0}) Fault)
    → FeedAnswers building s s' items bytes piece given result
    → FeedsHonestly building s items (bytes ++ piece) given result
feeds_honestly building s s' items bytes piece given (Ok u) f = tt
feeds_honestly building s s' items bytes piece given (Err (fault.Refused R)) f =
    record { more = f.0.more; mean = f.0.mean; holds = outcome_honest _ _ _ R f.0.holds.0.outcome }
feeds_honestly building s s' items bytes piece given (Err fault.Read) f = tt
feeds_honestly building s s' items bytes piece given (Err fault.Memory) f = tt
feeds_honestly building s s' items bytes piece given (Err fault.Failed) f = tt

-- of whatever was given and taken before
pub always_feeds_honestly : {X O : Type 0} {most : ℕ} (building : Building X O most) (s s' : SessionState X O)
    (piece : List ℕ) {old new : List (declared.Item O)} (result : Result (Unit {0}) Fault)
    → Given old new (λ given. (items : List StreamItem) (bytes : List ℕ) → HasRead building s items bytes
    → FeedAnswers building s s' items bytes piece given result)
    → Given old new (λ given. (items : List StreamItem) (bytes : List ℕ) → HasRead building s items bytes
    → FeedsHonestly building s items (bytes ++ piece) given result)
always_feeds_honestly building s s' piece result fed =
    given_as (λ given fed items bytes a. feeds_honestly building s s' items bytes piece given result
    (fed items bytes a)) fed

pub reads_honestly : {X O : Type 0} {most : ℕ} (building : Building X O most) (s s' : SessionState X O)
    (items : List StreamItem) (bytes rest : List ℕ) (now : Option (List ℕ))
    (result : Result (Option (declared.Item O)) Fault)
    → ReadItemAnswers building s s' items bytes rest now result
    → ReadsHonestly building s items bytes rest now result
reads_honestly building s s' items bytes rest now (Ok u) f = tt
reads_honestly building s s' items bytes rest now (Err (fault.Refused R)) (shown p) =
    record { bytes = p.bytes; taken = p.taken; holds = outcome_honest _ _ _ R p.holds.0.outcome }
reads_honestly building s s' items bytes rest now (Err (fault.Refused R)) (ended e o n) =
    record {
      bytes = rest;
      taken = record { left = []; known = e; whole = sym (append-nil rest) };
      holds =
          outcome_honest _ _ _ R o;
    }
reads_honestly building s s' items bytes rest now (Err fault.Read) f = tt
reads_honestly building s s' items bytes rest now (Err fault.Memory) f = tt
reads_honestly building s s' items bytes rest now (Err fault.Failed) f = tt

pub stream_honestly : (L : Bounds) (bytes : List ℕ) (now : Option (List ℕ)) (items : List StreamItem)
    (result : Result (Unit {0}) Fault) → ReadsStream L bytes now items result
    → OfRefusal (λ R. IsHonest L bytes items R) result
stream_honestly L bytes now items (Ok u) f = tt
stream_honestly L bytes now items (Err (fault.Refused R)) f = outcome_honest _ _ _ R f
stream_honestly L bytes now items (Err fault.Read) f = tt
stream_honestly L bytes now items (Err fault.Memory) f = tt
stream_honestly L bytes now items (Err fault.Failed) f = tt
