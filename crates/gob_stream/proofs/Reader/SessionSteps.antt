-- Reading the next item, piece by piece.
use Rattle.std.proofs.Common.{◌≡◌, ◌≢◌, ℕ, ◌+◌, ◌<◌, ◌≤◌, ◌⊎◌, inl, inr, List, [], ◌∷◌, ◌++◌, length, take, Option}
use Rattle.std.proofs.Common.{Some, None, Result, Ok, Err, arith, refl, sym, ap, ◌∙◌, subst, append_assoc}
use Rattle.std.proofs.Common.{length-append}
use Rattle.std.proofs.lemmas.List.{append-nil, length-take, take-append-le}
use Rattle.std.specs.Prelude.{IfSome, OnErr}
use Rattle.std.specs.Result.{IsErrAnd}
use Rattle.std.specs.Io.KnownBytes.{Consumes, Keeps, IsAtEnd}
use Rattle.std.proofs.KnownBytes.{Consumes-nil, Consumes-trans, Consumes-kept}
use Rattle.gob_num.specs.Unsigned.{IsUnsignedPrefix}
use Rattle.gob_num.proofs.PublicLaws.{unsigned_length, unsigned_prefix}
use Rattle.gob_types.specs.Table.{Table}
use Rattle.gob_types.specs.Base.{base_table}
use Rattle.gob_types.specs.Defined.{types}
use Rattle.gob_read.specs.Building.{Building}
use Rattle.gob_read.proofs.PublicLaws.{take_whole}
use Rattle.gob_stream.specs.declared.fault.Refusal.{Refusal}
use Rattle.gob_stream.specs.declared.fault.Fault.{Fault}
use Rattle.gob_stream.specs.declared.fault.Fault.TheVariants as fault
use Rattle.gob_stream.specs.declared.item.Item as declared
use Rattle.gob_stream.specs.Machine.SessionState.{SessionState}
use Rattle.gob_stream.specs.declared.session.Advance.{Advance}
use Rattle.gob_stream.specs.declared.stage.Extent.{Extent}
use Rattle.gob_stream.specs.declared.stage.Stage.{Stage}
use Rattle.gob_stream.specs.declared.stage.Stage.TheVariants as stage
use Rattle.gob_stream.specs.Bounds.{Bounds, no_deeper}
use Rattle.gob_stream.specs.Item.{StreamItem, ItemMeans}
use Rattle.gob_stream.specs.Stream.{IsItem, counted, AreItems, no_more, and_then, Stream}
use Rattle.gob_stream.specs.Outcome.{LongestStream, LongestButLast, RefusesNext, EndsSo, at_the_end, Outcome, the_end}
use Rattle.gob_stream.specs.Outcome.{refused}
use Rattle.gob_stream.specs.Machine.HasRead.{StageHasRead, in_count, in_type_number, in_value, in_description}
use Rattle.gob_stream.specs.Machine.HasRead.{IsCount, HasRead, HasReadOn, IsUsable, has_failed}
use Rattle.gob_stream.specs.Machine.HasRead.{stands_after}
use Rattle.gob_stream.specs.Reading.{Taken, SomeTaken, ShowsRefusal, IsNoFurther, up_to_the_last_shown, within_the_item}
use Rattle.gob_stream.specs.Reading.{EndsInItem, shown, ended, StopsNext, CountsReads}
use Rattle.gob_stream.specs.Calls.Reads.{ReadingGivesNext, FinishAnswers}
use Rattle.gob_stream.specs.Machine.Between.{IsBetween}
use Rattle.gob_stream.specs.Machine.ReadParts.{StepAnswers, AdvancesOver, over_some, over_item, bytes_wanted}
use Rattle.gob_stream.proofs.Stream.OutcomeLaws.{one_prefix}
use Rattle.gob_stream.proofs.Stream.ShownLaws.{next_seen}
use Rattle.gob_stream.proofs.Stream.StayLaws.{refused_behind}
use Rattle.gob_stream.proofs.Reader.ValueSteps.{lies, three}
use Rattle.gob_stream.proofs.Stream.StreamLaws.{LastNext, gives_but_last}
use Rattle.gob_stream.proofs.Reader.UnderWayLaws.{refused_later, after_gives, prefix_shorter, count_begins_here}

-- the reading met no fault
abbrev pub IsSound : {X O : Type 0} → SessionState X O → Type 0
IsSound s = s.stage ≢ stage.Failed

-- ---- bytes that were consumed of those that are left
pub record SomeConsumed (old now : Option (List ℕ)) (P : List ℕ → Type 0) : Type 0 where
  pub bytes : List ℕ
  pub consumed : Consumes old now bytes
  pub holds : P bytes

-- and then some more
pub consumed_more : {old mid now : Option (List ℕ)} {P Q : List ℕ → Type 0} (more : List ℕ) → Consumes mid now more
    → ((x : List ℕ) → P x → Q (x ++ more)) → SomeConsumed old mid P → SomeConsumed old now Q
consumed_more {old = old} {mid = mid} {now = now} more c f p =
    record {
      bytes = p.bytes ++ more;
      consumed = Consumes-trans old mid now p.bytes more p.consumed c;
      holds =
          f p.bytes p.holds;
    }

pub consumed_still : {old mid now : Option (List ℕ)} {P : List ℕ → Type 0} → Keeps mid now → SomeConsumed old mid P
    → SomeConsumed old now P
consumed_still {old = old} {mid = mid} {now = now} k p =
    record { bytes = p.bytes; consumed = Consumes-kept old mid now p.bytes p.consumed k; holds = p.holds }

-- a read that gave nothing
pub consumed_nothing : {old mid now : Option (List ℕ)} {P : List ℕ → Type 0} {n : ℕ} (buf : List ℕ) → n ≡ 0
    → Consumes mid now (take n buf) → SomeConsumed old mid P → SomeConsumed old now P
consumed_nothing {mid = mid} {now = now} {P = P} {n = n} buf e c p =
    consumed_more [] (subst (λ n. Consumes mid now (take n buf)) e c) (λ x h. subst P (sym (append-nil x)) h) p

-- of known bytes
taken_known : {rest more : List ℕ} (now : Option (List ℕ)) → Consumes (Some rest) now more → Taken rest now more
taken_known None c = absurd c
taken_known (Some left) c = record { left = left; known = refl; whole = c }

pub known_taken : {old now : Option (List ℕ)} {rest : List ℕ} {P : List ℕ → Type 0} → old ≡ Some rest
    → SomeConsumed old now P → SomeTaken rest now P
known_taken {now = now} e p =
    record {
      bytes = p.bytes;
      taken = taken_known now (subst (λ o. Consumes o now p.bytes) e p.consumed);
      holds =
          p.holds;
    }

-- all of them
pub record AllTaken (now : Option (List ℕ)) (P : Type 0) : Type 0 where
  pub ended : now ≡ Some []
  pub holds : P

all_of : {now : Option (List ℕ)} {rest : List ℕ} {P : List ℕ → Type 0} (p : SomeTaken rest now P) → p.taken.left ≡ []
    → AllTaken now (P rest)
all_of {P = P} p e =
    record {
      ended = p.taken.known ∙ ap (λ l. Some l) e;
      holds =
          subst P (sym (p.taken.whole ∙ ap (λ l. p.bytes ++ l) e ∙ append-nil p.bytes)) p.holds;
    }

pub all_taken : {old now : Option (List ℕ)} {rest : List ℕ} {P : List ℕ → Type 0} → old ≡ Some rest → IsAtEnd now
    → SomeConsumed old now P → AllTaken now (P rest)
all_taken {now = now} e f p = let t = known_taken e p in all_of t (subst IsAtEnd t.taken.known f)

-- ---- where a session stands
-- wherever the first reading stood, the second stands behind some more bytes, those that were consumed
pub record StoodOn {X O : Type 0} {most : ℕ} (building : Building X O most) (s s' : SessionState X O)
    (old now : Option (List ℕ)) : Type 0 where
  pub each : (items : List StreamItem) (bytes : List ℕ) → HasRead building s items bytes
      → SomeConsumed old now (λ more. HasRead building s' items (bytes ++ more))

pub somewhere : {X O : Type 0} {most : ℕ} {building : Building X O most} {s : SessionState X O}
    → IsUsable building s → IsSound s → HasReadOn building s
somewhere (has_failed f) n = absurd (n f)
somewhere (stands_after {items = items} {bytes = bytes} a) n = record { items = items; bytes = bytes; after = a }

pub stood_first : {X O : Type 0} {most : ℕ} {building : Building X O most} {s : SessionState X O}
    (now : Option (List ℕ)) → StoodOn building s s now now
stood_first {building = building} {s = s} now = record {
  each = λ items bytes a. record {
    bytes = [];
    consumed = Consumes-nil now;
    holds =
        subst (λ b. HasRead building s items b) (sym (append-nil bytes)) a;
  };
}

pub stood_on : {X O : Type 0} {most : ℕ} {building : Building X O most} {s s' : SessionState X O}
    {old now : Option (List ℕ)} → HasReadOn building s
    → StoodOn building s s' old now
    → HasReadOn building s'
stood_on w q = let b = q.each w.items w.bytes w.after in record {
  items = w.items;
  bytes = w.bytes ++ b.bytes;
  after =
      b.holds;
}

-- where no item was given, the types are those that they were
pub types_stay : {X O : Type 0} {most : ℕ} {building : Building X O most} {s s' : SessionState X O}
    {old now : Option (List ℕ)} → s'.limits ≡ s.limits
    → HasReadOn building s → StoodOn building s s' old now
    → types s'.types ≡ types s.types
types_stay {most = most} {s = s} {s' = s'} l w p =
    let a = w.after in let b = p.each w.items w.bytes w.after in let c = b.holds in
    let stream = subst (λ L. Stream base_table (no_deeper most L) w.items c.prefix (types s'.types)) l c.stream in
    (one_prefix c.under_way (a.under_way ++ b.bytes) stream a.stream (sym c.whole
    ∙ (ap (λ x. x ++ b.bytes) a.whole ∙ append_assoc a.prefix a.under_way b.bytes))).table

-- ---- how much can be taken
-- a stream keeps to its limit
continues_within : {base : Table} {L : Bounds} {T U : Table} {o : ℕ} {items : List StreamItem} {b : List ℕ}
    → AreItems base L T o items b U → o ≤ L.stream → o + length b ≤ L.stream
continues_within no_more l = omega arith
continues_within (and_then {b = b} {c = c} (counted {c = x} {d = d} u k w p) e r) l = let n =
    continues_within r (omega arith) in omega (arith, length-append b c)

pub stream_within : {base : Table} {L : Bounds} {U : Table} {items : List StreamItem} {b : List ℕ}
    → Stream base L items b U → length b ≤ L.stream
stream_within p = let l = continues_within p (omega arith) in omega arith

-- what is taken next, one byte at least, ends with the limit and a count at the latest
pub record Room (stream taken wanted : ℕ) : Type 0 where
  pub some : 0 < wanted
  pub within : taken + wanted ≤ stream + 9

prefix_short : {b : List ℕ} → IsUnsignedPrefix b → length b < 9
prefix_short {b = b} f = shorter b f.rest f.more (unsigned_length f.spelled).1
  where
    shorter : (b r : List ℕ) → r ≢ [] → length (b ++ r) ≤ 9 → length b < 9
    shorter b [] m l = absurd (m refl)
    shorter b (d ∷ r) m l = omega (arith, length-append b (d ∷ r))

stage_room : {X O : Type 0} {most : ℕ} {building : Building X O most} {L : Bounds} {T : Table} {offset taken : ℕ}
    {expects : Stage X O} {z : List ℕ}
    → StageHasRead building L T offset expects z → offset ≤ L.stream → taken ≡ offset + length z
    → Room L.stream taken (bytes_wanted expects taken)
stage_room (in_count {number = number} f) l e = let n = prefix_short f in record {
  some = omega arith;
  within =
      omega arith;
}
stage_room (in_type_number {c = c} {number = number} k f w) l e =
    let s = k.stream in record { some = omega arith; within = omega (arith, length-append c number) }
stage_room (in_value {c = c} {a = a} {z = z} k s r p b) l e =
    let lie = lies k r in let room = b.viable.room in let z1 = lie.ends in let z2 = lie.size_is in let z3 =
    lie.within in let z4 = k.stream in
    let n : length (c ++ (a ++ z)) ≡ length c + (length a + length z) = omega (
      arith,
      length-append c (a ++ z),
      length-append a z,
    ) in
    record { some = omega arith; within = omega arith }
stage_room (in_description {c = c} {a = a} {z = z} k i s r p b) l e =
    let lie = lies k r in let room = b.viable.room in let z1 = lie.ends in let z2 = lie.size_is in let z3 =
    lie.within in let z4 = k.stream in
    let n : length (c ++ (a ++ z)) ≡ length c + (length a + length z) = omega (
      arith,
      length-append c (a ++ z),
      length-append a z,
    ) in
    record { some = omega arith; within = omega arith }

pub after_room : {X O : Type 0} {most : ℕ} {building : Building X O most} {s : SessionState X O}
    {items : List StreamItem} {bytes : List ℕ}
    → HasRead building s items bytes → Room s.limits.stream s.taken (bytes_wanted s.stage s.taken)
after_room a = stage_room a.stage (stream_within a.stream) (let t = a.taken in
    omega (arith, ap length a.whole, length-append a.prefix a.under_way))

-- ---- what is refused
-- a piece of no more bytes than can be taken at once ends with what shows the refusal, or within the item
piece_no_further : {X O : Type 0} {most : ℕ} {building : Building X O most} {L : Bounds} {T : Table} {offset : ℕ}
    (taken : ℕ) {expects : Stage X O} {z : List ℕ} (piece : List ℕ) {R : Refusal}
    → StageHasRead building L T offset expects z → RefusesNext base_table L T offset (z ++ piece) R
    → taken ≡ offset + length z → 0 < length piece → length piece ≤ bytes_wanted expects taken
    → IsNoFurther L offset (z ++ piece) R
piece_no_further {X = X} {O = O} {building = building} {offset = offset} taken {z = z} piece {R = R} (in_count f) r e
    m l =
    let before : offset + length z < R.seen = refused_later {X = X} {O = O} {building = building} piece
    (in_count f) r in
    let there : R.seen ≤ offset + length (z ++ piece) = next_seen r in
    up_to_the_last_shown (omega (arith, length-append z piece))
piece_no_further {X = X} {O = O} {building = building} {offset = offset} taken piece {R = R}
    (in_type_number {c = c} {number = number} k f w) r e m l =
    let before : offset + length (c ++ number) < R.seen = refused_later {X = X} {O = O} {building = building} piece
    (in_type_number k f w) r in
    let there : R.seen ≤ offset + length ((c ++ number) ++ piece) = next_seen r in
    up_to_the_last_shown (omega (arith, length-append (c ++ number) piece))
piece_no_further taken piece (in_value {c = c} {a = a} {z = z} k s r p b) q e m l =
    let lie = lies k r in let z1 = lie.ends in
    let n : length (c ++ (a ++ z)) ≡ length c + (length a + length z) = omega (
      arith,
      length-append c (a ++ z),
      length-append a z,
    ) in
    within_the_item (a ++ (z ++ piece)) (three c a z piece) k.count k.item k.stream
    (omega (arith, length-append a (z ++ piece), length-append z piece))
piece_no_further taken piece (in_description {c = c} {a = a} {z = z} k i s r p b) q e m l =
    let lie = lies k r in let z1 = lie.ends in
    let n : length (c ++ (a ++ z)) ≡ length c + (length a + length z) = omega (
      arith,
      length-append c (a ++ z),
      length-append a z,
    ) in
    within_the_item (a ++ (z ++ piece)) (three c a z piece) k.count k.item k.stream
    (omega (arith, length-append a (z ++ piece), length-append z piece))

-- the refusal is one of what stands behind the prefix
pub refused_there : {X O : Type 0} {most : ℕ} {building : Building X O most} {s : SessionState X O}
    {items : List StreamItem} {bytes : List ℕ} (piece : List ℕ) {R : Refusal} (a : HasRead building s items bytes)
    → ShowsRefusal (no_deeper most s.limits) (bytes ++ piece) items R → RefusesNext base_table (no_deeper most s.limits)
    (types s.types) (length a.prefix) (a.under_way ++ piece) R
refused_there {most = most} {s = s} piece {R = R} a h =
    let L = no_deeper most s.limits in
    let b = refused_behind h.outcome.ends h.shown in
    let o = one_prefix b.left (a.under_way ++ piece) b.stream a.stream (sym b.whole
    ∙ (ap (λ l. l ++ piece) a.whole ∙ append_assoc a.prefix a.under_way piece)) in
    let moved = subst (λ (T : Table). RefusesNext base_table L T (length b.prefix) b.left R) o.table b.next in
    subst (λ z. RefusesNext base_table L (types s.types) (length a.prefix) z R) o.rest
    (subst (λ f. RefusesNext base_table L (types s.types) (length f) b.left R) o.prefix moved)

ends_in_item : {X O : Type 0} {most : ℕ} {building : Building X O most} {s : SessionState X O} {items : List StreamItem}
    {bytes : List ℕ} (piece : List ℕ) {R : Refusal}
    → HasRead building s items bytes
    → 0 < length piece → length piece ≤ bytes_wanted s.stage s.taken → ShowsRefusal (no_deeper most s.limits) (bytes
    ++ piece) items R → EndsInItem (no_deeper most s.limits) (bytes ++ piece) items R
ends_in_item {s = s} piece a m l h = record {
  prefix = a.prefix;
  item = a.under_way ++ piece;
  table = types s.types;
  stream = a.stream;
  whole = ap (λ b. b ++ piece) a.whole ∙ append_assoc a.prefix a.under_way piece;
  no_further = piece_no_further s.taken piece a.stage (refused_there piece a h) (let t = a.taken in
      omega (arith, ap length a.whole, length-append a.prefix a.under_way)) m l;
}

-- what is there of the item under way, and a piece of no more bytes than can be taken at once, begin no second item
covered : {L : Bounds} {T U : Table} {offset m : ℕ} {c b : List ℕ} {body : Extent} {i : StreamItem} (w x y : List ℕ)
    → IsCount L offset m c body → length w + length x ≤ m → IsItem base_table L T offset i b U → (c ++ w) ++ x ≡ b ++ y
    → length y ≡ 0
covered {c = c} w x y k l (counted {c = d} {d = e} u n s p) h =
    let same = unsigned_prefix (w ++ x) (e ++ y) k.count u (sym (append_assoc c w x) ∙ h ∙ append_assoc d e y) in
    omega (arith, same.value, ap length same.rest, length-append w x, length-append e y)

count_covered : {L : Bounds} {T U : Table} {offset : ℕ} {number b : List ℕ} {i : StreamItem} (x y : List ℕ)
    → IsUnsignedPrefix number → length x ≤ 1 → IsItem base_table L T offset i b U → number ++ x ≡ b ++ y → length y ≡ 0
count_covered {number = number} x y f l (counted {c = d} {d = e} u n s p) h =
    let all = h ∙ append_assoc d e y in
    let short = prefix_shorter x (e ++ y) f u all in
    omega (arith, ap length all, length-append number x, length-append d (e ++ y), length-append e y)

no_second : {X O : Type 0} {most : ℕ} {building : Building X O most} {L : Bounds} {T : Table} {offset : ℕ} (taken : ℕ)
    {expects : Stage X O} {z : List ℕ} (piece : List ℕ)
    → StageHasRead building L T offset expects z → taken ≡ offset + length z
    → length piece ≤ bytes_wanted expects taken → LastNext base_table L T offset (z ++ piece)
no_second taken piece (in_count f) e l = λ i U b y q h. count_covered piece y f l q h
no_second taken piece (in_type_number {number = number} k f w) e l = λ i U b y q h. covered number piece y k
    (omega arith) q h
no_second taken piece (in_value {c = c} {a = a} {z = z} k s r p b) e l = λ i U x y q h.
    let lie = lies k r in covered (a ++ z) piece y k (omega (
      arith,
      lie.ends,
      length-append c (a ++ z),
      length-append a z,
    )) q h
no_second taken piece (in_description {c = c} {a = a} {z = z} k n s r p b) e l = λ i U x y q h.
    let lie = lies k r in covered (a ++ z) piece y k (omega (
      arith,
      lie.ends,
      length-append c (a ++ z),
      length-append a z,
    )) q h

pub after_but_last : {X O : Type 0} {most : ℕ} {building : Building X O most} {s : SessionState X O}
    {items : List StreamItem} {bytes : List ℕ} (piece : List ℕ)
    → HasRead building s items bytes
    → length piece ≤ bytes_wanted s.stage s.taken → LongestButLast base_table (no_deeper most s.limits) (bytes ++ piece)
    items
after_but_last {most = most} {s = s} {items = items} piece a l =
    let all = ap (λ b. b ++ piece) a.whole ∙ append_assoc a.prefix a.under_way piece in
    let here : s.taken ≡ length a.prefix + length a.under_way = let t = a.taken in
    omega (arith, ap length a.whole, length-append a.prefix a.under_way) in
    subst (λ b. LongestButLast base_table (no_deeper most s.limits) b items) (sym all)
    (gives_but_last (a.under_way ++ piece) a.stream (no_second s.taken piece a.stage here l))

-- ---- what stops the reading of an item
-- the fault that a `?` returns is the callee's
pub passed_on : {A E : Type 0} (Q : Result A E → Type 0) (r : Result A E) (e : E) → IsErrAnd r (λ y. y ≡ e) → Q (Err e)
    → Q r
passed_on Q (Ok x) e p q = absurd p
passed_on Q (Err y) e p q = subst (λ e. Q (Err e)) (sym p) q

pub on_err : {A E P : Type 0} (r : Result A E) → P → OnErr r P
on_err (Ok x) p = tt
on_err (Err e) p = p

taken_as : {rest : List ℕ} {now : Option (List ℕ)} {P Q : List ℕ → Type 0} → ((x : List ℕ) → P x → Q x)
    → SomeTaken rest now P → SomeTaken rest now Q
taken_as f p = record { bytes = p.bytes; taken = p.taken; holds = f p.bytes p.holds }

-- the reading stood behind these bytes and some more, and then a piece was read
pub record StoodBefore {X O : Type 0} {most : ℕ} (building : Building X O most) (s : SessionState X O)
    (items : List StreamItem) (bytes piece more : List ℕ) : Type 0 where
  pub before : List ℕ
  pub after : HasRead building s items (bytes ++ before)
  pub whole : (bytes ++ before) ++ piece ≡ bytes ++ more

pub stood_before : {X O : Type 0} {most : ℕ} {building : Building X O most} {s : SessionState X O}
    {items : List StreamItem} {bytes : List ℕ} {old mid now : Option (List ℕ)} {rest : List ℕ} (piece : List ℕ)
    → old ≡ Some rest → Consumes mid now piece
    → SomeConsumed old mid (λ more. HasRead building s items (bytes ++ more))
    → SomeTaken rest now (StoodBefore building s items bytes piece)
stood_before {bytes = bytes} piece e c p =
    known_taken e (consumed_more piece c (λ x a. record { before = x; after = a; whole = append_assoc bytes x piece })
    p)

-- so many bytes were read into a buffer of no more bytes than can be taken at once
pub record IsRead (n wanted : ℕ) (buf : List ℕ) : Type 0 where
  pub some : 0 < n
  pub within : n ≤ length buf
  pub few : length buf ≤ wanted

pub piece_length : {n wanted : ℕ} {buf : List ℕ} (tail : List ℕ) → IsRead n wanted buf
    → length (take n (buf ++ tail)) ≡ n
piece_length {n = n} {buf = buf} tail r = let l = r.within in omega (
  arith,
  length-take n (buf ++ tail),
  length-append buf tail,
)

pub piece_consumed : {n wanted : ℕ} {buf : List ℕ} (mid now : Option (List ℕ)) (tail : List ℕ) → IsRead n wanted buf
    → Consumes mid now (take n buf) → Consumes mid now (take n (buf ++ tail))
piece_consumed {n = n} {buf = buf} mid now tail r c = subst (λ b. Consumes mid now b)
    (sym (take-append-le n buf tail r.within)) c

-- wherever the reading stood, this is what a step over the piece answered
pub record Stepped {X O : Type 0} {most : ℕ} (building : Building X O most) (s s' : SessionState X O) (piece : List ℕ)
    (result : Result (Advance (declared.Item O)) Fault) : Type 0 where
  pub each : (items : List StreamItem) (bytes : List ℕ) → HasRead building s items bytes
      → StepAnswers building s s' items bytes piece result
  pub some : 0 < length piece
  pub few : length piece ≤ bytes_wanted s.stage s.taken

pub stepped : {X O : Type 0} {most : ℕ} (building : Building X O most) (s s' : SessionState X O) {n : ℕ} {buf : List ℕ}
    (tail : List ℕ) (result : Result (Advance (declared.Item O)) Fault)
    → IsRead n (bytes_wanted s.stage s.taken) buf
    → ((items : List StreamItem) (bytes : List ℕ) → HasRead building s items bytes
    → StepAnswers building s s' items bytes (take n (buf ++ tail)) result)
    → Stepped building s s' (take n (buf ++ tail)) result
stepped building s s' tail result r f = let l = piece_length tail r in let some = r.some in
    let within = r.within in let few = r.few in record { each = f; some = omega arith; few = omega arith }

-- a step that is refused, or wants memory
step_stops_here : {X O : Type 0} {most : ℕ} {building : Building X O most} {s s' : SessionState X O}
    {items : List StreamItem} {bytes rest : List ℕ} (piece : List ℕ) {now : Option (List ℕ)} (e : Fault)
    → Stepped building s s' piece (Err e)
    → SomeTaken rest now (StoodBefore building s items bytes piece)
    → StopsNext (no_deeper most s.limits) items bytes rest now e
step_stops_here {most = most} {s = s} {items = items} piece (fault.Refused R) f p =
    let L = no_deeper most s.limits in
    shown (taken_as (λ x b.
    let h : ShowsRefusal L _ items R = (f.each items _ b.after).0 in (
      subst (λ y. ShowsRefusal L y items R) b.whole h,
      subst (λ y. EndsInItem L y items R) b.whole
          (ends_in_item piece b.after f.some f.few h),
    )) p)
step_stops_here {most = most} {s = s} {items = items} piece fault.Memory f p =
    taken_as (λ x b. subst (λ y. LongestButLast base_table (no_deeper most s.limits) y items) b.whole
    (after_but_last piece b.after f.few)) p
step_stops_here {items = items} piece fault.Read f p = absurd (f.each items _ p.holds.after)
step_stops_here {items = items} piece fault.Failed f p = absurd (f.each items _ p.holds.after)

pub step_stops : {X O : Type 0} {most : ℕ} {building : Building X O most} {L : Bounds} {s s' : SessionState X O}
    {items : List StreamItem} {bytes rest : List ℕ} (piece : List ℕ) {now : Option (List ℕ)} (e : Fault)
    → s.limits ≡ L → Stepped building s s' piece (Err e)
    → SomeTaken rest now (StoodBefore building s items bytes piece)
    → StopsNext (no_deeper most L) items bytes rest now e
step_stops {most = most} {items = items} {bytes = bytes} {rest = rest} piece {now = now} e l f p =
    subst (λ L. StopsNext (no_deeper most L) items bytes rest now e) l (step_stops_here piece e f p)

-- a read that fails
pub read_stops : {X O : Type 0} {most : ℕ} {building : Building X O most} {L : Bounds} {s : SessionState X O}
    {items : List StreamItem} (bytes : List ℕ) {rest : List ℕ} {old mid now : Option (List ℕ)}
    → s.limits ≡ L → old ≡ Some rest → Keeps mid now
    → SomeConsumed old mid (λ more. HasRead building s items (bytes ++ more))
    → SomeTaken rest now (λ taken. LongestStream base_table (no_deeper most L) (bytes ++ taken) items)
read_stops {most = most} {items = items} bytes l e k p =
    taken_as (λ x a. subst (λ L. LongestStream base_table (no_deeper most L) (bytes ++ x) items) l (after_gives a))
    (known_taken e (consumed_still k p))

-- the end of the input within an item
pub end_stops : {X O : Type 0} {most : ℕ} (building : Building X O most) {L : Bounds} (s s' : SessionState X O)
    (items : List StreamItem) (bytes rest : List ℕ) {now : Option (List ℕ)} (e : Fault) → s.limits ≡ L → now ≡ Some []
    → FinishAnswers building s s' items (bytes ++ rest) (Err e)
    → StopsNext (no_deeper most L) items bytes rest now e
end_stops {most = most} building s s' items bytes rest (fault.Refused R) l n f =
    ended n (subst (λ L. Outcome base_table (no_deeper most L) (bytes ++ rest) items (refused R)) l f.0) f.1
end_stops building s s' items bytes rest fault.Read l n f = absurd f
end_stops building s s' items bytes rest fault.Memory l n f = absurd f
end_stops building s s' items bytes rest fault.Failed l n f = absurd f

-- none of these counts as a read that failed
pub counts_none : {A : Type 0} (failures failures' : ℕ) (r : Result A Fault) (e : Fault) → IsErrAnd r (λ y. y ≡ e)
    → e ≢ fault.Read → failures' ≡ failures → CountsReads failures failures' r
counts_none f f' (Ok x) e p n h = h
counts_none f f' (Err (fault.Refused R)) e p n h = h
counts_none f f' (Err fault.Read) e p n h = absurd (n (sym p))
counts_none f f' (Err fault.Memory) e p n h = h
counts_none f f' (Err fault.Failed) e p n h = h

advances_unread : {X O : Type 0} {most : ℕ} {building : Building X O most} {s s' : SessionState X O}
    {items : List StreamItem} {bytes : List ℕ} (piece : List ℕ) (e : Fault)
    → HasRead building s items bytes
    → Stepped building s s' piece (Err e) → e ≡ fault.Read → ⊥
advances_unread piece (fault.Refused R) a p e = cc
advances_unread piece fault.Memory a p e = cc
advances_unread {items = items} {bytes = bytes} piece fault.Read a p e = p.each items bytes a
advances_unread piece fault.Failed a p e = cc

pub step_unread : {X O : Type 0} {most : ℕ} {building : Building X O most} {s s' : SessionState X O} (piece : List ℕ)
    (e : Fault) → HasReadOn building s
    → Stepped building s s' piece (Err e) → e ≢ fault.Read
step_unread piece e w p = advances_unread piece e w.after p

pub end_unread : {X O : Type 0} {most : ℕ} (building : Building X O most) (s s' : SessionState X O)
    (items : List StreamItem) (bytes : List ℕ) (e : Fault) → FinishAnswers building s s' items bytes (Err e)
    → e ≢ fault.Read
end_unread building s s' items bytes (fault.Refused R) p e = cc
end_unread building s s' items bytes fault.Memory p e = cc
end_unread building s s' items bytes fault.Read p e = p
end_unread building s s' items bytes fault.Failed p e = cc

-- ---- the end of the stream
-- behind it nothing was taken
pub record NothingMore {X O : Type 0} (most : ℕ) (s s' : SessionState X O) (items : List StreamItem)
    (bytes more : List ℕ) : Type 0 where
  pub none : more ≡ []
  pub same : s' ≡ s
  pub outcome : Outcome base_table (no_deeper most s.limits) bytes items the_end

prefix_of_nothing : (x y : List ℕ) → [] ≡ x ++ y → y ≡ []
prefix_of_nothing [] y e = sym e
prefix_of_nothing (d ∷ x) y e = cc

no_more_taken : {X O : Type 0} {most : ℕ} {building : Building X O most} {s : SessionState X O}
    {items : List StreamItem} {bytes : List ℕ} (more : List ℕ) (a : HasRead building s items bytes)
    → EndsSo base_table (no_deeper most s.limits) (bytes ++ more) items the_end → more ≡ []
no_more_taken {bytes = bytes} more a (at_the_end p) =
    prefix_of_nothing a.under_way more (one_prefix [] (a.under_way ++ more) p a.stream (append-nil (bytes ++ more)
    ∙ (ap (λ l. l ++ more) a.whole ∙ append_assoc a.prefix a.under_way more))).rest

pub nothing_more : {X O : Type 0} {most : ℕ} {building : Building X O most} {s s' : SessionState X O}
    {items : List StreamItem} {bytes : List ℕ} (more : List ℕ) → s'.limits ≡ s.limits
    → HasRead building s items bytes → HasRead building s' items (bytes ++ more)
    → Outcome base_table (no_deeper most s'.limits) (bytes ++ more) items the_end → (s' ≡ s) ⊎ (s.taken < s'.taken)
    → NothingMore most s s' items bytes more
nothing_more {most = most} {s = s} {s' = s'} {items = items} {bytes = bytes} more l a b o g =
    let here = subst (λ L. Outcome base_table (no_deeper most L) (bytes ++ more) items the_end) l o in
    let none = no_more_taken more a here.ends in
    record {
      none = none;
      same = elim g [
        | inl e ↦ e
        | inr less ↦ absurd (let t = a.taken in let u = b.taken in let n = ap length none in
            omega (arith, length-append bytes more))
      ];
      outcome = subst (λ b. Outcome base_table (no_deeper most s.limits) b items the_end) (ap (λ m. bytes ++ m) none
          ∙ append-nil bytes) here;
    }

-- ---- the item that is whole
-- the item was given with the last byte of the piece
gives_next : {X O : Type 0} {most : ℕ} {building : Building X O most} {s' : SessionState X O} {given : declared.Item O}
    {i : StreamItem} {items : List StreamItem} {bytes : List ℕ} → ItemMeans building.means given i
    → HasRead building s' (items ++ i ∷ []) bytes
    → IsBetween s' → ReadingGivesNext building s' given items bytes
gives_next {most = most} {s' = s'} {i = i} {items = items} m a e =
    let all = a.whole ∙ ap (λ l. a.prefix ++ l) (count_begins_here a e.stage refl) ∙ append-nil a.prefix in
    record {
      item = i;
      meant = m;
      after = a;
      stream = subst (λ b. Stream base_table (no_deeper most s'.limits) (items
          ++ i ∷ []) b (types s'.types)) (sym all) a.stream;
    }

pub over_the_item : {X O : Type 0} {most : ℕ} {building : Building X O most} {s' : SessionState X O}
    {items : List StreamItem} {bytes piece : List ℕ} (used : ℕ) (o : Option (declared.Item O)) {given : declared.Item O}
    → o ≡ Some given → used ≡ length piece → IsBetween s' → AdvancesOver building s' items bytes piece
    used o → ReadingGivesNext building s' given items (bytes ++ piece)
over_the_item used o e u c (over_some m l a) = cc
over_the_item {building = building} {s' = s'} {items = items} {bytes =
    bytes} {piece = piece} used o {given = given} e u c (over_item {given = x} {i = i} k l m a) =
    let same : x ≡ given = cc in
    let whole : bytes ++ take used piece ≡ bytes ++ piece = ap (λ l. bytes ++ l) (take_whole piece used (omega arith))
    in
    subst (λ b. ReadingGivesNext building s' given items b) whole
    (gives_next (subst (λ x. ItemMeans building.means x i) same m) a c)

if_some : {A : Type 0} (P : Type 0) {o : Option A} {x : A} → IfSome o (λ _. P) → o ≡ Some x → P
if_some P {o = Some y} p e = p
if_some P {o = None} p e = cc

pub step_gives : {X O : Type 0} {most : ℕ} {building : Building X O most} {s s' : SessionState X O}
    {items : List StreamItem} {bytes : List ℕ} (piece : List ℕ) (step : Advance (declared.Item O))
    {given : declared.Item O} → Stepped building s s' piece (Ok step) → step.used ≡ length piece
    → IfSome step.item (λ _. IsBetween s') → step.item ≡ Some given → HasRead building s items bytes
    → ReadingGivesNext building s' given items (bytes ++ piece)
step_gives {s' = s'} {items = items} {bytes = bytes} piece step p u b e a = over_the_item step.used step.item e u
    (if_some (IsBetween s') b e) (p.each items bytes a)

pub gives_taken : {X O : Type 0} {most : ℕ} {building : Building X O most} {s s' : SessionState X O}
    {items : List StreamItem} {bytes rest : List ℕ} {now : Option (List ℕ)} (piece : List ℕ)
    (step : Advance (declared.Item O)) {given : declared.Item O}
    → Stepped building s s' piece (Ok step) → step.used ≡ length piece
    → IfSome step.item (λ _. IsBetween s') → step.item ≡ Some given
    → SomeTaken rest now (StoodBefore building s items bytes piece)
    → SomeTaken rest now (λ taken. ReadingGivesNext building s' given items (bytes ++ taken))
gives_taken {building = building} {s' = s'} {items = items} piece step {given = given} p u b e q =
    taken_as (λ x w. subst (λ y. ReadingGivesNext building s' given items y) w.whole
    (step_gives piece step p u b e w.after)) q

pub over_the_piece : {X O : Type 0} {most : ℕ} {building : Building X O most} {s' : SessionState X O}
    {items : List StreamItem} {bytes piece : List ℕ} (used : ℕ) (o : Option (declared.Item O))
    → o ≡ None → used ≡ length piece → AdvancesOver building s' items bytes piece used o
    → HasRead building s' items (bytes ++ piece)
over_the_piece {building = building} {s' = s'} {items = items} {bytes = bytes} {piece =
    piece} used o e u (over_some m l a) =
    subst (λ b. HasRead building s' items (bytes ++ b)) (take_whole piece used (omega arith)) a
over_the_piece used o e u (over_item k l m a) = cc

-- ---- how far a step comes
over_taken : {X O : Type 0} {most : ℕ} {building : Building X O most} {s' : SessionState X O} {items : List StreamItem}
    (bytes piece : List ℕ) (used : ℕ) (o : Option (declared.Item O))
    → AdvancesOver building s' items bytes piece used o → used ≤ length piece
    → s'.taken ≡ length bytes + used
over_taken bytes piece used o (over_some m l a) u = let v = a.taken in
    omega (arith, length-append bytes (take used piece), length-take used piece)
over_taken bytes piece used o (over_item k l m a) u = let v = a.taken in
    omega (arith, length-append bytes (take used piece), length-take used piece)

pub step_taken : {X O : Type 0} {most : ℕ} {building : Building X O most} {s s' : SessionState X O} (piece : List ℕ)
    (step : Advance (declared.Item O)) → step.used ≡ length piece
    → HasReadOn building s
    → Stepped building s s' piece (Ok step) → s'.taken ≡ s.taken + length piece
step_taken piece step u w f = let t = w.after.taken in let n = over_taken w.bytes piece step.used step.item
    (f.each w.items w.bytes w.after) (omega arith) in omega arith

-- behind the item the stream keeps to its limit
pub item_within : {X O : Type 0} {most : ℕ} {building : Building X O most} {s' : SessionState X O}
    {given : declared.Item O} {items : List StreamItem} {bytes : List ℕ}
    → ReadingGivesNext building s' given items bytes → s'.taken ≤ s'.limits.stream
item_within p = let t = p.after.taken in let l = stream_within p.stream in omega arith

pub no_less : {X O : Type 0} {s s' : SessionState X O} → (s' ≡ s) ⊎ (s.taken < s'.taken) → s.taken ≤ s'.taken
no_less (inl e) = let t = ap (λ s. s.taken) e in omega arith
no_less (inr l) = omega arith

-- ---- a step that gives no item

pub stood_further : {X O : Type 0} {most : ℕ} {building : Building X O most} {s mid s' : SessionState X O}
    {old between now : Option (List ℕ)} (piece : List ℕ) (step : Advance (declared.Item O))
    → Consumes between now piece
    → Stepped building mid s' piece (Ok step) → step.used ≡ length piece → step.item ≡ None
    → StoodOn building s mid old between → StoodOn building s s' old now
stood_further {building = building} {s' = s'} piece step c p u n q = record {
  each = λ items bytes a.
      consumed_more piece c
      (λ x b. subst (λ y. HasRead building s' items y) (append_assoc bytes x piece)
      (over_the_piece step.used step.item n u (p.each items (bytes ++ x) b)))
      (q.each items bytes a);
}

stands_sound : {X O : Type 0} {most : ℕ} {building : Building X O most} {L : Bounds} {T : Table} {offset : ℕ}
    {expects : Stage X O} {z : List ℕ} → StageHasRead building L T offset expects z
    → expects ≢ stage.Failed
stands_sound (in_count f) e = cc
stands_sound (in_type_number k f w) e = cc
stands_sound (in_value k s r p b) e = cc
stands_sound (in_description k i s r p b) e = cc

pub sound_after : {X O : Type 0} {most : ℕ} {building : Building X O most} {s : SessionState X O}
    {items : List StreamItem} {bytes : List ℕ} → HasRead building s items bytes
    → IsSound s
sound_after a = stands_sound a.stage
