-- What is written is read back.
use Rattle.std.proofs.Common.{◌≡◌, ℕ, ◌≤◌, ◌⊎◌, inl, inr, List, [], ◌∷◌, ◌++◌, length, Option, Result, Ok, Err, arith}
use Rattle.std.proofs.Common.{refl, sym, ap, ◌∙◌, subst, append_assoc, length-append}
use Rattle.std.proofs.lemmas.List.{append-nil, take-append-le}
use Rattle.gob_types.specs.Table.{Table}
use Rattle.gob_types.specs.Base.{base_table}
use Rattle.gob_read.specs.Building.{Building}
use Rattle.gob_stream.specs.declared.fault.Refusal.{Refusal}
use Rattle.gob_stream.specs.declared.fault.Fault.{Fault}
use Rattle.gob_stream.specs.declared.fault.Fault.TheVariants as fault
use Rattle.gob_stream.specs.declared.item.Item as declared
use Rattle.gob_stream.specs.Machine.SessionState.{SessionState}
use Rattle.gob_stream.specs.Bounds.{Bounds, no_deeper}
use Rattle.gob_stream.specs.Item.{StreamItem}
use Rattle.gob_stream.specs.Stream.{Stream}
use Rattle.gob_stream.specs.Outcome.{BeginsWithStream, LongestStream, the_end, refused, at_the_end, Outcome}
use Rattle.gob_stream.specs.Reading.{ShowsRefusal, ReadsStream}
use Rattle.gob_stream.specs.Calls.Reads.{FeedAnswers, FinishAnswers}
use Rattle.gob_stream.specs.Laws.{ItemsGoOn, WrittenWithin, ReadsThese}
use Rattle.gob_stream.specs.Calls.SessionLaws.{AreReadBackInPieces}
use Rattle.gob_stream.proofs.Stream.StreamLaws.{counted_some, more_items, NoNext, gives_items, one_reading}
use Rattle.gob_stream.proofs.Stream.StreamLaws.{begin_one_another, all_of, give_one_list, wider}
use Rattle.gob_stream.proofs.Stream.OutcomeLaws.{outcome_once}
use Rattle.gob_stream.proofs.Reader.UnderWayLaws.{after_gives}
use Rattle.gob_stream.proofs.Stream.StayLaws.{shown_there, shown_refusal_stays}

-- ---- what was written is a stream, and its end
record IsStreamOf (M : Bounds) (items : List StreamItem) (bytes : List ℕ) : Type 0 where
  table : Table
  stream : Stream base_table M items bytes table

written_stream : {M : Bounds} {items : List StreamItem} {bytes : List ℕ} → WrittenWithin M items bytes
    → IsStreamOf M items bytes
written_stream {items = items} w =
    let wrote = w.written in
    record {
      table = wrote.1;
      stream = wider w.within (subst (λ b. Stream base_table w.limits items b wrote.1)
          (sym wrote.3) wrote.2);
    }

none_behind : {L : Bounds} {T : Table} {offset : ℕ} → NoNext base_table L T offset []
none_behind = λ i U b y q e. let some = counted_some q in omega (arith, ap length e, length-append b y)

written_ends : {M : Bounds} {items : List StreamItem} {bytes : List ℕ} → WrittenWithin M items bytes
    → Outcome base_table M bytes items the_end
written_ends {M = M} {items = items} {bytes = bytes} w =
    let s = written_stream w in
    record {
      gives = subst (λ b. LongestStream base_table M b items) (append-nil bytes)
          (gives_items [] s.stream none_behind);
      ends = at_the_end s.stream;
    }

not_refused : {M : Bounds} {items given : List StreamItem} {bytes : List ℕ} {R : Refusal} → WrittenWithin M items bytes
    → Outcome base_table M bytes given (refused R) → ⊥
not_refused {M = M} {items = items} {given = given} {bytes = bytes} {R = R} w h =
    let one = (outcome_once M bytes items given the_end (refused R) (written_ends w) h).1 in cc

-- ---- by a reader of streams
-- a prefix of the bytes of the stream of the items gives a prefix of them
prefix_of : {base : Table} {L : Bounds} {items given : List StreamItem} {bytes : List ℕ} {T : Table}
    → Stream base L items bytes T → BeginsWithStream base L bytes given → ItemsGoOn given items
prefix_of {base = base} {L = L} {items = items} {given = given} {bytes = bytes} {T = T} p q =
    elim (begin_one_another base L bytes given items q (record {
      prefix = bytes;
      rest = [];
      table = T;
      stream = p;
      whole = sym (append-nil bytes);
    })) [
      | inl g ↦ g
      | inr g ↦ record { more = []; whole = all_of g (shorter q.rest p q.stream q.whole) ∙ sym (append-nil given) }
    ]
  where
    shorter : {prefix : List ℕ} {U : Table} (rest : List ℕ) → Stream base L items bytes T → Stream base L given prefix U
        → bytes ≡ prefix ++ rest → length given ≤ length items
    shorter [] p r e = let same = (one_reading r p (sym (e ∙ append-nil _))).0 in omega (arith, ap length same)
    shorter (d ∷ rest) p r e = let more = more_items (d ∷ rest) r p (sym e) (λ z. cc) in omega arith

begins_more : {base : Table} {L : Bounds} {items : List StreamItem} {bytes taken : List ℕ} (left : List ℕ)
    → BeginsWithStream base L taken items → bytes ≡ taken ++ left → BeginsWithStream base L bytes items
begins_more left b e =
    record {
      prefix = b.prefix;
      rest = b.rest ++ left;
      table = b.table;
      stream = b.stream;
      whole = e
          ∙ ap (λ l. l ++ left) b.whole ∙ append_assoc b.prefix b.rest left;
    }

pub read_back : (M : Bounds) (items given : List StreamItem) (bytes : List ℕ) (now : Option (List ℕ))
    (result : Result (Unit {0}) Fault)
    → WrittenWithin M items bytes → ReadsStream M bytes now given result → ReadsThese given items result
read_back M items given bytes now (Ok u) w r = (one_reading r.1 (written_stream w).stream refl).0
read_back M items given bytes now (Err (fault.Refused R)) w r = not_refused w r
read_back M items given bytes now (Err fault.Read) w r = prefix_of (written_stream w).stream
    (begins_more r.taken.left r.holds.begins r.taken.whole)
read_back M items given bytes now (Err fault.Memory) w r = prefix_of (written_stream w).stream
    (begins_more r.taken.left r.holds.begins r.taken.whole)
read_back M items given bytes now (Err fault.Failed) w r = absurd r

pub shows_no_refusal : (M : Bounds) (items given : List StreamItem) (prefix rest : List ℕ) (R : Refusal)
    → WrittenWithin M items (prefix ++ rest) → ¬ ShowsRefusal M prefix given R
shows_no_refusal M items given prefix rest R w h =
    not_refused w (shown_refusal_stays M prefix (prefix ++ rest) given R h
    (take-append-le R.seen prefix rest (shown_there h))).1.outcome

-- ---- by a session, in any pieces
fed_back : {X O : Type 0} {most : ℕ} (building : Building X O most) (s s' : SessionState X O)
    (items before : List StreamItem) (bytes piece rest : List ℕ) (given : List (declared.Item O))
    (result : Result (Unit {0}) Fault)
    → WrittenWithin (no_deeper most s.limits) items ((bytes ++ piece) ++ rest)
    → FeedAnswers building s s' before bytes piece given result → (result ≡ Ok tt)
    ⊎ (result ≡ Err fault.Memory)
fed_back building s s' items before bytes piece rest given (Ok u) w f = inl refl
fed_back {most = most} building s s' items before bytes piece rest given (Err (fault.Refused R)) w f =
    absurd (shows_no_refusal (no_deeper most s.limits) items (before ++ f.0.more) (bytes ++ piece) rest R w f.0.holds.0)
fed_back building s s' items before bytes piece rest given (Err fault.Read) w f = absurd f
fed_back building s s' items before bytes piece rest given (Err fault.Memory) w f = inr refl
fed_back building s s' items before bytes piece rest given (Err fault.Failed) w f = absurd f

finished_back : {X O : Type 0} {most : ℕ} (building : Building X O most) (s s' : SessionState X O)
    (items before : List StreamItem) (bytes : List ℕ) (result : Result (Unit {0}) Fault)
    → WrittenWithin (no_deeper most s.limits) items bytes → FinishAnswers building s s' before bytes result
    → result ≡ Ok tt
finished_back building s s' items before bytes (Ok u) w f = refl
finished_back building s s' items before bytes (Err (fault.Refused R)) w f = absurd (not_refused w f.0)
finished_back building s s' items before bytes (Err fault.Read) w f = absurd f
finished_back building s s' items before bytes (Err fault.Memory) w f = absurd f
finished_back building s s' items before bytes (Err fault.Failed) w f = absurd f

pub read_back_in_pieces : {X O : Type 0} {most : ℕ} (building : Building X O most) → AreReadBackInPieces building
read_back_in_pieces {most = most} building = record {
  fed = fed_back building;
  given = λ s items before bytes w a. give_one_list base_table (no_deeper most s.limits) bytes before items
      (after_gives a) (written_ends w).gives;
  finished = finished_back building;
}
