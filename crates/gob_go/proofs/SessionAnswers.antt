-- What the session of streams of Go's encoder answers, in the words of any session.
use Rattle.std.proofs.Common.{◌≡◌, ◌≢◌, ℕ, ◌<◌, ◌≤◌, List, [], ◌∷◌, ◌++◌, length, Option, Ok, Err, Result, ◌∙◌}
use Rattle.std.proofs.Common.{ap, sym, subst, refl, ◌+◌, append-nil}
use Rattle.std.proofs.Common.{append_assoc, arith, take, length-append, None, Some, IfOk, IfSome}
use Rattle.std.proofs.Common.{Bool, true, false, IsTrue, MatchBool}
use Rattle.std.proofs.lemmas.List.{length-take-le}
use Rattle.gob_num.proofs.PublicLaws.{unsigned_length}
use Rattle.gob_types.specs.Base.{base_table}
use Rattle.gob_types.specs.Table.{Table}
use Rattle.gob_types.specs.declared.reason.Reason.TheVariants as reason
use Rattle.gob_stream.specs.Bounds.{Bounds, within_trees}
use Rattle.gob_stream.specs.Stepping.{AdvancesBy, FinishAnswersBy, GivesAllBy, GivesItemsOf, GivesNoMoreBy}
use Rattle.gob_stream.specs.Grammar.{GivesIn}
use Rattle.gob_stream.specs.Honest.{OfRefusal}
use Rattle.gob_stream.specs.Stepping.{ReadsItemsBy, StandsBy, StepAnswersBy}
use Rattle.gob_stream.specs.Stepping.{gives_none, gives_one}
use Rattle.gob_stream.specs.declared.fault.Fault.{Fault}
use Rattle.gob_stream.specs.declared.fault.Fault.TheVariants as fault
use Rattle.gob_stream.specs.declared.fault.Refusal.{Refusal}
use Rattle.gob_stream.specs.declared.session.Advance.{Advance}
use Rattle.gob_stream.specs.declared.whole.Awaited.{Awaited}
use Rattle.gob_filled.specs.Outcome.{BeginsFilled, EndsFilled, FilledOutcome, RefusesFilled, at_the_end, next_refused}
use Rattle.gob_filled.specs.Outcome.{within_an_item, the_end, refused}
use Rattle.gob_filled.specs.Outcome.{profile}
use Rattle.gob_filled.specs.Stream.{AreFilledItems, AreCounted, FilledItem, FilledStream, IsFilledItem}
use Rattle.gob_filled.specs.Stream.{last_counted, next_counted, of_definition, of_value}
use Rattle.gob_stream.proofs.PublicLaws.{gives_nothing, items_few}
use Rattle.gob_filled.proofs.Outcomes.{no_item}
use Rattle.gob_filled.proofs.Shown.{filled_shown, filled_there}
use Rattle.gob_go.specs.Calls.Session.{FinishAnswers, HasBegunNext, HasFailed, StandsAfter, IsBetweenItems}
use Rattle.gob_go.specs.Calls.Session.{ReadsItemsSo, StepAnswersSo, limits_of, types_of}
use Rattle.gob_go.specs.GoStepping.{stepping_of}
use Rattle.gob_go.specs.Machine.SessionState.{SessionState}
use Rattle.gob_go.specs.Machine.Stages.{AdvancesOver, over_some, over_item}
use Rattle.gob_go.specs.Meaning.{ItemMeans}
use Rattle.gob_go.specs.Reading.{LeadsAtMostTo, LeadsBehind, RefusesBehind}
use Rattle.gob_go.specs.declared.item.GoItem.{GoItem}
use Rattle.gob_go.proofs.AdvanceSteps.{not_read}
use Rattle.gob_go.proofs.FeedSteps.{between_table}
use Rattle.gob_go.proofs.FinishSteps.{count_begins_here, given_longest}
use Rattle.gob_go.proofs.ItemsLaws.{items_end, items_grown, longest, one_reading, wire_of}
use Rattle.gob_go.proofs.LeadingLaws.{refused_lead}
use Rattle.gob_go.proofs.UnderWayLaws.{stage_bound, under_way_lead}
use Rattle.gob_go.proofs.WholeSteps.{begun_no_next, types_between}

-- ---- the types behind the items
-- no byte of an item is under way, so they are the session's
pub table_between : {keep : Bool} {s : SessionState} {items : List FilledItem} {bytes : List ℕ}
    (a : StandsAfter keep s items bytes)
    → IsBetweenItems s → a.table ≡ types_of s
table_between a between = sym (between_table a.stage between)

-- they are behind the items of all bytes that begin so
table_is : {keep : Bool} {s : SessionState} {items : List FilledItem} {taken bytes : List ℕ} (more : List ℕ) → bytes
    ≡ taken ++ more
    → (a : StandsAfter keep s items taken)
    → (b : BeginsFilled base_table (within_trees (limits_of s)) bytes items) → b.table ≡ a.table
table_is more e a b =
    (one_reading b.rest (a.under_way ++ more) b.stream a.stream
    (sym b.whole ∙ e ∙ ap (λ (l : List ℕ). l ++ more) a.whole ∙ append_assoc a.prefix a.under_way more)).table

-- what is handed out stands for an item so
abbrev pub Means : Type 1
Means = Table → GoItem → FilledItem → Type 0

-- ---- what was read
-- what it has given is all that the bytes give
pub gives_all : (keep : Bool) (means : Means) (s : SessionState) → GivesAllBy (stepping_of keep means) s
gives_all keep means s = λ items bytes h. record {
  gives = record {
    begins = record { prefix = h.prefix; rest = h.under_way; table = h.table; stream = h.stream; whole = h.whole };
    longest = (given_longest h).longest;
  };
  table = refl;
}

-- an item has a byte at least
segments_some : {L : Bounds} {most offset : ℕ} {ls f : List ℕ} → AreCounted L most offset ls f → 0 < length f
segments_some (last_counted {c = c} s o u l k) = let n = (unsigned_length u).0 in omega (arith, length-append c s)
segments_some (next_counted {c = c} {f = f} s o u l k n m) = let z = (unsigned_length u).0 in
    omega (arith, length-append c (s ++ f))

pub item_some : {L : Bounds} {T U : Table} {offset : ℕ} {i : FilledItem} {b : List ℕ}
    → IsFilledItem base_table L T offset i b U → 0 < length b
item_some (of_definition {c = c} {d = d} u l s p) = let n = (unsigned_length u).0 in omega (arith, length-append c d)
item_some (of_value may sg k cs) = segments_some cs

pub nothing_filled : (L : Bounds) → GivesIn profile L base_table [] []
nothing_filled L = gives_nothing profile L (λ T U offset i b q. item_some q)

pub few_items : {L : Bounds} {T U : Table} {offset : ℕ} {items : List FilledItem} {bytes : List ℕ}
    → AreFilledItems base_table L T offset items bytes U → length items ≤ length bytes
few_items a = items_few (λ T U offset i b q. item_some q) a

-- no more bytes than the limit for the stream, and a count
pub read_within : {keep : Bool} {s : SessionState} {items : List FilledItem} {bytes : List ℕ}
    → StandsAfter keep s items bytes
    → length bytes ≤ (limits_of s).stream + 9
read_within a =
    let end = items_end a.stream (omega arith) in
    let bound = stage_bound (omega arith) a.stage in
    omega (arith, ap length a.whole, length-append a.prefix a.under_way)

-- wherever it stands
pub stands : (keep : Bool) (means : Means) (s : SessionState) → StandsBy (stepping_of keep means) s
stands keep means s = record {
  few = λ items bytes a.
      let few = few_items a.stream in
      let bound = read_within a in
      let taken = a.taken in (
        omega (arith, few, taken, ap length a.whole, length-append a.prefix a.under_way),
        omega (arith, bound, taken),
      );
  gives = gives_all keep means s;
  settled = λ items bytes a between. table_between a between;
}

-- and the first bytes of an item that isn't whole give none
pub gives_no_more : (keep : Bool) (means : Means) (s : SessionState) (piece : List ℕ) (o : Option Awaited)
    → IfSome o (λ a. IsBetweenItems s)
    → IfSome o (λ a. HasBegunNext s a.id a.head a.size piece)
    → IfSome o (λ a. GivesNoMoreBy (stepping_of keep means) s piece)
gives_no_more keep means s piece None between begun = tt
gives_no_more keep means s piece (Some w) between begun = λ items bytes h.
    let none : h.under_way ≡ [] = count_begins_here h between refl in
    let whole : bytes ++ piece ≡ h.prefix ++ piece =
    ap (λ l. l ++ piece) (h.whole ∙ ap (λ y. h.prefix ++ y) none ∙ append-nil h.prefix) in
    record {
      gives = record {
        begins = record { prefix = h.prefix; rest = piece; table = h.table; stream = h.stream; whole = whole };
        longest = longest piece h.stream whole (begun_no_next begun);
      };
      table = refl;
    }

-- a session that has failed has read nothing
pub failed_unread : {keep : Bool} (s : SessionState) (failed : Bool) → MatchBool failed (HasFailed s) (¬ HasFailed s)
    → IsTrue failed → (items : List FilledItem) (bytes : List ℕ) → ¬ StandsAfter keep s items bytes
failed_unread s true f u items bytes h = not_read h f
failed_unread s false f u items bytes h = let no : false ≡ true = u in cc

-- ---- a step
-- a refusal that some bytes show is that of all bytes that begin with them
pub refused_still : {L : Bounds} {bytes : List ℕ} {items : List FilledItem} {R : Refusal} (later : List ℕ)
    → EndsFilled base_table L bytes items (refused R) → R.reason ≢ reason.Ended
    → FilledOutcome base_table L (bytes ++ later) items (refused R)
refused_still {L = L} {R = R} later (next_refused {f = f} {T = T} z s w r) n =
    let all = ap (λ (l : List ℕ). l ++ later) w ∙ append_assoc f z later in
    let still : RefusesFilled base_table L T (length f) (z ++ later) R =
    filled_shown z [] later (wire_of (items_grown s))
    (subst (λ y. RefusesFilled base_table L T (length f) y R) (sym (append-nil z)) r) (filled_there r) in
    record {
      gives = record {
        begins = record { prefix = f; rest = z ++ later; table = T; stream = s; whole = all };
        longest = longest (z ++ later) s all (λ i U b x h k. no_item x h
            (subst (λ y. RefusesFilled base_table L T (length f) y R) k still));
      };
      ends = next_refused (z ++ later) s all still;
    }
refused_still later (within_an_item z s w some other) n = absurd (n refl)

-- the types where bytes are refused are those where they lead
refused_behind : {L : Bounds} {bytes : List ℕ} {items : List FilledItem} {R : Refusal} {U : Table}
    → RefusesBehind L bytes items R U → LeadsBehind L bytes items U
refused_behind {L = L} r = record {
  prefix = r.prefix;
  rest = r.rest;
  table = r.table;
  stream = r.stream;
  whole = r.whole;
  types = subst (λ U. LeadsAtMostTo L r.table (length r.prefix) r.rest U) (sym r.refuses.table)
      (refused_lead r.refuses.refuses);
}

-- what is handed out stands so for what it means
abbrev pub Tells : Bool → Means → Type 0
Tells keep means = (T : Table) (g : GoItem) (i : FilledItem) → (IsTrue keep → ItemMeans T g i) → means T g i

advances : {keep : Bool} {means : Means} {s s' : SessionState} {items : List FilledItem} {bytes piece : List ℕ}
    (step : Advance GoItem)
    {item : Option GoItem} → StandsAfter keep s items bytes → step.item ≡ item
    → AdvancesOver keep s' items bytes piece step.used item
    → Tells keep means → AdvancesBy (stepping_of keep means) s s' items bytes piece step
advances {keep = keep} {means = means} {s' = s'} {items = items} {bytes = bytes} {piece = piece} step h e
    (over_some some within a) tells = record {
      more = [];
      gives = subst (λ o. GivesItemsOf (λ g i. means (types_of s') g i) o []) (sym e) gives_none;
      after = subst (λ l. StandsAfter keep s' l (bytes ++ take step.used piece)) (sym (append-nil items)) a;
      onward = omega (
        arith,
        h.taken,
        a.taken,
        length-append bytes (take step.used piece),
        length-take-le step.used piece within,
      );
    }
advances {means = means} {s' = s'} {bytes = bytes} {piece = piece} step h e
    (over_item {given = given} {i = i} some within m a) tells = record {
      more = i ∷ [];
      gives = subst (λ o. GivesItemsOf (λ g i. means (types_of s') g i) o (i ∷ [])) (sym e)
          (gives_one (tells (types_of s') given i m));
      after = a;
      onward = omega (
        arith,
        h.taken,
        a.taken,
        length-append bytes (take step.used piece),
        length-take-le step.used piece within,
      );
    }

pub steps : {keep : Bool} (means : Means) (s s' : SessionState) (items : List FilledItem) (bytes piece : List ℕ)
    (result : Result (Advance GoItem) Fault)
    → (h : StandsAfter keep s items bytes) → StepAnswersSo keep s s' items bytes piece result
    → Tells keep means → StepAnswersBy (stepping_of keep means) h.table s s' items bytes piece result
steps means s s' items bytes piece (Ok step) h a tells = advances step h refl a tells
steps means s s' items bytes piece (Err (fault.Refused R)) h f tells = (
  λ rest.
      let o = refused_still rest f.0.outcome.ends f.0.shown in
      record { outcome = o; table = table_is (piece ++ rest) (append_assoc bytes piece rest) h o.gives.begins },
  refused_behind f.1,
)
steps means s s' items bytes piece (Err fault.Read) h f tells = absurd f
steps {keep = keep} means s s' items bytes piece (Err fault.Memory) h f tells = gives_all keep means s items bytes h
steps means s s' items bytes piece (Err fault.Failed) h f tells = absurd f

-- what it refuses is shown by bytes of the piece
pub step_shows : (keep : Bool) (s s' : SessionState) (items : List FilledItem) (bytes piece : List ℕ)
    (result : Result (Advance GoItem) Fault) → StepAnswersSo keep s s' items bytes piece result
    → OfRefusal (λ R. length bytes < R.seen) result
step_shows keep s s' items bytes piece (Ok step) a = tt
step_shows keep s s' items bytes piece (Err (fault.Refused R)) a = a.2
step_shows keep s s' items bytes piece (Err fault.Read) a = tt
step_shows keep s s' items bytes piece (Err fault.Memory) a = tt
step_shows keep s s' items bytes piece (Err fault.Failed) a = tt

-- ---- the end
pub end_stays : (s s' : SessionState) (items : List FilledItem) (bytes : List ℕ) (r : Result (Unit {0}) Fault)
    → FinishAnswers s s' items bytes r → IfOk r (λ _. s' ≡ s)
end_stays s s' items bytes (Ok u) a = a.1
end_stays s s' items bytes (Err e) a = tt

pub end_reason : (s s' : SessionState) (items : List FilledItem) (bytes : List ℕ) (r : Result (Unit {0}) Fault)
    → FinishAnswers s s' items bytes r → OfRefusal (λ R. R.reason ≡ reason.Ended) r
end_reason s s' items bytes (Ok u) a = tt
end_reason s s' items bytes (Err (fault.Refused R)) a = a.1
end_reason s s' items bytes (Err fault.Read) a = tt
end_reason s s' items bytes (Err fault.Memory) a = tt
end_reason s s' items bytes (Err fault.Failed) a = tt

-- the types where all that was taken leads
taken_lead : {keep : Bool} {s : SessionState} {items : List FilledItem} {taken : List ℕ}
    → StandsAfter keep s items taken
    → LeadsBehind (within_trees (limits_of s)) taken items (types_of s)
taken_lead a = record {
  prefix = a.prefix;
  rest = a.under_way;
  table = a.table;
  stream = a.stream;
  whole = a.whole;
  types = under_way_lead a.stage;
}

pub finishes : {keep : Bool} (means : Means) (s s' : SessionState) (items : List FilledItem) (bytes : List ℕ)
    (r : Result (Unit {0}) Fault)
    → types_of s' ≡ types_of s → (h : StandsAfter keep s items bytes) → FinishAnswers s s' items bytes r
    → FinishAnswersBy (stepping_of keep means) h.table s s' items bytes r
finishes means s s' items bytes (Ok u) same h f = (whole f.0.ends, h.taken)
  where
    whole : EndsFilled base_table (within_trees (limits_of s)) bytes items the_end
        → FilledStream base_table (within_trees (limits_of s)) items bytes (types_of s)
    whole (at_the_end p) =
        let one = one_reading h.under_way [] h.stream p (sym h.whole ∙ sym (append-nil bytes)) in
        subst (λ T. FilledStream base_table (within_trees (limits_of s)) items bytes T)
        (sym (types_between h.stage one.rest ∙ one.table)) p
finishes means s s' items bytes (Err (fault.Refused R)) same h f = (
  record { outcome = f.0; table = table_is [] (sym (append-nil bytes)) h f.0.gives.begins },
  subst (λ U. LeadsBehind (within_trees (limits_of s)) bytes items U) (sym same) (taken_lead h),
)
finishes means s s' items bytes (Err fault.Read) same h f = f
finishes means s s' items bytes (Err fault.Memory) same h f = f
finishes means s s' items bytes (Err fault.Failed) same h f = f

-- ---- past items of values that stand whole
pub passes : {keep : Bool} (means : Means) {s s' : SessionState} {count used : ℕ} {piece : List ℕ}
    → ReadsItemsSo keep s s' count used piece
    → ReadsItemsBy (stepping_of keep means) s s' count used piece
passes means p = record { given = p.given; counted = p.counted; none = p.none; within = p.within; passed = p.passed }
