-- What the session of the format answers, in the words of any session.
use Rattle.std.proofs.Common.{◌≡◌, ◌<◌, ℕ, List, [], ◌∷◌, ◌++◌, length, Option, Ok, Err, Result, ◌∙◌, ap, sym}
use Rattle.std.proofs.Common.{subst, refl, append-nil, append_assoc, arith, take, length-append, None, Some, IfOk}
use Rattle.std.proofs.Common.{IfSome}
use Rattle.std.proofs.Common.{Bool, true, false, IsTrue, MatchBool, OnErr}
use Rattle.std.proofs.lemmas.List.{take-append-le, length-take-le}
use Rattle.gob_types.specs.Base.{base_table}
use Rattle.gob_types.specs.Defined.{types}
use Rattle.gob_types.specs.declared.reason.Reason.TheVariants as reason
use Rattle.gob_read.specs.Building.{Building}
use Rattle.gob_stream.specs.Bounds.{Bounds, no_deeper}
use Rattle.gob_stream.specs.Calls.Session.{FinishAnswers, HasBegunNext, HasFailed, HasItemNext, HasRead}
use Rattle.gob_stream.specs.Calls.Session.{IsBetweenItems, ReadsItems}
use Rattle.gob_stream.specs.Calls.Session.{ReadsOn, StepAnswers}
use Rattle.gob_stream.specs.Calls.Session.{limits_of, table_of, types_of}
use Rattle.gob_stream.specs.Item.{StreamItem, ItemMeans}
use Rattle.gob_stream.specs.Machine.ReadParts.{AdvancesOver, over_some, over_item}
use Rattle.gob_stream.specs.Machine.SessionState.{SessionState}
use Rattle.gob_stream.specs.Grammar.{GivesIn}
use Rattle.gob_stream.specs.Honest.{OfRefusal}
use Rattle.gob_stream.specs.Outcome.{BeginsWithStream, EndsSo, the_end, at_the_end, strict}
use Rattle.gob_stream.specs.Reading.{HasTypesBehind, ShowsRefusal}
use Rattle.gob_stream.specs.Stepping.{AdvancesBy, FinishAnswersBy, GivesAllBy, GivesNoMoreBy, HasItemNextBy}
use Rattle.gob_stream.specs.Stepping.{in_format, in_grammar, IsNextBy, IsToldNextBy, ReadsItemsBy, ReadsOnBy, StandsBy}
use Rattle.gob_stream.specs.Stepping.{StepAnswersBy, GivesItemsOf, gives_none, gives_one}
use Rattle.gob_stream.specs.Stream.{Stream}
use Rattle.gob_stream.specs.StrictStepping.{strict_stepping}
use Rattle.gob_stream.specs.declared.fault.Fault.{Fault}
use Rattle.gob_stream.specs.declared.fault.Fault.TheVariants as fault
use Rattle.gob_stream.specs.declared.fault.Refusal.{Refusal}
use Rattle.gob_stream.specs.declared.item.Item as declared
use Rattle.gob_stream.specs.declared.session.Advance.{Advance}
use Rattle.gob_stream.specs.declared.whole.Awaited.{Awaited}
use Rattle.gob_stream.proofs.Reader.FailedSteps.{not_read}
use Rattle.gob_stream.proofs.Reader.HasReadLaws.{one_table, stands_within}
use Rattle.gob_stream.proofs.Reader.UnderWayLaws.{after_gives}
use Rattle.gob_stream.proofs.Reader.WholeSteps.{begun_gives}
use Rattle.gob_stream.proofs.Stream.FewLaws.{gives_nothing, items_few}
use Rattle.gob_stream.proofs.Stream.StreamLaws.{counted_some}
use Rattle.gob_stream.proofs.Stream.StayLaws.{shown_refusal_stays, shown_there}

-- the bytes that a refusal is shown by are followed by others
shown_more : {L : Bounds} {bytes : List ℕ} {items : List StreamItem} {R : Refusal} (more : List ℕ)
    → ShowsRefusal L bytes items R → ShowsRefusal L (bytes ++ more) items R
shown_more {L = L} {bytes = bytes} {items = items} {R = R} more shown =
    (shown_refusal_stays L bytes (bytes ++ more) items R shown
    (take-append-le R.seen bytes more (shown_there shown))).1

-- what holds of all holds of the one that there is
pub of_ok : {A E : Type 0} {P : A → Type 0} (r : Result A E) → ((a : A) → P a) → IfOk r P
of_ok (Ok a) h = h a
of_ok (Err e) h = tt

-- no byte gives no item
pub nothing_strict : (L : Bounds) → GivesIn strict L base_table [] []
nothing_strict L = gives_nothing strict L (λ T U offset i b q. counted_some q)

module _ {X O : Type 0} {most : ℕ} (building : Building X O most) where
  -- behind the items of bytes with which others begin there is the table of what gave them
  table_is : (s : SessionState X O) (items : List StreamItem) (bytes all more : List ℕ) → all ≡ bytes ++ more
      → HasRead building s items bytes
      → (b : BeginsWithStream base_table (no_deeper most (limits_of s)) all items) → b.table ≡ types_of s
  table_is s items bytes all more e a b =
      one_table (no_deeper most (limits_of s)) all items b.table (types_of s)
      (record { prefix = b.prefix; rest = b.rest; stream = b.stream; whole = b.whole })
      (record {
        prefix = a.prefix;
        rest = a.under_way ++ more;
        stream = a.stream;
        whole = e ∙ ap (λ (l : List ℕ). l ++ more) a.whole ∙ append_assoc a.prefix a.under_way more;
      })

  -- what it has given is all that the bytes give
  pub gives_all : (s : SessionState X O) → GivesAllBy (strict_stepping building) s
  gives_all s = λ items bytes a.
      let g = after_gives a in
      record { gives = g; table = table_is s items bytes bytes [] (sym (append-nil bytes)) a g.begins }

  -- wherever it stands
  pub stands : (s : SessionState X O) → StandsBy (strict_stepping building) s
  stands s = record {
    few = λ items bytes a.
        let few = items_few (λ T U offset i b q. counted_some q) a.stream in
        let bound = stands_within a in
        let taken = a.taken in (
          omega (arith, few, taken, ap length a.whole, length-append a.prefix a.under_way),
          omega (arith, bound, taken),
        );
    gives = gives_all s;
    settled = λ items bytes a between. refl;
  }

  -- a session that has failed has read nothing
  pub failed_unread : (s : SessionState X O) (failed : Bool) → MatchBool failed (HasFailed s) (¬ HasFailed s)
      → IsTrue failed → (items : List StreamItem) (bytes : List ℕ) → ¬ HasRead building s items bytes
  failed_unread s true f u items bytes h = not_read h f
  failed_unread s false f u items bytes h = let no : false ≡ true = u in cc

  -- and the first bytes of an item that isn't whole give none
  pub gives_no_more : (s : SessionState X O) (piece : List ℕ) (o : Option Awaited) → IfSome o (λ a. IsBetweenItems s)
      → IfSome o (λ a. HasBegunNext s a.id a.head a.size piece)
      → IfSome o (λ a. GivesNoMoreBy (strict_stepping building) s piece)
  gives_no_more s piece None between begun = tt
  gives_no_more s piece (Some w) between begun = λ items bytes a.
      let g = begun_gives a between begun in
      record { gives = g; table = table_is s items bytes (bytes ++ piece) piece refl a g.begins }

  advances : {s s' : SessionState X O} {items : List StreamItem} {bytes piece : List ℕ}
      (step : Advance (declared.Item O)) {item : Option (declared.Item O)} → HasRead building s items bytes
      → step.item ≡ item
      → AdvancesOver building s' items bytes piece step.used item
      → AdvancesBy (strict_stepping building) s s' items bytes piece step
  advances {s' = s'} {items = items} {bytes = bytes} {piece = piece} step h e (over_some some within a) = record {
    more = [];
    gives = subst (λ o. GivesItemsOf (λ g i. ItemMeans building.means g i) o []) (sym e) gives_none;
    after = subst (λ l. HasRead building s' l (bytes ++ take step.used piece)) (sym (append-nil items)) a;
    onward = omega (
      arith,
      h.taken,
      a.taken,
      length-append bytes (take step.used piece),
      length-take-le step.used piece within,
    );
  }
  advances {bytes = bytes} {piece = piece} step h e (over_item {i = i} some within means a) = record {
    more = i ∷ [];
    gives = subst (λ o. GivesItemsOf (λ g i. ItemMeans building.means g i) o (i ∷ [])) (sym e) (gives_one means);
    after = a;
    onward = omega (
      arith,
      h.taken,
      a.taken,
      length-append bytes (take step.used piece),
      length-take-le step.used piece within,
    );
  }

  -- where the types stay, they are those behind the items
  types_stand : (s s' : SessionState X O) (items : List StreamItem) (bytes more : List ℕ) → table_of s' ≡ table_of s
      → HasRead building s items bytes
      → HasTypesBehind (no_deeper most (limits_of s)) (bytes ++ more) items (types_of s')
  types_stand s s' items bytes more same h =
      subst (λ T. HasTypesBehind (no_deeper most (limits_of s)) (bytes ++ more) items T)
      (sym (ap (λ d. types d) same)) (record {
        prefix = h.prefix;
        rest = h.under_way ++ more;
        stream = h.stream;
        whole = ap (λ l. l ++ more) h.whole ∙ append_assoc h.prefix h.under_way more;
      })

  -- a step
  pub steps : (s s' : SessionState X O) (items : List StreamItem) (bytes piece : List ℕ)
      (result : Result (Advance (declared.Item O)) Fault) → HasRead building s items bytes
      → OnErr result (table_of s' ≡ table_of s) → StepAnswers building s s' items bytes piece result
      → StepAnswersBy (strict_stepping building) (types_of s) s s' items bytes piece result
  steps s s' items bytes piece (Ok step) h same a = advances step h refl a
  steps s s' items bytes piece (Err (fault.Refused R)) h same f = (
    λ rest.
        let o = (shown_more rest f.0).outcome in
        record {
          outcome = o;
          table = table_is s items bytes ((bytes ++ piece) ++ rest) (piece ++ rest)
              (append_assoc bytes piece rest) h o.gives.begins;
        },
    types_stand s s' items bytes piece same h,
  )
  steps s s' items bytes piece (Err fault.Read) h same f = absurd f
  steps s s' items bytes piece (Err fault.Memory) h same f = gives_all s items bytes h
  steps s s' items bytes piece (Err fault.Failed) h same f = absurd f

  -- what it refuses is shown by bytes of the piece
  pub step_shows : (s s' : SessionState X O) (items : List StreamItem) (bytes piece : List ℕ)
      (result : Result (Advance (declared.Item O)) Fault) → StepAnswers building s s' items bytes piece result
      → OfRefusal (λ R. length bytes < R.seen) result
  step_shows s s' items bytes piece (Ok step) a = tt
  step_shows s s' items bytes piece (Err (fault.Refused R)) a = a.1
  step_shows s s' items bytes piece (Err fault.Read) a = tt
  step_shows s s' items bytes piece (Err fault.Memory) a = tt
  step_shows s s' items bytes piece (Err fault.Failed) a = tt

  -- the end
  pub end_stays : (s s' : SessionState X O) (items : List StreamItem) (bytes : List ℕ)
      (r : Result (Unit {0}) Fault) → FinishAnswers building s s' items bytes r → IfOk r (λ _. s' ≡ s)
  end_stays s s' items bytes (Ok u) a = a.1
  end_stays s s' items bytes (Err e) a = tt

  pub end_reason : (s s' : SessionState X O) (items : List StreamItem) (bytes : List ℕ) (r : Result (Unit {0}) Fault)
      → FinishAnswers building s s' items bytes r → OfRefusal (λ R. R.reason ≡ reason.Ended) r
  end_reason s s' items bytes (Ok u) a = tt
  end_reason s s' items bytes (Err (fault.Refused R)) a = a.1
  end_reason s s' items bytes (Err fault.Read) a = tt
  end_reason s s' items bytes (Err fault.Memory) a = tt
  end_reason s s' items bytes (Err fault.Failed) a = tt

  pub finishes : (s s' : SessionState X O) (items : List StreamItem) (bytes : List ℕ) (r : Result (Unit {0}) Fault)
      → table_of s' ≡ table_of s → HasRead building s items bytes → FinishAnswers building s s' items bytes r
      → FinishAnswersBy (strict_stepping building) (types_of s) s s' items bytes r
  finishes s s' items bytes (Ok u) same a f = (whole f.0.ends, a.taken)
    where
      whole : EndsSo base_table (no_deeper most (limits_of s)) bytes items the_end
          → Stream base_table (no_deeper most (limits_of s)) items bytes (types_of s)
      whole (at_the_end {T = T} p) =
          subst (λ U. Stream base_table (no_deeper most (limits_of s)) items bytes U)
          (table_is s items bytes bytes [] (sym (append-nil bytes)) a
          (record { prefix = bytes; rest = []; table = T; stream = p; whole = sym (append-nil bytes) })) p
  finishes s s' items bytes (Err (fault.Refused R)) same a f = (
    record {
      outcome = f.0;
      table = table_is s items bytes bytes [] (sym (append-nil bytes)) a f.0.gives.begins;
    },
    subst (λ b. HasTypesBehind (no_deeper most (limits_of s)) b items (types_of s')) (append-nil bytes)
        (types_stand s s' items bytes [] same a),
  )
  finishes s s' items bytes (Err fault.Read) same a f = f
  finishes s s' items bytes (Err fault.Memory) same a f = f
  finishes s s' items bytes (Err fault.Failed) same a f = f

  -- past one item
  told_next : {s : SessionState X O} {i : StreamItem} {z : List ℕ} → IsToldNextBy (strict_stepping building) s i z
      → IsNextBy (strict_stepping building) s i z
  told_next (in_format p) = p
  told_next (in_grammar p) = p

  pub item_next : (s : SessionState X O) {z : List ℕ} → HasItemNextBy (strict_stepping building) s z
      → HasItemNext building s (length z)
  item_next s {z = z} i = record { item = i.0; bytes = z; counted = told_next i.1; size = refl }

  pub passes_on : {s s' : SessionState X O} {z : List ℕ} → ReadsOn building s s' (length z)
      → ReadsOnBy (strict_stepping building) s s' z
  passes_on {z = z} on = λ items bytes i h there. on items bytes i z h (told_next there) refl

  -- past items of values that stand whole
  pub passes : {s s' : SessionState X O} {count used : ℕ} {piece : List ℕ}
      → ReadsItems building s s' count used piece → ReadsItemsBy (strict_stepping building) s s' count used piece
  passes p = record { given = p.given; counted = p.counted; none = p.none; within = p.within; passed = p.passed }
