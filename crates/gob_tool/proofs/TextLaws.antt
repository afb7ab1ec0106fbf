-- How a run that writes texts of items goes on, and how it ends.
use Rattle.std.proofs.Common.{length, take, ◌≤◌}
use Rattle.std.proofs.Common.{◌≡◌, ℕ, ◌+◌, ◌-◌, ◌<◌, arith, List, [], ◌++◌, Option, Some, None, Bool, IfErr, IfOk}
use Rattle.std.proofs.Common.{IfSome, MatchOption}
use Rattle.std.proofs.Common.{true, false, ◌∷◌, Result, Ok, Err, ◌∙◌, ap, sym, subst, refl, append_assoc, append-nil}
use Rattle.std.proofs.lemmas.List.{length-take-le}
use Rattle.std.specs.Result.{IsErrAnd}
use Rattle.std.specs.Io.KnownBytes.{Appends, Keeps}
use Rattle.std.proofs.KnownBytes.{Appends-kept, Appends-nil, Appends-trans}
use Rattle.gob_num.specs.declared.memory.Memory.{Memory}
use Rattle.gob_types.specs.Base.{base_table}
use Rattle.gob_types.specs.Defined.{types}
use Rattle.gob_types.specs.Table.{Table}
use Rattle.gob_types.specs.declared.id.TypeId.{TypeId}
use Rattle.gob_stream.specs.Bounds.{Bounds}
use Rattle.gob_stream.specs.Calls.ReaderOf.{EndsWithIn, HasReadBy, PassesOneBy, StepsOnBy, StopsBy, StopsIn}
use Rattle.gob_stream.specs.Calls.ReaderOf.{session_of, types_behind, waits_in}
use Rattle.gob_stream.specs.Calls.Writing.{CountsWriterFaults, SentPrefix}
use Rattle.gob_stream.specs.Grammar.{BeginsIn, GivesIn, Grammar}
use Rattle.gob_stream.specs.Item.{StreamItem}
use Rattle.gob_stream.specs.Stepping.{GivesAllBy, GivesItemsOf, gives_none, gives_one, in_format, IsNextBy}
use Rattle.gob_stream.specs.Stepping.{StandsBy, Stepping}
use Rattle.gob_stream.specs.declared.fault.Fault.{Fault}
use Rattle.gob_stream.specs.declared.fault.Fault.TheVariants as reading
use Rattle.gob_stream.specs.declared.fault.WriteFault.{WriteFault}
use Rattle.gob_stream.specs.declared.fault.WriteFault.TheVariants as writing
use Rattle.gob_stream.specs.declared.reader_of.ReaderOf.{ReaderOf}
use Rattle.gob_stream.specs.declared.session.Advance.{Advance}
use Rattle.gob_stream.proofs.PublicLaws.{counted_some}
use Rattle.gob_stream.proofs.Reader.ReaderOfLaws.{ahead_in, read_so}
use Rattle.gob_tool.specs.Answering.{AppendsPrefix, BeginsOutcome, EndsWhole, RunAnswersIn}
use Rattle.gob_tool.specs.Ending.{EndsRun, ends_so, flush_fails}
use Rattle.gob_tool.specs.Fault.{reading_fault}
use Rattle.gob_tool.specs.Machine.Texts.{AppendsTexts, AreNextTexts, bounds_of, MakesNext, MakesOnward, MakesTexts}
use Rattle.gob_tool.specs.Machine.Texts.{CountsFaults, SendsLarge, SendsNone, stops_item, stops_reading, StopsNext}
use Rattle.gob_tool.specs.Machine.Texts.{TextGiven, WritesNext, WritesSo}
use Rattle.gob_tool.specs.Texts.{AnswersOrStops, answers, stops_at, from_item, from_value, HaveTexts, IsGiven}
use Rattle.gob_tool.specs.Texts.{IsNextWhole, IsStopBy, IsTextBy, IsWholeText, no_texts, OfTexts, texts_then}
use Rattle.gob_tool.specs.Texts.{TextsAnswersIn, IsValueText, of_unfilled, of_held, of_format}
use Rattle.gob_filled.specs.Filled.{Filled, filled, no_filling, filling}
use Rattle.gob_read.specs.Building.{Building}
use Rattle.gob_stream.specs.StrictStepping.{strict_stepping}
use Rattle.gob_tool.specs.declared.fault.ToolFault.{ToolFault}
use Rattle.gob_tool.specs.declared.fault.ToolFault.TheVariants as fault
use Rattle.gob_tool.proofs.EndLaws.{all_kept, prefix_kept}

-- ---- the ends
module _ {Told : Type 0} (G : Grammar Told) where
  pub shown_whole : {L : Bounds} {T : Table} {items : List Told} {bytes : List ℕ} {now : Option (List ℕ)} {taken : ℕ}
      (P : Table → List Told → Type 0) → EndsWithIn G L T taken items bytes now → P T items
      → EndsWhole G L bytes now P
  shown_whole {T = T} {items = items} P e h =
      record { items = items; table = T; stream = e.stream; end = e.end; holds = h }

  pub shown_stops : (L : Bounds) (T : Table) (items : List Told) (bytes : List ℕ) (now : Option (List ℕ))
      (P C : Table → List Told → Type 0) (e : Fault) → StopsIn G L T items bytes now e → P T items
      → RunAnswersIn G L bytes now P C (Err (reading_fault e))
  shown_stops L T items bytes now P C (reading.Refused R) s h =
      record { items = items; outcome = s.outcome; holds = subst (λ U. P U items) (sym s.table) h }
  shown_stops L T items bytes now P C reading.Read s h = record {
    bytes = s.bytes;
    taken = s.taken;
    holds = record
        { items = items; given = s.holds.gives; holds = subst (λ U. P U items) (sym s.holds.table) h };
  }
  shown_stops L T items bytes now P C reading.Memory s h = record {
    bytes = s.bytes;
    taken = s.taken;
    holds = record { items = items; table = T; given = s.holds; holds = h };
  }
  shown_stops L T items bytes now P C reading.Failed s h = absurd s

  -- no memory was had before the first byte was read
  pub shown_none : (L : Bounds) (bytes : List ℕ) (now : Option (List ℕ)) (P C : Table → List Told → Type 0)
      → GivesIn G L base_table [] [] → now ≡ Some bytes → P base_table []
      → RunAnswersIn G L bytes now P C (Err fault.Memory)
  shown_none L bytes now P C nothing known h = record {
    bytes = [];
    taken = record { left = bytes; known = known; whole = refl };
    holds = record {
      items = [];
      table = base_table;
      given = record { prefix = []; rest = []; whole = refl; few = omega arith; gives = nothing };
      holds = h;
    };
  }

  -- all of what was read begins with it
  pub ended_begins : {L : Bounds} {bytes : List ℕ} {now : Option (List ℕ)} {P Q : Table → List Told → Type 0}
      → EndsWhole G L bytes now P → ((T : Table) (items : List Told) → P T items → Q T items)
      → BeginsOutcome G L bytes Q
  ended_begins {bytes = bytes} w f = record {
    items = w.items;
    begins = record { prefix = bytes; rest = []; table = w.table; stream = w.stream; whole = sym (append-nil bytes) };
    holds = f w.table w.items w.holds;
  }

  begun_as : {L : Bounds} {bytes : List ℕ} {P Q : Table → List Told → Type 0} → BeginsOutcome G L bytes P
      → ((T : Table) (items : List Told) → P T items → Q T items) → BeginsOutcome G L bytes Q
  begun_as b f = record { items = b.items; begins = b.begins; holds = f _ _ b.holds }

  pub runs_as : (L : Bounds) (bytes : List ℕ) (now : Option (List ℕ)) (P Q C D : Table → List Told → Type 0)
      (r : Result (Unit {0}) ToolFault) → RunAnswersIn G L bytes now P C r
      → ((T : Table) (items : List Told) → P T items → Q T items)
      → ((T : Table) (items : List Told) → C T items → D T items) → RunAnswersIn G L bytes now Q D r
  runs_as L bytes now P Q C D (Ok u) e f g =
      record { items = e.items; table = e.table; stream = e.stream; end = e.end; holds = f _ _ e.holds }
  runs_as L bytes now P Q C D (Err (fault.Refused R)) e f g =
      record { items = e.items; outcome = e.outcome; holds = f _ _ e.holds }
  runs_as L bytes now P Q C D (Err fault.Read) e f g = record {
    bytes = e.bytes;
    taken = e.taken;
    holds = record { items = e.holds.items; given = e.holds.given; holds = f _ _ e.holds.holds };
  }
  runs_as L bytes now P Q C D (Err (fault.Wanted R)) e f g = absurd e
  runs_as L bytes now P Q C D (Err fault.NoWantedType) e f g = absurd e
  runs_as L bytes now P Q C D (Err (fault.Clash path reason)) e f g = absurd e
  runs_as L bytes now P Q C D (Err (fault.LeftOut path number)) e f g = absurd e
  runs_as L bytes now P Q C D (Err fault.Write) e f g = begun_as e g
  runs_as L bytes now P Q C D (Err fault.Memory) e f g = record {
    bytes = e.bytes;
    taken = e.taken;
    holds = record
        { items = e.holds.items; table = e.holds.table; given = e.holds.given; holds = f _ _ e.holds.holds };
  }

  -- what the stream that the bytes begin with tells, and the types behind it
  pub runs_begun : (L : Bounds) (bytes : List ℕ) (now : Option (List ℕ)) (P Q C D : Table → List Told → Type 0)
      (r : Result (Unit {0}) ToolFault) → RunAnswersIn G L bytes now P C r
      → ((T : Table) (items : List Told) (b : BeginsIn G L bytes items) → P T items → Q b.table items)
      → ((T : Table) (items : List Told) (b : BeginsIn G L bytes items) → C T items → D b.table items)
      → RunAnswersIn G L bytes now Q D r
  runs_begun L bytes now P Q C D (Ok u) e f g = record {
    items = e.items;
    table = e.table;
    stream = e.stream;
    end = e.end;
    holds = f e.table e.items (record {
      prefix = bytes;
      rest = [];
      table = e.table;
      stream = e.stream;
      whole = sym (append-nil bytes);
    }) e.holds;
  }
  runs_begun L bytes now P Q C D (Err (fault.Refused R)) e f g =
      record { items = e.items; outcome = e.outcome; holds = f _ _ e.outcome.gives.begins e.holds }
  runs_begun L bytes now P Q C D (Err fault.Read) e f g =
      let b = e.holds.given.begins in
      let all : BeginsIn G L bytes e.holds.items = record {
        prefix = b.prefix;
        rest = b.rest ++ e.taken.left;
        table = b.table;
        stream = b.stream;
        whole = e.taken.whole ∙ ap (λ l. l ++ e.taken.left) b.whole ∙ append_assoc b.prefix b.rest e.taken.left;
      } in
      record {
        bytes = e.bytes;
        taken = e.taken;
        holds = record { items = e.holds.items; given = e.holds.given; holds = f _ _ all e.holds.holds };
      }
  runs_begun L bytes now P Q C D (Err fault.Write) e f g =
      record { items = e.items; begins = e.begins; holds = g _ _ e.begins e.holds }
  runs_begun L bytes now P Q C D (Err fault.Memory) e f g =
      let h = e.holds.given in
      let b = h.gives.gives.begins in
      let all : BeginsIn G L bytes e.holds.items = record {
        prefix = b.prefix;
        rest = (b.rest ++ h.rest) ++ e.taken.left;
        table = b.table;
        stream = b.stream;
        whole = e.taken.whole ∙ ap (λ l. l ++ e.taken.left) (h.whole ∙ ap (λ l. l ++ h.rest) b.whole
            ∙ append_assoc b.prefix b.rest h.rest) ∙ append_assoc b.prefix (b.rest ++ h.rest) e.taken.left;
      } in
      record {
        bytes = e.bytes;
        taken = e.taken;
        holds = record {
          items = e.holds.items;
          table = e.holds.table;
          given = h;
          holds = subst (λ T. Q T e.holds.items) h.gives.table (f _ _ all e.holds.holds);
        };
      }
  runs_begun L bytes now P Q C D (Err (fault.Wanted R)) e f g = absurd e
  runs_begun L bytes now P Q C D (Err fault.NoWantedType) e f g = absurd e
  runs_begun L bytes now P Q C D (Err (fault.Clash path reason)) e f g = absurd e
  runs_begun L bytes now P Q C D (Err (fault.LeftOut path number)) e f g = absurd e

  -- ---- texts that are others too, of items that stand there
  module _ (Is By : Table → Told → List ℕ → Type 0) (by : (L : Bounds) (bytes text : List ℕ) (items : List Told)
      (i : Told) (b : BeginsIn G L bytes (items ++ i ∷ [])) → By b.table i text → Is b.table i text) where
    have_others : {L : Bounds} {bytes text : List ℕ} {items : List Told} → HaveTexts G By L bytes items text
        → HaveTexts G Is L bytes items text
    have_others no_texts = no_texts
    have_others {L = L} {bytes = bytes} (texts_then {items = items} i more h b t) =
        texts_then i more (have_others h) b (by L bytes more items i b t)

    of_others : {L : Bounds} {bytes : List ℕ} {P : List ℕ → Type 0} (T : Table) (items : List Told)
        → OfTexts G By L bytes P items → OfTexts G Is L bytes P items
    of_others T items o = record { text = o.text; texts = have_others o.texts; holds = o.holds }

    pub texts_are : (L : Bounds) (bytes : List ℕ) (now old new : Option (List ℕ)) (r : Result (Unit {0}) ToolFault)
        → TextsAnswersIn G By L bytes now old new r → TextsAnswersIn G Is L bytes now old new r
    texts_are L bytes now old new r h =
        runs_as L bytes now (λ T items. OfTexts G By L bytes (Appends old new) items)
        (λ T items. OfTexts G Is L bytes (Appends old new) items)
        (λ T items. OfTexts G By L bytes (AppendsPrefix old new) items)
        (λ T items. OfTexts G Is L bytes (AppendsPrefix old new) items) r h of_others of_others

-- ---- what was found
pub found_as : {A B : ℕ → Type 0} (N : Type 0) (res : Result (Option ℕ) Memory) → ((used : ℕ) → A used → B used)
    → IfOk res (λ found. MatchOption found N A) → IfOk res (λ found. MatchOption found N B)
found_as N (Ok None) f h = h
found_as N (Ok (Some used)) f h = f used h
found_as N (Err e) f h = h

-- ---- a large item
pub none_sent : {X I : Type 0} {r r' : ReaderOf X I} {failures failures' : ℕ} {old new : Option (List ℕ)} (done : Bool)
    → done ≡ false → SendsNone r r' failures failures' old new (Ok done)
    → (r' ≡ r) × (failures' ≡ failures) × (new ≡ old)
none_sent true e h = cc
none_sent false e h = h

pub large_fault : (res : Result Bool WriteFault) (e : WriteFault) → IsErrAnd res (λ x. x ≡ e) → e ≡ writing.Write
    → IfErr res (λ x. x ≡ writing.Write)
large_fault (Ok done) e is write = tt
large_fault (Err f) e is write = is ∙ write

pub large_counts : (old new : ℕ) (res : Result Bool WriteFault) (e : WriteFault) → IsErrAnd res (λ x. x ≡ e)
    → CountsWriterFaults old new (Err e) → e ≡ writing.Write → CountsFaults old new res
large_counts old new (Ok done) e is h write = absurd is
large_counts old new (Err f) e is h write = subst (λ e. CountsWriterFaults old new (Err e)) write h

module _ {X I Told : Type 0} (d : Stepping X I Told) where
  -- each turn takes a byte at least
  pub texts_fall : {r' : ReaderOf X I} {read now : Option (List ℕ)} {items : List Told} → StandsBy d (session_of r')
      → (r : ReaderOf X I) (before : ℕ) → d.limits (session_of r') ≡ d.limits (session_of r)
      → HasReadBy d r' read now items → before < d.taken (session_of r')
      → (d.limits (session_of r')).stream + 9 - d.taken (session_of r')
      < (d.limits (session_of r)).stream + 9 - before
  texts_fall {items = items} stands r before same h onward =
      let few = stands.few items h.taken h.gave in
      let stream = ap (λ (L : Bounds). L.stream) same in
      omega (arith, few.1, onward, stream)

  -- the items begin known bytes, and this is the table behind them
  pub begun : {r : ReaderOf X I} {read now : Option (List ℕ)} {items : List Told} → GivesAllBy d (session_of r)
      → (bytes : List ℕ) → (h : HasReadBy d r read now items) → read ≡ Some bytes
      → (b : BeginsIn d.grammar (bounds_of d r) bytes items) × (b.table ≡ types_behind d h)
  begun {r = r} {items = items} gives bytes h known =
      let t = read_so d bytes h known in
      let g = gives items h.taken h.gave in
      let b = g.gives.begins in (
        record {
          prefix = b.prefix;
          rest = (b.rest ++ waits_in r) ++ t.left;
          table = b.table;
          stream = b.stream;
          whole = t.whole ∙ ap (λ (l : List ℕ). (l ++ waits_in r) ++ t.left) b.whole
              ∙ ap (λ (l : List ℕ). l ++ t.left) (append_assoc b.prefix b.rest (waits_in r))
              ∙ append_assoc b.prefix (b.rest ++ waits_in r) t.left;
        },
        g.table,
      )

  -- all of what was read but what waits was taken
  pub no_memory : {r : ReaderOf X I} {read now : Option (List ℕ)} {items : List Told} → GivesAllBy d (session_of r)
      → (h : HasReadBy d r read now items) → StopsBy d (session_of r) (types_behind d h) read now items reading.Memory
  no_memory {r = r} {read = read} {now = now} {items = items} gives h = λ bytes known.
      ahead_in d r read now (types_behind d h) bytes h.taken h.input (gives items h.taken h.gave) h.room known

module _ {X I Told : Type 0} (d : Stepping X I Told) (Is : Table → Told → List ℕ → Type 0)
    (Stop : Table → Told → ToolFault → Type 0) where
  -- ---- at the error that a `?` returns
  pub next_at : (r r' : ReaderOf X I) (read now : Option (List ℕ)) (given : List Told) (old new : Option (List ℕ))
      (res : Result (Unit {0}) ToolFault) (f : ToolFault) → IsErrAnd res (λ x. x ≡ f)
      → WritesNext d Is Stop r r' read now given old new (Err f) → WritesNext d Is Stop r r' read now given old new res
  next_at r r' read now given old new (Ok u) f is h = absurd is
  next_at r r' read now given old new (Err g) f is h =
      subst (λ f. WritesNext d Is Stop r r' read now given old new (Err f)) (sym is) h

  pub makes_at : (r r' : ReaderOf X I) (read now : Option (List ℕ)) (given : List Told) (made : List ℕ)
      (res : Result (Unit {0}) ToolFault) (f : ToolFault) → IsErrAnd res (λ x. x ≡ f)
      → StopsNext d Stop r r' read now given f → MakesNext d Is Stop r r' read now given made res
  makes_at r r' read now given made (Ok u) f is h = absurd is
  makes_at r r' read now given made (Err g) f is h = subst (λ f. StopsNext d Stop r r' read now given f) (sym is) h

  pub next_still : (r q r' : ReaderOf X I) (read now : Option (List ℕ)) (given : List Told)
      (old mid new : Option (List ℕ)) (res : Result (Unit {0}) ToolFault) → q ≡ r → mid ≡ old
      → ((read now : Option (List ℕ)) (given : List Told) → HasReadBy d q read now given
      → WritesNext d Is Stop q r' read now given mid new res) → HasReadBy d r read now given
      → WritesNext d Is Stop r r' read now given old new res
  next_still r q r' read now given old mid new res same kept f h =
      subst (λ (o : Option (List ℕ)). WritesNext d Is Stop r r' read now given o new res) kept
      (subst (λ (q : ReaderOf X I). HasReadBy d q read now given → WritesNext d Is Stop q r' read now given mid new res)
      same (f read now given) h)

  -- ---- the ends
  pub answers_under : (L M : Bounds) (bytes : List ℕ) (now old new : Option (List ℕ)) (r : Result (Unit {0}) ToolFault)
      → L ≡ M → AnswersOrStops d.grammar Is Stop (d.within L) bytes now old new r
      → AnswersOrStops d.grammar Is Stop (d.within M) bytes now old new r
  answers_under L M bytes now old new r same h =
      subst (λ (L : Bounds). AnswersOrStops d.grammar Is Stop (d.within L) bytes now old new r) same h

  -- what stopped it
  pub step_stopped : {r r' : ReaderOf X I} {read now : Option (List ℕ)} {given : List Told} {f : ToolFault}
      (start out : Option (List ℕ)) → StopsNext d Stop r r' read now given f → (bytes : List ℕ) → read ≡ Some bytes
      → OfTexts d.grammar Is (bounds_of d r) bytes (Appends start out) given
      → AnswersOrStops d.grammar Is Stop (bounds_of d r) bytes now start out (Err f)
  step_stopped {r = r} {now = now} {given = given} start out (stops_reading T e s) bytes known o =
      let L = bounds_of d r in
      answers (shown_stops d.grammar L T given bytes now
      (λ T items. OfTexts d.grammar Is L bytes (Appends start out) items)
      (λ T items. OfTexts d.grammar Is L bytes (AppendsPrefix start out) items) e (s bytes known) o)
  step_stopped {now = now} {given = given} {f = f} start out (stops_item i h stands between same stop) bytes known o =
      let b = begun d stands.gives bytes h known in
      let there = stands.settled (given ++ i ∷ []) h.taken h.gave between in
      subst (λ (M : Bounds). AnswersOrStops d.grammar Is Stop (d.within M) bytes now start out (Err f)) same
      (stops_at given i b.0
      (subst (λ (M : Bounds). OfTexts d.grammar Is (d.within M) bytes (Appends start out) given) (sym same) o)
      (subst (λ T. Stop T i f) (sym (b.1 ∙ there)) stop))

module _ {X I Told : Type 0} (d : Stepping X I Told) (Is : Table → Told → List ℕ → Type 0) where
  texts_as : {L : Bounds} {bytes : List ℕ} {P Q : List ℕ → Type 0} → ((text : List ℕ) → P text → Q text)
      → (T : Table) (items : List Told) → OfTexts d.grammar Is L bytes P items → OfTexts d.grammar Is L bytes Q items
  texts_as f T items o = record { text = o.text; texts = o.texts; holds = f o.text o.holds }

  -- ---- the ends
  -- no fault of its own stops it
  pub unstopped : {L : Bounds} {bytes : List ℕ} {now old new : Option (List ℕ)} {r : Result (Unit {0}) ToolFault}
      → AnswersOrStops d.grammar Is (IsStopBy d (λ T given f. ⊥)) L bytes now old new r
      → TextsAnswersIn d.grammar Is L bytes now old new r
  unstopped (answers h) = h
  unstopped (stops_at items i begins o stop) = absurd stop.stops

  pub texts_ended : (L : Bounds) (bytes : List ℕ) (now old mid new : Option (List ℕ))
      (answer result : Result (Unit {0}) ToolFault) → Keeps mid new → EndsRun answer result
      → TextsAnswersIn d.grammar Is L bytes now old mid answer → TextsAnswersIn d.grammar Is L bytes now old new result
  texts_ended L bytes now old mid new answer result k (ends_so e) h =
      subst (λ r. TextsAnswersIn d.grammar Is L bytes now old new r) (sym e)
      (runs_as d.grammar L bytes now (λ T items. OfTexts d.grammar Is L bytes (Appends old mid) items)
      (λ T items. OfTexts d.grammar Is L bytes (Appends old new) items)
      (λ T items. OfTexts d.grammar Is L bytes (AppendsPrefix old mid) items)
      (λ T items. OfTexts d.grammar Is L bytes (AppendsPrefix old new) items) answer h
      (texts_as (λ text a. Appends-kept old mid new text a k)) (texts_as (λ text a. prefix_kept old mid new text a k)))
  texts_ended L bytes now old mid new answer result k (flush_fails o e) h =
      subst (λ r. TextsAnswersIn d.grammar Is L bytes now old new r) (sym e)
      (ended_begins d.grammar (subst (λ r. TextsAnswersIn d.grammar Is L bytes now old mid r) o h)
      (texts_as (λ text a. all_kept old mid new text a k)))

module _ {X I Told : Type 0} (d : Stepping X I Told) {Is : Table → Told → List ℕ → Type 0} where
  -- ---- from item to item
  none_next : {L : Bounds} {bytes : List ℕ} {items : List Told} → AreNextTexts d.grammar Is L bytes items [] []
  none_next {L = L} {bytes = bytes} {items = items} = λ text h.
      subst (λ l. HaveTexts d.grammar Is L bytes l (text ++ [])) (sym (append-nil items))
      (subst (λ l. HaveTexts d.grammar Is L bytes items l) (sym (append-nil text)) h)

  one_next : {L : Bounds} {bytes : List ℕ} {items : List Told} {T : Table} (i : Told) (made : List ℕ)
      → (b : BeginsIn d.grammar L bytes (items ++ i ∷ [])) → b.table ≡ T → Is T i made
      → AreNextTexts d.grammar Is L bytes items (i ∷ []) made
  one_next i made b e m = λ text h. texts_then i made h b (subst (λ T. Is T i made) (sym e) m)

  pub texts_first : (r : ReaderOf X I) (read out : Option (List ℕ)) → StandsBy d (session_of r)
      → HasReadBy d r read read [] → WritesSo d Is r read read out out
  texts_first r read out stands has = record {
    given = [];
    has = has;
    stands = stands;
    out = λ bytes known. record { text = []; texts = no_texts; holds = Appends-nil out };
  }

  pub texts_under : {L M : Bounds} {bytes text : List ℕ} {items : List Told} → L ≡ M
      → HaveTexts d.grammar Is (d.within L) bytes items text → HaveTexts d.grammar Is (d.within M) bytes items text
  texts_under {bytes = bytes} {text = text} {items = items} same h =
      subst (λ (L : Bounds). HaveTexts d.grammar Is (d.within L) bytes items text) same h

  -- those that were made went out
  texts_sent : {r r' : ReaderOf X I} {read now : Option (List ℕ)} {given : List Told} {made : List ℕ}
      (old mid new : Option (List ℕ)) → (m : MakesTexts d Is r r' read now given made) → Appends mid new made
      → (bytes : List ℕ) → read ≡ Some bytes → OfTexts d.grammar Is (bounds_of d r) bytes (Appends old mid) given
      → OfTexts d.grammar Is (bounds_of d r') bytes (Appends old new) (given ++ m.more)
  texts_sent {made = made} old mid new m out bytes known o = record {
    text = o.text ++ made;
    texts = m.made_of bytes known o.text (texts_under (sym m.limits) o.texts);
    holds = Appends-trans old mid new o.text made o.holds out;
  }

  pub texts_turn : {r q r' : ReaderOf X I} {read now next old mid new : Option (List ℕ)} {made : List ℕ}
      (s : WritesSo d Is r read now old mid) → d.limits (session_of q) ≡ d.limits (session_of r)
      → MakesTexts d Is q r' read next s.given made → Appends mid new made → WritesSo d Is r' read next old new
  texts_turn {old = old} {mid = mid} {new = new} s same m b = record {
    given = s.given ++ m.more;
    has = m.after;
    stands = m.stands;
    out = λ bytes known.
        let o = s.out bytes known in
        texts_sent old mid new m b bytes known
        (record { text = o.text; texts = texts_under (sym same) o.texts; holds = o.holds });
  }

  -- behind a flush
  pub texts_flushed : {r : ReaderOf X I} {read now old mid new : Option (List ℕ)} → WritesSo d Is r read now old mid
      → Keeps mid new → WritesSo d Is r read now old new
  texts_flushed {old = old} {mid = mid} {new = new} s k = record {
    given = s.given;
    has = s.has;
    stands = s.stands;
    out = λ bytes known.
        let o = s.out bytes known in
        record { text = o.text; texts = o.texts; holds = Appends-kept old mid new o.text o.holds k };
  }

  -- ---- those of items that wait one behind another
  pub both_made : {r q r' : ReaderOf X I} {read now : Option (List ℕ)} {given : List Told} {first second : List ℕ}
      (m : MakesTexts d Is r q read now given first) → MakesTexts d Is q r' read now (given ++ m.more) second
      → MakesTexts d Is r r' read now given (first ++ second)
  both_made {r' = r'} {read = read} {now = now} {given = given} {first = first} {second = second} m n =
      let L = bounds_of d r' in
      let all = append_assoc given m.more n.more in
      record {
        more = m.more ++ n.more;
        after = subst (λ (l : List Told). HasReadBy d r' read now l) all n.after;
        onward = omega (arith, m.onward, n.onward);
        limits = n.limits ∙ m.limits;
        stands = n.stands;
        made_of = λ bytes known text h.
            let first_stands = m.made_of bytes known text (texts_under n.limits h) in
            subst (λ (l : List Told). HaveTexts d.grammar Is L bytes l (text ++ (first ++ second))) all
            (subst (λ (l : List ℕ). HaveTexts d.grammar Is L bytes ((given ++ m.more) ++ n.more) l)
            (append_assoc text first second) (n.made_of bytes known (text ++ first)
            (texts_under (sym n.limits) first_stands)));
      }

  pub none_appended : {r : ReaderOf X I} {read now : Option (List ℕ)} {given : List Told} (old : List ℕ)
      → StandsBy d (session_of r) → HasReadBy d r read now given → AppendsTexts d Is r r read now given old old
  none_appended {r = r} {read = read} {now = now} {given = given} old stands h = (
    [],
    record {
      more = [];
      after = subst (λ (l : List Told). HasReadBy d r read now l) (sym (append-nil given)) h;
      onward = omega arith;
      limits = refl;
      stands = stands;
      made_of = λ bytes known. none_next;
    },
    sym (append-nil old),
  )

  pub large_at : (r r' : ReaderOf X I) (read now : Option (List ℕ)) (given : List Told) (old new : Option (List ℕ))
      (res : Result Bool WriteFault) (e : WriteFault) → IsErrAnd res (λ x. x ≡ e)
      → SendsLarge d Is r r' read now given old new (Err e) → SendsLarge d Is r r' read now given old new res
  large_at r r' read now given old new (Ok done) e is h = absurd is
  large_at r r' read now given old new (Err f) e is h = h

  pub some_sent : (r r' : ReaderOf X I) (read now : Option (List ℕ)) (given : List Told) (old new : Option (List ℕ))
      (done : Bool) → done ≡ true → SendsLarge d Is r r' read now given old new (Ok done)
      → (made : List ℕ) × MakesOnward d Is r r' read now given made × Appends old new made
  some_sent r r' read now given old new true e h = h
  some_sent r r' read now given old new false e h = cc

  pub no_texts_out : (L : Bounds) (bytes : List ℕ) (out : Option (List ℕ))
      → OfTexts d.grammar Is L bytes (Appends out out) []
  no_texts_out L bytes out = record { text = []; texts = no_texts; holds = Appends-nil out }

  -- where a flush failed
  pub texts_unflushed : {r : ReaderOf X I} {read now old new : Option (List ℕ)} → WritesSo d Is r read now old new
      → (bytes : List ℕ) → read ≡ Some bytes
      → BeginsOutcome d.grammar (bounds_of d r) bytes
      (λ T items. OfTexts d.grammar Is (bounds_of d r) bytes (AppendsPrefix old new) items)
  texts_unflushed s bytes known =
      let o = s.out bytes known in
      record {
        items = s.given;
        begins = (begun d s.stands.gives bytes s.has known).0;
        holds = record {
          text = o.text;
          texts = o.texts;
          holds = record { prefix = o.text; rest = []; whole = sym (append-nil o.text); out = o.holds };
        };
      }

  -- a write failed
  pub texts_cut : {r r' : ReaderOf X I} {read now : Option (List ℕ)} {given : List Told} {made : List ℕ}
      (old mid new : Option (List ℕ)) → MakesTexts d Is r r' read now given made → SentPrefix made mid new
      → (bytes : List ℕ) → read ≡ Some bytes → OfTexts d.grammar Is (bounds_of d r) bytes (Appends old mid) given
      → BeginsOutcome d.grammar (bounds_of d r) bytes
      (λ T items. OfTexts d.grammar Is (bounds_of d r) bytes (AppendsPrefix old new) items)
  texts_cut {given = given} {made = made} old mid new m cut bytes known o =
      subst (λ (M : Bounds). BeginsOutcome d.grammar (d.within M) bytes
      (λ T items. OfTexts d.grammar Is (d.within M) bytes (AppendsPrefix old new) items))
      m.limits
      (record {
        items = given ++ m.more;
        begins = (begun d m.stands.gives bytes m.after known).0;
        holds = record {
          text = o.text ++ made;
          texts = m.made_of bytes known o.text (texts_under (sym m.limits) o.texts);
          holds = record {
            prefix = o.text ++ cut.prefix;
            rest = cut.rest;
            whole = ap (λ (l : List ℕ). o.text ++ l) cut.whole ∙ sym (append_assoc o.text cut.prefix cut.rest);
            out = Appends-trans old mid new o.text cut.prefix o.holds cut.out;
          };
        };
      })

  -- memory was wanting behind them
  pub texts_stop : {r r' : ReaderOf X I} {read now : Option (List ℕ)} {given : List Told} {made : List ℕ}
      (old mid new : Option (List ℕ)) → MakesTexts d Is r r' read now given made
      → Appends mid new made → (bytes : List ℕ) → read ≡ Some bytes
      → OfTexts d.grammar Is (bounds_of d r) bytes (Appends old mid) given
      → RunAnswersIn d.grammar (bounds_of d r) bytes now
      (λ T items. OfTexts d.grammar Is (bounds_of d r) bytes (Appends old new) items)
      (λ T items. OfTexts d.grammar Is (bounds_of d r) bytes (AppendsPrefix old new) items) (Err fault.Memory)
  texts_stop {r' = r'} {now = now} {given = given} old mid new m out bytes known o =
      let L = bounds_of d r' in
      subst (λ (M : Bounds). RunAnswersIn d.grammar (d.within M) bytes now
      (λ T items. OfTexts d.grammar Is (d.within M) bytes (Appends old new) items)
      (λ T items. OfTexts d.grammar Is (d.within M) bytes (AppendsPrefix old new) items) (Err fault.Memory))
      m.limits
      (shown_stops d.grammar L (types_behind d m.after) (given ++ m.more) bytes now
      (λ T items. OfTexts d.grammar Is L bytes (Appends old new) items)
      (λ T items. OfTexts d.grammar Is L bytes (AppendsPrefix old new) items) reading.Memory
      (no_memory d m.stands.gives m.after bytes known) (texts_sent old mid new m out bytes known o))

-- the text of a value, where only those of the format have some
pub value_text : {X O : Type 0} {most : ℕ} {building : Building X O most}
    (P : Table → StreamItem → List ℕ → Type 0) {T : Table} {i : StreamItem} {text : List ℕ}
    → IsValueText (strict_stepping building) (of_format P) T i text → P T i text
value_text P (of_unfilled t) = t
value_text P (of_held {w = filled v no_filling} h p q t) = absurd h
value_text P (of_held {w = filled v (filling place name ds u w fs)} h p q t) = absurd t

-- the first bytes that wait are an item of the format
pub waits_next : {X I Told : Type 0} (d : Stepping X I Told) {r : ReaderOf X I} {i : StreamItem} {used : ℕ}
    → d.between (session_of r) → used ≤ length (waits_in r) → IsNextBy d (session_of r) i (take used (waits_in r))
    → IsNextWhole d r (d.told i) used
waits_next d {r = r} {used = used} between within next = record {
  between = between;
  some = omega (arith, counted_some next, length-take-le used (waits_in r) within);
  within = within;
  next = in_format next;
}

module _ {X I Told : Type 0} (d : Stepping X I Told) {of_item : Table → I → List ℕ → Type 0}
    {of_value : Table → TypeId → Filled → List ℕ → Type 0} where
  -- the item behind those that were given, between two items
  next_so : {r : ReaderOf X I} {read now : Option (List ℕ)} {given : List Told} {T : Table}
      → StandsBy d (session_of r) → (i : Told) (made bytes : List ℕ)
      → read ≡ Some bytes → d.between (session_of r) → T ≡ types (d.table (session_of r))
      → HasReadBy d r read now (given ++ i ∷ []) → IsTextBy d of_item of_value T i made
      → AreNextTexts d.grammar (IsTextBy d of_item of_value) (bounds_of d r) bytes given (i ∷ []) made
  next_so {r = r} {given = given} stands i made bytes known between same h is =
      let b = begun d stands.gives bytes h known in
      let there = stands.settled (given ++ i ∷ []) h.taken h.gave between in
      one_next d i made b.0 (b.1 ∙ there ∙ sym same) is

  -- ---- the text of a step
  made_so : {r : ReaderOf X I} {read now : Option (List ℕ)} {given more : List Told} {o : Option I}
      → StandsBy d (session_of r) → (made bytes : List ℕ) → read ≡ Some bytes
      → HasReadBy d r read now (given ++ more) → IfSome o (λ _. d.between (session_of r))
      → GivesItemsOf (d.means (types (d.table (session_of r)))) o more
      → TextGiven of_item (types (d.table (session_of r))) o made
      → AreNextTexts d.grammar (IsTextBy d of_item of_value) (bounds_of d r) bytes given more made
  made_so {r = r} {given = given} stands made bytes known h between gives_none l =
      subst (λ made. AreNextTexts d.grammar (IsTextBy d of_item of_value) (bounds_of d r) bytes given [] made) (sym l)
      (none_next d)
  made_so stands made bytes known h between (gives_one {i = i} m) l =
      next_so stands i made bytes known between refl h (from_item m l)

  pub step_made : {r r' : ReaderOf X I} {read now : Option (List ℕ)} {given : List Told} {step : Advance I}
      {made : List ℕ} → StandsBy d (session_of r') → 0 < step.used → d.limits (session_of r') ≡ d.limits (session_of r)
      → StepsOnBy d r r' read now given step → IfSome step.item (λ _. d.between (session_of r'))
      → TextGiven of_item (types (d.table (session_of r'))) step.item made
      → MakesOnward d (IsTextBy d of_item of_value) r r' read now given made
  step_made {made = made} stands some same st between l = (
    record {
      more = st.more;
      after = st.takes.after;
      onward = omega (arith, st.takes.onward);
      limits = same;
      stands = stands;
      made_of = λ bytes known. made_so stands made bytes known st.takes.after between st.gives l;
    },
    omega (arith, some, st.takes.onward),
  )

  -- of an item that waits as a whole
  pub whole_made : {r r' : ReaderOf X I} {read now : Option (List ℕ)} {given : List Told} {made : List ℕ} {used : ℕ}
      → StandsBy d (session_of r') → IsWholeText d of_value r used made
      → d.limits (session_of r') ≡ d.limits (session_of r) → d.table (session_of r') ≡ d.table (session_of r)
      → d.between (session_of r') → PassesOneBy d r r' used
      → HasReadBy d r read now given → MakesOnward d (IsTextBy d of_item of_value) r r' read now given made
  whole_made {r = r} {read = read} {now = now} {given = given} {made = made} {used = used} stands w same table between
      p h =
      let t = p read now given w.told h w.item.next in
      let some = w.item.some in
      let size = length-take-le used (waits_in r) w.item.within in (
        record {
          more = w.told ∷ [];
          after = t.after;
          onward = omega (arith, t.onward);
          limits = same;
          stands = stands;
          made_of = λ bytes known. next_so stands w.told made bytes known between
              (ap (λ x. types x) (sym table)) t.after (from_value w.is);
        },
        omega (arith, t.onward, some, size),
      )

  pub one_appended : {r q r' : ReaderOf X I} {read now : Option (List ℕ)} {given : List Told} {mid new made : List ℕ}
      {used : ℕ} (old : List ℕ) → StandsBy d (session_of r')
      → AppendsTexts d (IsTextBy d of_item of_value) r q read now given old mid
      → d.limits (session_of r') ≡ d.limits (session_of q) → d.table (session_of r') ≡ d.table (session_of q)
      → d.between (session_of r') → IsWholeText d of_value q used made → PassesOneBy d q r' used
      → new ≡ mid ++ made → AppendsTexts d (IsTextBy d of_item of_value) r r' read now given old new
  one_appended {made = made} old stands a same table between w p grown = (
    a.0 ++ made,
    both_made d a.1 (whole_made stands w same table between p a.1.after).0,
    grown ∙ ap (λ (l : List ℕ). l ++ made) a.2 ∙ append_assoc old a.0 made,
  )

-- ---- what a step handed out
module _ {X I Told : Type 0} (d : Stepping X I Told) where
  pub item_given : {r r' : ReaderOf X I} {read now : Option (List ℕ)} {given : List Told} {step : Advance I} (kept : I)
      → StepsOnBy d r r' read now given step → step.item ≡ Some kept
      → IfSome step.item (λ _. d.between (session_of r')) → IsGiven d (types (d.table (session_of r'))) kept
  item_given {r' = r'} {read = read} {now = now} {given = given} {step = step} kept st is between =
      by st.takes.after (subst (λ (o : Option I). IfSome o (λ _. d.between (session_of r'))) is between)
      (subst (λ (o : Option I). GivesItemsOf (d.means (types (d.table (session_of r')))) o st.more) is st.gives)
    where
      by : {more : List Told} → HasReadBy d r' read now (given ++ more) → d.between (session_of r')
          → GivesItemsOf (d.means (types (d.table (session_of r')))) (Some kept) more
          → IsGiven d (types (d.table (session_of r'))) kept
      by h between (gives_one {i = i} m) = record {
        session = session_of r';
        items = given;
        bytes = h.taken;
        item = i;
        read = h.gave;
        means = m;
        between = between;
        types = refl;
      }

  pub item_stops : {r r' : ReaderOf X I} {read now : Option (List ℕ)} {given : List Told} {step : Advance I}
      {stops : Table → I → ToolFault → Type 0} {f : ToolFault} (kept : I) → StepsOnBy d r r' read now given step
      → step.item ≡ Some kept → StandsBy d (session_of r') → IfSome step.item (λ _. d.between (session_of r'))
      → d.limits (session_of r') ≡ d.limits (session_of r) → stops (types (d.table (session_of r'))) kept f
      → StopsNext d (IsStopBy d stops) r r' read now given f
  item_stops {r = r} {r' = r'} {read = read} {now = now} {given = given} {stops = stops} {f = f} kept st is stands
      between same stop =
      by st.takes.after (subst (λ (o : Option I). IfSome o (λ _. d.between (session_of r'))) is between)
      (subst (λ (o : Option I). GivesItemsOf (d.means (types (d.table (session_of r')))) o st.more) is st.gives)
    where
      by : {more : List Told} → HasReadBy d r' read now (given ++ more) → d.between (session_of r')
          → GivesItemsOf (d.means (types (d.table (session_of r')))) (Some kept) more
          → StopsNext d (IsStopBy d stops) r r' read now given f
      by h between (gives_one {i = i} m) =
          stops_item i h stands between same (record { given = kept; means = m; stops = stop })
