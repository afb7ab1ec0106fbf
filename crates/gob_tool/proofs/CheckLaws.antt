-- How a run that counts goes on, and how it ends.
use Rattle.std.proofs.Common.{◌≡◌, ℕ, ◌+◌, ◌-◌, ◌<◌, ◌≤◌, arith, List, [], ◌∷◌, ◌++◌, length, Option}
use Rattle.std.proofs.Common.{Bool, true, Result, Ok, Err, ◌∙◌, ap, sym, subst, refl, length-append, append-nil}
use Rattle.std.specs.Io.KnownBytes.{Keeps}
use Rattle.std.specs.Result.{IsErrAnd}
use Rattle.std.proofs.KnownBytes.{Appends-kept}
use Rattle.gob_types.specs.Defined.{definition_count}
use Rattle.gob_types.specs.Table.{Table}
use Rattle.gob_stream.specs.Body.{Body, definition, value}
use Rattle.gob_stream.specs.Bounds.{Bounds, AreLimits, deepest}
use Rattle.gob_stream.specs.Calls.ReaderOf.{EndsWithIn, FillsBy, HasReadBy, PassesBy, StepsOnBy, StopsBy, StopsIn}
use Rattle.gob_stream.specs.Calls.ReaderOf.{session_of}
use Rattle.gob_stream.specs.Devices.{counts_up}
use Rattle.gob_stream.specs.Grammar.{Grammar, StreamIn}
use Rattle.gob_stream.specs.Item.{StreamItem}
use Rattle.gob_stream.specs.Outcome.{strict}
use Rattle.gob_stream.specs.Reading.{CountsReads}
use Rattle.gob_stream.specs.Stepping.{GivesItemsOf, gives_none, gives_one, StandsBy, Stepping}
use Rattle.gob_stream.specs.Stream.{AreItems, no_more, and_then, counted}
use Rattle.gob_stream.specs.declared.fault.Fault.{Fault}
use Rattle.gob_stream.specs.declared.fault.Fault.TheVariants as reading
use Rattle.gob_stream.specs.declared.reader_of.ReaderOf.{ReaderOf}
use Rattle.gob_stream.specs.declared.session.Advance.{Advance}
use Rattle.gob_stream.specs.declared.values.Passed.{Passed}
use Rattle.gob_stream.proofs.Reader.ReaderOfLaws.{goes_on}
use Rattle.gob_tool.specs.Checking.{ChecksIn, counts_line, definitions_in, IsCountedIn, IsNoStreamIn, is_accepted}
use Rattle.gob_tool.specs.Checking.{is_cut, is_stopped, definitions_behind}
use Rattle.gob_tool.specs.Ending.{EndsRun, ends_so, flush_fails}
use Rattle.gob_tool.specs.Fault.{reading_fault}
use Rattle.gob_tool.specs.Machine.Counting.{CountsCounting, CountsNext, CountsOn, CountsSo, EndsCountingIn, given_count}
use Rattle.gob_tool.specs.declared.fault.ToolFault.{ToolFault}
use Rattle.gob_tool.specs.declared.check.Tally.{Tally}
use Rattle.gob_tool.proofs.EndLaws.{prefix_kept}

-- ---- definitions
body_defines : {base : Table} {L : Bounds} {T U : Table} {i : StreamItem} {d : List ℕ} → Body base L T i d U
    → length U ≡ length T + definitions_in (i ∷ [])
body_defines {T = T} (definition {id = id} {s = s} p l x n q k) = omega (arith, length-append T ((id, s) ∷ []))
body_defines (value p l n k) = omega arith

one_first : (i : StreamItem) (items : List StreamItem) → definitions_in (i ∷ items)
    ≡ definitions_in items + definitions_in (i ∷ [])
one_first (StreamItem.defines id v) items = omega arith
one_first (StreamItem.puts id v) items = omega arith

-- a stream defines so many types
stream_defines : {base : Table} {L : Bounds} {T U : Table} {offset : ℕ} {items : List StreamItem} {b : List ℕ}
    → AreItems base L T offset items b U → length U ≡ length T + definitions_in items
stream_defines no_more = omega arith
stream_defines (and_then {i = i} {items = items} (counted u l s p) e r) =
    let one = body_defines p in
    let rest = stream_defines r in
    omega (arith, one_first i items, one, rest)

pub limits_as : {L M : Bounds} → L ≡ M → AreLimits deepest M → AreLimits deepest L
limits_as same l = subst (λ (L : Bounds). AreLimits deepest L) (sym same) l

no_items : {Told : Type 0} (items : List Told) → length items ≡ 0 → items ≡ []
no_items [] l = refl
no_items (i ∷ items) l = absurd (omega arith)

module _ {X I Told : Type 0} (d : Stepping X I Told) where
  -- ---- from turn to turn
  pub counts_first : (r : ReaderOf X I) (read : Option (List ℕ)) → HasReadBy d r read read []
      → d.taken (session_of r) ≡ 0 → CountsSo d r read read 0 0
  counts_first r read has none = record { given = []; has = has; items_are = refl; bytes_are = sym none }

  counts_on : {r r' : ReaderOf X I} {read now : Option (List ℕ)} {n m : ℕ} (given : List Told) (passed : Passed)
      → n ≡ length given → m ≡ d.taken (session_of r) → CountsOn d r r' read now given passed
      → CountsSo d r' read now (n + passed.items) (m + passed.used)
  counts_on given passed items bytes on = record {
    given = given ++ on.more;
    has = on.takes.after;
    items_are = omega (arith, items, on.counted, length-append given on.more);
    bytes_are = omega (arith, bytes, on.takes.onward);
  }

  -- items of values that stand whole
  pub counts_passed : {r r' : ReaderOf X I} {read now : Option (List ℕ)} {given : List Told} {passed : Passed}
      → (p : PassesBy d r r' passed) → HasReadBy d r read now given → CountsOn d r r' read now given passed
  counts_passed {read = read} {now = now} {given = given} p h =
      record { more = p.more; counted = p.counted; takes = p.each read now given h }

  -- none of them
  pub passes_none : {r r' : ReaderOf X I} {read now : Option (List ℕ)} {given : List Told} {passed : Passed}
      → PassesBy d r r' passed → passed.items ≡ 0 → HasReadBy d r read now given
      → HasReadBy d r' read now given × (d.taken (session_of r') ≡ d.taken (session_of r))
  passes_none {r' = r'} {read = read} {now = now} {given = given} p none h =
      let t = p.each read now given h in
      let empty = no_items p.more (omega (arith, none, p.counted)) in (
        subst (λ l. HasReadBy d r' read now l) (ap (λ l. given ++ l) empty ∙ append-nil given) t.after,
        omega (arith, t.onward, p.none none),
      )

  -- as many items as a step gave
  given_so : {means : I → Told → Type 0} {o : Option I} {more : List Told} → GivesItemsOf means o more
      → given_count o ≡ length more
  given_so gives_none = refl
  given_so (gives_one m) = refl

  pub counts_step : {r q r' : ReaderOf X I} {read now : Option (List ℕ)} {given : List Told} {step : Advance I}
      (passed : Passed) → d.taken (session_of q) ≡ d.taken (session_of r) → StepsOnBy d q r' read now given step
      → passed.used ≡ step.used → passed.items ≡ given_count step.item → CountsOn d r r' read now given passed
  counts_step passed same st used items = record {
    more = st.more;
    counted = items ∙ given_so st.gives;
    takes = record { after = st.takes.after; onward = omega (arith, same, st.takes.onward, used) };
  }

  -- what stops it, in the words of the session as it was before
  stops_still : (s t : X) (T : Table) (read now : Option (List ℕ)) (given : List Told) (e : Fault)
      → d.limits t ≡ d.limits s → StopsBy d t T read now given e → StopsBy d s T read now given e
  stops_still s t T read now given e same f = λ bytes known.
      subst (λ (L : Bounds). StopsIn d.grammar (d.within L) T given bytes now e) same (f bytes known)

  -- a step stopped
  pub next_stops : (r q r' : ReaderOf X I) (T : Table) (read now : Option (List ℕ)) (given : List Told)
      (res : Result Passed Fault) (e : Fault) → IsErrAnd res (λ x. x ≡ e)
      → d.limits (session_of q) ≡ d.limits (session_of r) → StopsBy d (session_of q) T read now given e
      → CountsNext d r r' read now given res
  next_stops r q r' T read now given (Ok passed) e is same h = absurd is
  next_stops r q r' T read now given (Err f) e is same h = (
    T,
    subst (λ e. StopsBy d (session_of r) T read now given e) (sym is)
        (stops_still (session_of r) (session_of q) T read now given e same h),
  )

  -- what was counted with a turn of the loop
  pub counts_turn : {r : ReaderOf X I} {read now : Option (List ℕ)} {n m : ℕ} (T : Table) (q r' : ReaderOf X I)
      (next : Option (List ℕ)) (more : Bool) (passed : Passed) → more ≡ true → (i : CountsSo d r read now n m)
      → FillsBy d (session_of r) T q read next i.given (Ok more)
      → ((read now : Option (List ℕ)) (given : List Told) → HasReadBy d q read now given
      → CountsNext d q r' read now given (Ok passed)) → CountsSo d r' read next (n + passed.items) (m + passed.used)
  counts_turn {r = r} {read = read} T q r' next more passed e i f next_so =
      let on = goes_on d (session_of r) T q read next i.given more e f in
      counts_on i.given passed i.items_are (i.bytes_are ∙ sym on.1) (next_so read next i.given on.0)

  -- no more items and bytes than the limit for the stream, and a count
  pub counts_end : {r : ReaderOf X I} {read now : Option (List ℕ)} {n m : ℕ} → StandsBy d (session_of r)
      → CountsSo d r read now n m
      → (n ≤ (d.limits (session_of r)).stream + 9) × (m ≤ (d.limits (session_of r)).stream + 9)
  counts_end stands i =
      let few = stands.few i.given i.has.taken i.has.gave in
      (omega (arith, few.0, few.1, i.items_are), omega (arith, few.1, i.bytes_are))

  -- the two counts rise, and no further than that
  pub counts_fall : {r r' : ReaderOf X I} {read now later : Option (List ℕ)} {n m : ℕ} (j k : ℕ)
      → StandsBy d (session_of r') → d.limits (session_of r') ≡ d.limits (session_of r) → CountsSo d r read now n m
      → CountsSo d r' read later (n + j) (m + k) → 0 < j + k
      → ((d.limits (session_of r')).stream + 9 - (n + j)) + ((d.limits (session_of r')).stream + 9 - (m + k))
      < ((d.limits (session_of r)).stream + 9 - n) + ((d.limits (session_of r)).stream + 9 - m)
  counts_fall j k stands same h on more =
      let stream = ap (λ (L : Bounds). L.stream) same in
      let ends = counts_end stands on in
      omega (arith, ends.0, ends.1, stream, more)

-- ---- what reads count
pub counting_stops : (B : Type 0) (old mid new : ℕ) (e : Fault) → mid ≡ old → CountsReads {A = B} mid new (Err e)
    → CountsCounting {A = Tally} old new (Err (reading_fault e))
counting_stops B old mid new (reading.Refused R) same h = h ∙ same
counting_stops B old mid new reading.Read same h = h.0 ∙ ap (λ n. counts_up n 1) same
counting_stops B old mid new reading.Memory same h = h ∙ same
counting_stops B old mid new reading.Failed same h = h ∙ same

-- where no read failed
pub counting_unread : (old new : ℕ) (e : Fault) → new ≡ old → (e ≡ reading.Read → ⊥)
    → CountsCounting {A = Tally} old new (Err (reading_fault e))
counting_unread old new (reading.Refused R) same other = same
counting_unread old new reading.Read same other = absurd (other refl)
counting_unread old new reading.Memory same other = same
counting_unread old new reading.Failed same other = same

-- ---- the ends
module _ {Told : Type 0} (G : Grammar Told) where
  pub counted_whole : {L : Bounds} {T : Table} {items : List Told} {bytes : List ℕ} {now : Option (List ℕ)} {taken : ℕ}
      (tally : Tally) → tally.items ≡ length items → tally.types ≡ definition_count T → tally.bytes ≡ taken
      → EndsWithIn G L T taken items bytes now → EndsCountingIn G L bytes now (Ok tally)
  counted_whole {T = T} {items = items} {bytes = bytes} tally items_so types_so bytes_are e =
      let bytes_so : tally.bytes ≡ length bytes = bytes_are ∙ e.count in
      record {
        items = items;
        table = T;
        stream = e.stream;
        end = e.end;
        holds = ap (λ (k : ℕ). counts_line k tally.types tally.bytes) items_so
            ∙ ap (λ (k : ℕ). counts_line (length items) k tally.bytes) types_so
            ∙ ap (λ (k : ℕ). counts_line (length items) (definition_count T) k) bytes_so;
      }

  pub counted_stops : (L : Bounds) (T : Table) (items : List Told) (bytes : List ℕ) (now : Option (List ℕ)) (e : Fault)
      → StopsIn G L T items bytes now e → IsNoStreamIn G L bytes now (reading_fault e)
  counted_stops L T items bytes now (reading.Refused R) h = (items, h.outcome)
  counted_stops L T items bytes now reading.Read h = record
      { bytes = h.bytes; taken = h.taken; holds = (items, h.holds.gives) }
  counted_stops L T items bytes now reading.Memory h = tt
  counted_stops L T items bytes now reading.Failed h = absurd h

  module _ {defined : List Told → Table → ℕ} where
    -- ---- the run
    counted_as : {L : Bounds} {bytes : List ℕ} {now : Option (List ℕ)} {P Q : List ℕ → Type 0}
        → IsCountedIn G defined L bytes now P → ((line : List ℕ) → P line → Q line)
        → IsCountedIn G defined L bytes now Q
    counted_as c f = record { items = c.items; table = c.table; stream = c.stream; end = c.end; holds = f _ c.holds }

    -- what went out of the line that was written
    pub written_as : {L : Bounds} {bytes : List ℕ} {now : Option (List ℕ)} (Q : List ℕ → Type 0) (text out : List ℕ)
        → IsCountedIn G defined L bytes now (λ line. text ≡ line) → out ≡ text → Q out
        → IsCountedIn G defined L bytes now Q
    written_as Q text out c same q = counted_as c (λ line e. subst Q (same ∙ e) q)

    -- behind the flush
    checks_kept : {L : Bounds} {bytes : List ℕ} {now : Option (List ℕ)} (old mid new : Option (List ℕ))
        {r : Result (Unit {0}) ToolFault} → Keeps mid new → ChecksIn G defined L bytes now old mid r
        → ChecksIn G defined L bytes now old new r
    checks_kept old mid new k (is_accepted c) = is_accepted (counted_as c (λ line a. Appends-kept old mid new line a k))
    checks_kept old mid new k (is_cut c) = is_cut (counted_as c (λ line a. prefix_kept old mid new line a k))
    checks_kept old mid new k (is_stopped n a) = is_stopped n (Appends-kept old mid new [] a k)

    pub checks_ended : (L : Bounds) (bytes : List ℕ) (now old mid new : Option (List ℕ))
        (answer result : Result (Unit {0}) ToolFault) → Keeps mid new → EndsRun answer result
        → ChecksIn G defined L bytes now old mid answer → ChecksIn G defined L bytes now old new result
    checks_ended L bytes now old mid new answer result k (ends_so e) h =
        subst (λ r. ChecksIn G defined L bytes now old new r) (sym e) (checks_kept old mid new k h)
    checks_ended L bytes now old mid new answer result k (flush_fails o e) (is_accepted c) =
        subst (λ r. ChecksIn G defined L bytes now old new r) (sym e)
        (is_cut (counted_as c (λ line a. record
        { prefix = line; rest = []; whole = sym (append-nil line); out = Appends-kept old mid new line a k })))
    checks_ended L bytes now old mid new answer result k (flush_fails o e) (is_cut c) = cc
    checks_ended L bytes now old mid new answer result k (flush_fails o e) (is_stopped n a) = cc

    -- where the items define as many types by another count
    counted_by : {other : List Told → Table → ℕ} {L : Bounds} {bytes : List ℕ} {now : Option (List ℕ)}
        {P : List ℕ → Type 0} → ((items : List Told) (bytes : List ℕ) (T : Table) → StreamIn G L items bytes T
        → defined items T ≡ other items T) → IsCountedIn G defined L bytes now P → IsCountedIn G other L bytes now P
    counted_by {bytes = bytes} {P = P} same c = record {
      items = c.items;
      table = c.table;
      stream = c.stream;
      end = c.end;
      holds = subst (λ (k : ℕ). P (counts_line (length c.items) k (length bytes)))
          (same c.items bytes c.table c.stream) c.holds;
    }

    pub checks_by : {other : List Told → Table → ℕ} {L : Bounds} {bytes : List ℕ} {now old new : Option (List ℕ)}
        {r : Result (Unit {0}) ToolFault}
        → ((items : List Told) (bytes : List ℕ) (T : Table) → StreamIn G L items bytes T
        → defined items T ≡ other items T) → ChecksIn G defined L bytes now old new r
        → ChecksIn G other L bytes now old new r
    checks_by same (is_accepted c) = is_accepted (counted_by same c)
    checks_by same (is_cut c) = is_cut (counted_by same c)
    checks_by same (is_stopped n a) = is_stopped n a

-- a stream of the format
pub defined_so : {L : Bounds} (items : List StreamItem) (bytes : List ℕ) (T : Table) → StreamIn strict L items bytes T
    → definitions_behind items T ≡ definitions_in items
defined_so items bytes T s = let defined = stream_defines s in omega (arith, defined)
