-- How the run ends that prints parts, and how it goes on from item to item.
use Rattle.std.proofs.Common.{◌≡◌, ℕ, ◌+◌, ◌-◌, ◌<◌, ◌≤◌, Bool, true, false, List, [], ◌∷◌, ◌++◌, Option, Some, Result}
use Rattle.std.proofs.Common.{Ok, Err, IfErr, IfOk, inl, arith, refl, sym, ap, ◌∙◌, subst, append-nil, length}
use Rattle.std.proofs.Common.{length-append}
use Rattle.std.proofs.KnownBytes.{Appends-kept}
use Rattle.std.specs.Io.KnownBytes.{Appends, Consumes, Keeps}
use Rattle.gob_types.specs.Defined.{Defined, types}
use Rattle.gob_types.specs.Table.{Table}
use Rattle.gob_stream.specs.Bounds.{Bounds, within_trees}
use Rattle.gob_stream.specs.Calls.ReaderOf.{EndsWithIn, HasReadBy, ahead_of, most_ahead, room_in, types_behind}
use Rattle.gob_stream.specs.Calls.ReaderOf.{waits_in}
use Rattle.gob_stream.specs.Calls.Waiting.{room_for, waiting}
use Rattle.gob_stream.specs.Devices.{counts_up}
use Rattle.gob_stream.specs.Stepping.{Stepping}
use Rattle.gob_stream.specs.declared.reader_of.Ahead.{Ahead}
use Rattle.gob_stream.specs.declared.reader_of.ReaderOf.{ReaderOf}
use Rattle.gob_stream.specs.Grammar.{BeginsIn}
use Rattle.gob_stream.specs.Reading.{CountsReads}
use Rattle.gob_stream.specs.declared.fault.Fault.{Fault}
use Rattle.gob_stream.specs.declared.fault.Fault.TheVariants as reading
use Rattle.gob_stream.proofs.Reader.ReaderOfLaws.{read_so}
use Rattle.gob_filled.specs.Outcome.{profile}
use Rattle.gob_filled.specs.Stream.{FilledItem}
use Rattle.gob_go.specs.Calls.Reader.{GoReader, session_of}
use Rattle.gob_go.specs.Calls.Session.{IsBetweenItems, limits_of, table_of, taken_of, types_of}
use Rattle.gob_go.specs.GoStepping.{go_stepping, passing_stepping}
use Rattle.gob_go.specs.Meaning.{ItemMeans}
use Rattle.gob_go.proofs.SessionAnswers.{stands}
use Rattle.gob_tool.specs.Answering.{AppendsPrefix, RunAnswersIn}
use Rattle.gob_tool.specs.Ending.{CountsOnlyWrites, EndsRun, ends_so, flush_fails}
use Rattle.gob_tool.specs.Fault.{reading_fault}
use Rattle.gob_tool.specs.Machine.Texts.{MakesTexts, WritesNext, bounds_of}
use Rattle.gob_tool.specs.Showing.{CountsReadFaults}
use Rattle.gob_filled.proofs.Items.{one_filled_item}
use Rattle.gob_tool.specs.Texts.{HaveTexts, IsStopBy, OfTexts, TextsAnswersIn, from_item, from_value, no_texts}
use Rattle.gob_tool.specs.Texts.{of_held, of_unfilled, texts_then}
use Rattle.gob_tool.specs.declared.fault.ToolFault.{ToolFault}
use Rattle.gob_tool.specs.declared.fault.ToolFault.TheVariants as fault
use Rattle.gob_tool.proofs.EndLaws.{all_kept, prefix_kept}
use Rattle.gob_tool.proofs.Profile.TextLaws.{texts_of}
use Rattle.gob_tool.proofs.TextLaws.{begun, ended_begins, no_memory, runs_as, runs_begun, shown_stops, unstopped}
use Rattle.gob_views.specs.Each.{EachAnswers, OfLines, nothing_begun}
use Rattle.gob_views.specs.Machine.PartStream.{CountsOnlyReads, FillsTexts, HasBegunParts, IsLineBy, IsUnfilledLine}
use Rattle.gob_views.specs.Machine.PartStream.{PrintsItem, PrintsOn, PrintsValue, StopsPrinting, WritesLines}
use Rattle.gob_views.specs.Machine.PartStream.{WritesOnward}
use Rattle.gob_views.specs.Values.{IsPlainLine}
use Rattle.gob_views.specs.declared.part_stream.BegunParts.{BegunParts}
use Rattle.gob_views.specs.declared.value_line.ValueLines.{ValueLines}

line_of : {lines : ValueLines} {T : Table} {i : FilledItem} {text : List ℕ} → IsLineBy lines T i text
    → IsPlainLine lines T i text
line_of (from_item {i = i} m f) = f i m
line_of (from_value (of_unfilled is)) = is
line_of {lines = lines} {T = T} {text = text} (from_value (of_held h p q is)) =
    subst (λ (i : FilledItem). IsPlainLine lines T i text) (sym (one_filled_item [] [] p q refl).0) is

pub plain_texts : {lines : ValueLines} {L : Bounds} {bytes text : List ℕ} {items : List FilledItem}
    → HaveTexts profile (IsLineBy lines) L bytes items text → HaveTexts profile (IsPlainLine lines) L bytes items text
plain_texts no_texts = no_texts
plain_texts (texts_then i more h b is) = texts_then i more (plain_texts h) b (line_of is)

pub plain_of : {lines : ValueLines} {L : Bounds} {bytes : List ℕ} {P : List ℕ → Type 0} {items : List FilledItem}
    → OfTexts profile (IsLineBy lines) L bytes P items → OfTexts profile (IsPlainLine lines) L bytes P items
plain_of o = record { text = o.text; texts = plain_texts o.texts; holds = o.holds }

-- with nothing of an item that has begun
none_begun : {lines : ValueLines} {L : Bounds} {bytes : List ℕ} {P : List ℕ → Type 0} (T : Table)
    (items : List FilledItem) → (b : BeginsIn profile L bytes items)
    → OfTexts profile (IsLineBy lines) L bytes P items → OfLines lines L bytes P items
none_begun {P = P} T items b o = record {
  begins = b;
  text = o.text;
  texts = plain_texts o.texts;
  begun = [];
  begun_is = nothing_begun;
  holds = subst P (sym (append-nil o.text)) o.holds;
}

pub each_of : (lines : ValueLines) (L : Bounds) (bytes : List ℕ) (now old new : Option (List ℕ))
    (r : Result (Unit {0}) ToolFault) → TextsAnswersIn profile (IsLineBy lines) L bytes now old new r
    → EachAnswers lines L bytes now old new r
each_of lines L bytes now old new (Ok u) h = texts_of (IsPlainLine lines) L bytes now old new (Ok u) h
each_of lines L bytes now old new (Err f) h =
    runs_begun profile L bytes now (λ T items. OfTexts profile (IsLineBy lines) L bytes (Appends old new) items)
    (λ T items. OfLines lines L bytes (Appends old new) items)
    (λ T items. OfTexts profile (IsLineBy lines) L bytes (AppendsPrefix old new) items)
    (λ T items. OfLines lines L bytes (AppendsPrefix old new) items) (Err f) h none_begun none_begun

-- ---- the flush at the end
lines_as : {lines : ValueLines} {L : Bounds} {bytes : List ℕ} {P Q : List ℕ → Type 0}
    → ((text : List ℕ) → P text → Q text) → (T : Table) (items : List FilledItem) → OfLines lines L bytes P items
    → OfLines lines L bytes Q items
lines_as f T items o = record {
  begins = o.begins;
  text = o.text;
  texts = o.texts;
  begun = o.begun;
  begun_is = o.begun_is;
  holds = f (o.text ++ o.begun) o.holds;
}

kept_so : (lines : ValueLines) (L : Bounds) (bytes : List ℕ) (now old mid new : Option (List ℕ))
    (r : Result (Unit {0}) ToolFault) → Keeps mid new → EachAnswers lines L bytes now old mid r
    → EachAnswers lines L bytes now old new r
kept_so lines L bytes now old mid new (Ok u) k h =
    runs_as profile L bytes now (λ T items. OfTexts profile (IsPlainLine lines) L bytes (Appends old mid) items)
    (λ T items. OfTexts profile (IsPlainLine lines) L bytes (Appends old new) items)
    (λ T items. OfTexts profile (IsPlainLine lines) L bytes (AppendsPrefix old mid) items)
    (λ T items. OfTexts profile (IsPlainLine lines) L bytes (AppendsPrefix old new) items) (Ok u) h
    (λ T items o. record
    { text = o.text; texts = o.texts; holds = Appends-kept old mid new o.text o.holds k })
    (λ T items o. record { text = o.text; texts = o.texts; holds = prefix_kept old mid new o.text o.holds k })
kept_so lines L bytes now old mid new (Err f) k h =
    runs_as profile L bytes now (λ T items. OfLines lines L bytes (Appends old mid) items)
    (λ T items. OfLines lines L bytes (Appends old new) items)
    (λ T items. OfLines lines L bytes (AppendsPrefix old mid) items)
    (λ T items. OfLines lines L bytes (AppendsPrefix old new) items) (Err f) h
    (lines_as (λ text a. Appends-kept old mid new text a k)) (lines_as (λ text a. prefix_kept old mid new text a k))

pub each_ended : (lines : ValueLines) (L : Bounds) (bytes : List ℕ) (now old mid new : Option (List ℕ))
    (answer result : Result (Unit {0}) ToolFault) → Keeps mid new → EndsRun answer result
    → EachAnswers lines L bytes now old mid answer → EachAnswers lines L bytes now old new result
each_ended lines L bytes now old mid new answer result k (ends_so e) h =
    subst (λ r. EachAnswers lines L bytes now old new r) (sym e) (kept_so lines L bytes now old mid new answer k h)
each_ended lines L bytes now old mid new answer result k (flush_fails o e) h =
    subst (λ r. EachAnswers lines L bytes now old new r) (sym e)
    (runs_begun profile L bytes now (λ T items. ⊥) (λ T items. ⊥)
    (λ T items. OfTexts profile (IsPlainLine lines) L bytes (AppendsPrefix old new) items)
    (λ T items. OfLines lines L bytes (AppendsPrefix old new) items) (Err fault.Write)
    (ended_begins profile (subst (λ r. EachAnswers lines L bytes now old mid r) o h)
    (λ T items t. record { text = t.text; texts = t.texts; holds = all_kept old mid new t.text t.holds k }))
    (λ T items b h. h) (λ T items b t. record {
      begins = b;
      text = t.text;
      texts = t.texts;
      begun = [];
      begun_is = nothing_begun;
      holds = subst (AppendsPrefix old new) (sym (append-nil t.text)) t.holds;
    }))

-- ---- an item that was printed while it was read
pub item_made : {lines : ValueLines} {r r' : GoReader} {read now : Option (List ℕ)} {given : List FilledItem}
    {made : List ℕ} → PrintsItem go_stepping lines r r' read now given made
    → limits_of (session_of r') ≡ limits_of (session_of r) → IsBetweenItems (session_of r')
    → MakesTexts go_stepping (IsLineBy lines) r r' read now given made
item_made {lines = lines} {r' = r'} {given = given} {made = made} p limits between =
    let onward = p.onward in
    let there = stands true (λ T given i. ItemMeans T given i) (session_of r') in
    record {
      more = p.item ∷ [];
      after = p.after;
      onward = omega (arith, onward);
      limits = limits;
      stands = there;
      made_of = λ bytes known text h.
          let b = begun go_stepping there.gives bytes p.after known in
          let u = p.line bytes known in
          let table : b.0.table ≡ types_of (session_of r') =
          b.1 ∙ there.settled (given ++ p.item ∷ []) p.after.taken p.after.gave between in
          texts_then p.item made h b.0
          (subst (λ (T : Table). IsLineBy lines T p.item made) (sym table)
          (subst (λ (i : FilledItem). IsLineBy lines (types_of (session_of r')) i made) (sym u.is)
          (from_value (of_unfilled {id = u.id} {v = u.value} u.line))));
    }

-- ---- what is counted
pub fill_counts : (B A : Type 0) (old new : ℕ) (e : Fault) → CountsReads {A = A} old new (Err e)
    → CountsOnlyReads {A = B} old new (Err (reading_fault e))
fill_counts B A old new (reading.Refused R) h = h
fill_counts B A old new reading.Read h = h.0
fill_counts B A old new reading.Memory h = h
fill_counts B A old new reading.Failed h = h

-- where none was read
pub no_reads : (A : Type 0) (old new : ℕ) (f : ToolFault) → (f ≡ fault.Read → ⊥) → new ≡ old
    → CountsOnlyReads {A = A} old new (Err f)
no_reads A old new (fault.Refused R) other same = same
no_reads A old new fault.Read other same = absurd (other refl)
no_reads A old new fault.Write other same = same
no_reads A old new fault.Memory other same = same
no_reads A old new (fault.Wanted R) other same = same
no_reads A old new fault.NoWantedType other same = same
no_reads A old new (fault.Clash path reason) other same = same
no_reads A old new (fault.LeftOut path number) other same = same

-- ---- the reader between two items goes on with another session
pub as_other : {X Y I J Told : Type 0} (d : Stepping X I Told) (e : Stepping Y J Told) {r : ReaderOf X I}
    {s : ReaderOf Y J} {read now : Option (List ℕ)} {given : List Told} (h : HasReadBy d r read now given)
    → ahead_of s ≡ ahead_of r → e.read (session_of s) given h.taken
    → e.limits (session_of s) ≡ d.limits (session_of r) → HasReadBy e s read now given
as_other d e {r = r} {s = s} {read = read} {now = now} h same gave limits = record {
  taken = h.taken;
  input = subst (λ (l : List ℕ). Consumes read now (h.taken ++ l)) (sym (ap (λ (a : Ahead). waiting a.waiting) same))
      h.input;
  gave = gave;
  end = λ ended. h.end (sym (ap (λ (a : Ahead). a.ended) same) ∙ ended);
  room = subst (λ (L : Bounds). room_in s ≤ most_ahead L) (sym limits)
      (subst (λ (n : ℕ). n ≤ most_ahead (d.limits (session_of r))) (sym (ap (λ (a : Ahead). room_for a.waiting) same))
      h.room);
}

-- ---- between the two readers
pub begun_there : {lines : ValueLines} {begun : BegunParts} {L M : Bounds} {T U : Table} {w x : List ℕ} → L ≡ M → T ≡ U
    → w ≡ x → ((behind : List ℕ) → HasBegunParts lines (within_trees M) U begun (x ++ behind)) → (behind : List ℕ)
    → HasBegunParts lines (within_trees L) T begun (w ++ behind)
begun_there {lines = lines} {begun = begun} {L = L} {T = T} {U = U} {x = x} limits table waits h behind =
    subst (λ (w : List ℕ). HasBegunParts lines (within_trees L) T begun (w ++ behind)) (sym waits)
    (subst (λ (T : Table). HasBegunParts lines (within_trees L) T begun (x ++ behind)) (sym table)
    (subst (λ (L : Bounds). HasBegunParts lines (within_trees L) U begun (x ++ behind)) (sym limits) (h behind)))

pub stops_as : (lines : ValueLines) (r s : GoReader) (read now : Option (List ℕ)) (given : List FilledItem)
    (old new : Option (List ℕ)) (f : ToolFault) → limits_of (session_of s) ≡ limits_of (session_of r)
    → StopsPrinting passing_stepping lines s read now given old new f
    → StopsPrinting go_stepping lines r read now given old new f
stops_as lines r s read now given old new f same h = λ bytes known start o.
    subst (λ (L : Bounds). RunAnswersIn profile (within_trees L) bytes now
    (λ T items. OfLines lines (within_trees L) bytes (Appends start new) items)
    (λ T items. OfLines lines (within_trees L) bytes (AppendsPrefix start new) items) (Err f)) same
    (h bytes known start (subst (λ (L : Bounds). OfTexts profile (IsPlainLine lines) (within_trees L) bytes
    (Appends start old) given) (sym same) o))

pub prints_as : {lines : ValueLines} {r r' s s' : GoReader} {read now : Option (List ℕ)} {given : List FilledItem}
    (old new : Option (List ℕ)) → taken_of (session_of s) ≡ taken_of (session_of r)
    → taken_of (session_of r') ≡ taken_of (session_of s') → table_of (session_of r') ≡ table_of (session_of s')
    → ((given : List FilledItem) → HasReadBy passing_stepping s' read now given
    → HasReadBy go_stepping r' read now given) → PrintsOn passing_stepping lines s s' read now given old new
    → PrintsOn go_stepping lines r r' read now given old new
prints_as {lines = lines} {given = given} old new was is table has p =
    let q = p.1 in
    let onward = q.onward in (
      p.0,
      record {
        item = q.item;
        after = has (given ++ q.item ∷ []) q.after;
        onward = omega (arith, onward, was, is);
        line = λ bytes known. subst (λ (T : Table). IsUnfilledLine lines T q.item p.0)
            (sym (ap (λ (d : Defined). types d) table)) (q.line bytes known);
      },
      p.2,
    )

-- ---- items that were whole
-- no byte was taken before
pub onward_from : {lines : ValueLines} {r q r' : GoReader} {read now : Option (List ℕ)} {given : List FilledItem}
    (old new : Option (List ℕ)) → taken_of (session_of q) ≡ taken_of (session_of r)
    → limits_of (session_of q) ≡ limits_of (session_of r) → WritesOnward lines q r' read now given old new
    → WritesOnward lines r r' read now given old new
onward_from old new same limits w =
    let m = w.1.0 in
    let onward = w.1.1 in (
      w.0,
      (
        record {
          more = m.more;
          after = m.after;
          onward = omega (arith, onward, same);
          limits = m.limits ∙ limits;
          stands = m.stands;
          made_of = m.made_of;
        },
        omega (arith, onward, same),
      ),
      w.2,
    )

-- while bytes wait the input hasn't ended
pub waits_on : {r : GoReader} {read now next : Option (List ℕ)} {given : List FilledItem} {L : Bounds} {T : Table}
    (bytes : List ℕ) → HasReadBy go_stepping r read now given → read ≡ Some bytes → 0 < length (waits_in r)
    → EndsWithIn profile L T (taken_of (session_of r)) given bytes next → ⊥
waits_on {r = r} bytes h known some e =
    let t = read_so go_stepping bytes h known in
    let size = h.gave.taken in
    let count = e.count in
    omega (
      arith,
      some,
      size,
      count,
      ap length t.whole,
      length-append (h.taken ++ waits_in r) t.left,
      length-append h.taken (waits_in r),
    )

-- under other limits by name
pub texts_from : (lines : ValueLines) (r q : GoReader) (bytes : List ℕ) (now old start new : Option (List ℕ))
    (given : List FilledItem) (f : ToolFault) → limits_of (session_of q) ≡ limits_of (session_of r)
    → (OfTexts profile (IsLineBy lines) (bounds_of go_stepping q) bytes (Appends start old) given
    → TextsAnswersIn profile (IsLineBy lines) (bounds_of go_stepping q) bytes now start new (Err f))
    → OfTexts profile (IsLineBy lines) (bounds_of go_stepping r) bytes (Appends start old) given
    → TextsAnswersIn profile (IsLineBy lines) (bounds_of go_stepping r) bytes now start new (Err f)
texts_from lines r q bytes now old start new given f same h =
    subst (λ (L : Bounds). OfTexts profile (IsLineBy lines) (within_trees L) bytes (Appends start old) given
    → TextsAnswersIn profile (IsLineBy lines) (within_trees L) bytes now start new (Err f)) same h

-- of an item that was printed, or of those that were whole
pub printed_onward : {lines : ValueLines} {r r' : GoReader} {read now : Option (List ℕ)} {given : List FilledItem}
    (old new : Option (List ℕ)) → PrintsOn go_stepping lines r r' read now given old new
    → limits_of (session_of r') ≡ limits_of (session_of r) → IsBetweenItems (session_of r')
    → WritesOnward lines r r' read now given old new
printed_onward old new p limits between = (p.0, (item_made p.1 limits between, p.1.onward), p.2)

pub lines_of_printed : (lines : ValueLines) (r : GoReader) (read now : Option (List ℕ)) (given : List FilledItem)
    (old new : Option (List ℕ)) (res : Result GoReader ToolFault)
    → IfOk res (λ next. limits_of (session_of next) ≡ limits_of (session_of r))
    → IfOk res (λ next. IsBetweenItems (session_of next)) → PrintsValue lines r read now given old new res
    → WritesLines lines r read now given old new res
lines_of_printed lines r read now given old new (Ok r') limits between p = printed_onward old new p limits between
lines_of_printed lines r read now given old new (Err f) limits between p = λ bytes known start o.
    p bytes known start (plain_of o)

-- ---- what is counted, by a result of another kind
pub reads_as : (A B : Type 0) (old new : ℕ) (f : ToolFault) → CountsOnlyReads {A = A} old new (Err f)
    → CountsOnlyReads {A = B} old new (Err f)
reads_as A B old new (fault.Refused R) h = h
reads_as A B old new fault.Read h = h
reads_as A B old new fault.Write h = h
reads_as A B old new fault.Memory h = h
reads_as A B old new (fault.Wanted R) h = h
reads_as A B old new fault.NoWantedType h = h
reads_as A B old new (fault.Clash path reason) h = h
reads_as A B old new (fault.LeftOut path number) h = h

pub writes_as : (A B : Type 0) (old new : ℕ) (f : ToolFault) → CountsOnlyWrites {A = A} old new (Err f)
    → CountsOnlyWrites {A = B} old new (Err f)
writes_as A B old new (fault.Refused R) h = h
writes_as A B old new fault.Read h = h
writes_as A B old new fault.Write h = h
writes_as A B old new fault.Memory h = h
writes_as A B old new (fault.Wanted R) h = h
writes_as A B old new fault.NoWantedType h = h
writes_as A B old new (fault.Clash path reason) h = h
writes_as A B old new (fault.LeftOut path number) h = h

-- where none was written
pub no_writes : (A : Type 0) (old new : ℕ) (f : ToolFault) → (f ≡ fault.Write → ⊥) → new ≡ old
    → CountsOnlyWrites {A = A} old new (Err f)
no_writes A old new (fault.Refused R) other same = same
no_writes A old new fault.Read other same = same
no_writes A old new fault.Write other same = absurd (other refl)
no_writes A old new fault.Memory other same = same
no_writes A old new (fault.Wanted R) other same = same
no_writes A old new fault.NoWantedType other same = same
no_writes A old new (fault.Clash path reason) other same = same
no_writes A old new (fault.LeftOut path number) other same = same

pub reading_unwritten : (e : Fault) → reading_fault e ≡ fault.Write → ⊥
reading_unwritten (reading.Refused R) is = cc
reading_unwritten reading.Read is = cc
reading_unwritten reading.Memory is = cc
reading_unwritten reading.Failed is = cc

-- a fault that isn't `Read`, or none
pub no_reads_in : (A : Type 0) (old new : ℕ) (res : Result A ToolFault) → new ≡ old
    → IfErr res (λ f. f ≡ fault.Read → ⊥) → CountsOnlyReads old new res
no_reads_in A old new (Ok a) same other = same
no_reads_in A old new (Err f) same other = no_reads A old new f other same

-- the texts of what was whole with some of the bytes, once bytes were read
pub filled_so : (lines : ValueLines) (r q r' : GoReader) (read now : Option (List ℕ)) (given : List FilledItem)
    (old new : Option (List ℕ)) (res : Result (Unit {0}) ToolFault)
    → taken_of (session_of q) ≡ taken_of (session_of r) → limits_of (session_of q) ≡ limits_of (session_of r)
    → WritesNext go_stepping (IsLineBy lines) (IsStopBy go_stepping (λ T given f. ⊥)) q r' read now given old new res
    → FillsTexts lines r r' read now given old new res
filled_so lines r q r' read now given old new (Ok u) same limits w = onward_from old new same limits w
filled_so lines r q r' read now given old new (Err f) same limits w = λ bytes known start o.
    texts_from lines r q bytes now old start new given f limits
    (λ o. unstopped go_stepping (IsLineBy lines) (w bytes known start o)) o

-- the same in the words of runs
pub lines_of_filled : (lines : ValueLines) (r r' : GoReader) (read now : Option (List ℕ)) (given : List FilledItem)
    (old new : Option (List ℕ)) (f : ToolFault)
    → FillsTexts lines r r' read now given old new (Err f) → WritesLines lines r read now given old new (Err f)
lines_of_filled lines r r' read now given old new f h = λ bytes known start o.
    each_of lines (bounds_of go_stepping r) bytes now start new (Err f) (h bytes known start o)

-- no memory was had before anything was read or written
pub no_lines : (lines : ValueLines) (r : GoReader) {read now : Option (List ℕ)} {given : List FilledItem}
    (out : Option (List ℕ)) → HasReadBy go_stepping r read now given
    → WritesLines lines r read now given out out (Err fault.Memory)
no_lines lines r {now = now} {given = given} out h = λ bytes known start o.
    let L = bounds_of go_stepping r in
    each_of lines L bytes now start out (Err fault.Memory)
    (shown_stops profile L (types_behind go_stepping h) given bytes now
    (λ T items. OfTexts profile (IsLineBy lines) L bytes (Appends start out) items)
    (λ T items. OfTexts profile (IsLineBy lines) L bytes (AppendsPrefix start out) items) reading.Memory
    (no_memory go_stepping (stands true (λ T given i. ItemMeans T given i) (session_of r)).gives h bytes known) o)

-- a fault of a call that counts what it reads, behind calls where no read failed
pub read_faults : (old mid new : ℕ) (f : ToolFault) → mid ≡ old → CountsOnlyReads {A = GoReader} mid new (Err f)
    → CountsReadFaults old new (Err f)
read_faults old mid new (fault.Refused R) same h = h ∙ same
read_faults old mid new fault.Read same h = h ∙ ap (λ n. counts_up n 1) same
read_faults old mid new fault.Write same h = inl (h ∙ same)
read_faults old mid new fault.Memory same h = h ∙ same
read_faults old mid new (fault.Wanted R) same h = h ∙ same
read_faults old mid new fault.NoWantedType same h = h ∙ same
read_faults old mid new (fault.Clash path reason) same h = h ∙ same
read_faults old mid new (fault.LeftOut path number) same h = h ∙ same
