-- How a run that receives values goes on from item to item, and how it ends.
use Rattle.std.proofs.Common.{Some, ◌≡◌, ℕ, arith, List, [], ◌∷◌, ◌++◌, Option}
use Rattle.std.proofs.Common.{ap, append_assoc, Result, Ok, Err, ◌∙◌, sym, subst, refl, append-nil, inl, inr}
use Rattle.std.specs.Io.KnownBytes.{Appends, Keeps}
use Rattle.std.proofs.KnownBytes.{Appends-kept, Appends-trans}
use Rattle.gob_types.specs.Base.{base_table}
use Rattle.gob_types.specs.Ready.{IsReady}
use Rattle.gob_types.specs.Table.{Table}
use Rattle.gob_types.specs.declared.id.TypeId.{TypeId}
use Rattle.gob_match.specs.Faults.{IsMatchFault}
use Rattle.gob_match.specs.declared.fault.MatchFault.{MatchFault}
use Rattle.gob_match.specs.declared.fault.MatchFault.TheVariants as matching
use Rattle.gob_match.specs.Matching.{Match}
use Rattle.gob_match.specs.Received.{Receives}
use Rattle.gob_read.specs.Calls.Builders.{tree_building}
use Rattle.gob_value.specs.Tree.{Tree}
use Rattle.gob_value.specs.Within.{FitsWithin}
use Rattle.gob_value.specs.declared.value.Value.{Value}
use Rattle.gob_stream.specs.Body.{value as of_value}
use Rattle.gob_stream.specs.Bounds.{Bounds, within_trees}
use Rattle.gob_stream.specs.Calls.Session.{limits_of, types_of}
use Rattle.gob_stream.specs.Item.{StreamItem, defines, mean_more, mean_none, means_definition, means_value, puts}
use Rattle.gob_stream.specs.Stream.{counted, IsItem, no_more, Stream}
use Rattle.gob_stream.specs.declared.item.Item as declared
use Rattle.gob_stream.specs.declared.item.Item.TheVariants as variant
use Rattle.gob_stream.proofs.PublicLaws.{views_meant}
use Rattle.gob_stream.specs.Calls.Reader.{GivesItems, gives_none, gives_one}
use Rattle.gob_stream.specs.Calls.Reader.{session_of, waits_in}
use Rattle.gob_tool.specs.declared.fault.ToolFault.{ToolFault}
use Rattle.gob_tool.specs.declared.fault.ToolFault.TheVariants as fault
use Rattle.gob_tool.specs.declared.receiver.LastMatch.{LastMatch}
use Rattle.gob_stream.specs.Item.{ItemMeans}
use Rattle.gob_stream.specs.Outcome.{BeginsWithStream, strict}
use Rattle.gob_stream.specs.declared.session.Advance.{Advance}
use Rattle.gob_tool.specs.Texts.{answers, stops_at, HaveTexts, no_texts, texts_then, OfTexts}
use Rattle.gob_tool.specs.Texts.{from_item, from_value}
use Rattle.gob_tool.proofs.ShowLaws.{begins_first, meant, same_behind}
use Rattle.gob_tool.proofs.TextLaws.{begun, ended_begins, runs_as, runs_begun, value_text}
use Rattle.gob_tool.specs.Ending.{CountsOnlyWrites, EndsRun, ends_so, flush_fails}
use Rattle.gob_tool.specs.Converting.{in_front}
use Rattle.gob_tool.specs.Taking.{clashes, CountsTakeReads, first_type, Receiving, receives}
use Rattle.gob_tool.specs.Taking.{stops_at_wanted, takes_behind as received_behind}
use Rattle.gob_tool.specs.Machine.Received.{AreReceivedIn, AreSpelled, FormAnswers, HasIn, no_item, Says, text_in_front}
use Rattle.gob_tool.specs.Machine.Received.{value as received_value}
use Rattle.gob_tool.specs.declared.received_form.ReceivedForm.{ReceivedForm}
use Rattle.gob_tool.specs.declared.received_form.ReceivedForm.TheVariants as form
use Rattle.gob_tool.specs.Machine.Lines.{Trees}
use Rattle.gob_tool.specs.Machine.Receiver.{Clashes, clashes_with, IsReceived, KeepsKnown}
use Rattle.gob_tool.specs.Machine.Receiver.{ReceivesNone, StaysKnown, TextsOrClash}
use Rattle.gob_tool.specs.Showing.{AppendsPrefix, CountsReadFaults}
use Rattle.gob_tool.specs.Machine.Counting.{CountsCounting}
use Rattle.gob_tool.specs.Machine.Taken.{AreSent, defined, sent, views_given}
use Rattle.gob_tool.proofs.EndLaws.{all_kept, prefix_kept}
use Rattle.gob_tool.proofs.LinesStay.{keeps_itself}
use Rattle.gob_tool.proofs.ReaderRuns.{last_item, read_alone}
use Rattle.gob_tool.specs.Machine.Texts.{HasReadSome}
use Rattle.gob_stream.specs.Calls.ReaderOf.{StepsOnBy}
use Rattle.gob_stream.specs.Stepping.{StandsBy}
use Rattle.gob_stream.specs.StrictStepping.{strict_stepping}
use Rattle.gob_tool.proofs.ConvertLaws.{has_converted}
use Rattle.gob_tool.proofs.ReceivedLaws.{lines_received, received_append, received_on, stream_sent}

-- ---- what a step gave
pub given_views : {o : Option (declared.Item Value)} {more : List StreamItem} → GivesItems tree_building.means o more
    → views_given o ≡ more
given_views gives_none = refl
given_views (gives_one m) = views_meant (mean_more m mean_none)

-- those behind the first were sent too
sent_behind : {T : Table} {others : List StreamItem} (items : List StreamItem) → AreSent T (items ++ others)
    → AreSent T others
sent_behind [] s = s
sent_behind (defines id v ∷ items) (defined s) = sent_behind items s
sent_behind (puts id v ∷ items) (sent r n f s) = sent_behind items s

-- where no type is defined the match that is kept is one of the types behind it
stays_known : {L : Bounds} {bytes : List ℕ} {o : Option (declared.Item Value)} {items more : List StreamItem}
    (c : BeginsWithStream base_table L bytes items) (b : BeginsWithStream base_table L bytes (items ++ more))
    (U : Table) (u : TypeId) (kept : LastMatch) → GivesItems tree_building.means o more
    → KeepsKnown c.table U u kept → StaysKnown b.table U u kept o
stays_known {L = L} {bytes = bytes} {items = items} c b U u kept gives_none h =
    let all : BeginsWithStream base_table L bytes items = record {
      prefix = b.prefix;
      rest = b.rest;
      table = b.table;
      stream = subst (λ l. Stream base_table L l b.prefix b.table) (append-nil items) b.stream;
      whole = b.whole;
    } in
    subst (λ T. KeepsKnown T U u kept) (same_behind c all) h
stays_known c b U u kept (gives_one means_definition) h = tt
stays_known {L = L} {bytes = bytes} {items = items} c b U u kept (gives_one {i = i} (means_value m)) h =
    let l = last_item items b.stream in
    let first : BeginsWithStream base_table L bytes items = record {
      prefix = l.prefix;
      rest = l.bytes ++ b.rest;
      table = l.table;
      stream = l.first;
      whole = b.whole ∙ ap (λ z. z ++ b.rest) l.whole ∙ append_assoc l.prefix l.bytes b.rest;
    } in
    by l.counted (subst (λ T. KeepsKnown T U u kept) (same_behind c first) h)
  where
    by : {T V : Table} {at : ℕ} {id : TypeId} {v : Tree} {z : List ℕ} → IsItem base_table L T at (puts id v) z V
        → KeepsKnown T U u kept → KeepsKnown V U u kept
    by (counted x k s (of_value may deep n q)) h = h

module _ {r r' : Trees} {step : Advance (declared.Item Value)} (so : HasReadSome (strict_stepping tree_building) r)
    (stands : StandsBy (strict_stepping tree_building) (session_of r'))
    (same : limits_of (session_of r') ≡ limits_of (session_of r))
    (st : StepsOnBy (strict_stepping tree_building) r r' (Some (so.has.taken ++ waits_in r)) (Some []) so.given step)
    {o : Option (declared.Item Value)} (is : step.item ≡ o) where
  behind : (b : BeginsWithStream base_table (within_trees (limits_of (session_of r'))) (so.has.taken ++ waits_in r)
      (so.given ++ st.more)) × (b.table ≡ types_of (session_of r'))
  behind = begun (strict_stepping tree_building) {r = r'} stands.gives (so.has.taken ++ waits_in r) st.takes.after refl

  pub step_sent : AreSent (types_of (session_of r')) (views_given o)
  step_sent = subst (λ o. AreSent (types_of (session_of r')) (views_given o)) is
      (subst (λ (l : List StreamItem). AreSent (types_of (session_of r')) l) (sym (given_views st.gives))
      (subst (λ T. AreSent T st.more) behind.1
      (sent_behind so.given (stream_sent (omega arith) behind.0.stream (keeps_itself behind.0.table)))))

  pub step_known : (U : Table) (u : TypeId) (kept : LastMatch) → KeepsKnown (types_of (session_of r)) U u kept
      → StaysKnown (types_of (session_of r')) U u kept o
  step_known U u kept h =
      let bytes = so.has.taken ++ waits_in r in
      let c = subst (λ (M : Bounds). (c : BeginsWithStream base_table (within_trees M) bytes so.given)
      × (c.table ≡ types_of (session_of r))) (sym same)
      (begun (strict_stepping tree_building) {r = r} so.stands.gives bytes
      (read_alone tree_building so.has.gave so.has.room) refl)
      in
      subst (λ o. StaysKnown (types_of (session_of r')) U u kept o) is
      (subst (λ T. StaysKnown T U u kept step.item) behind.1
      (stays_known c.0 behind.0 U u kept st.gives (subst (λ T. KeepsKnown T U u kept) (sym c.1) h)))

-- ---- the texts of items are those of what is received of them
received_one : {how : ReceivedForm} {T U : Table} {u : TypeId} {i : StreamItem} {text : List ℕ}
    → IsReceived how U u T i text → AreReceivedIn how T U u (i ∷ []) text
received_one {how = how} {T = T} {U = U} {u = u} {text = text} (from_item m h) =
    subst (λ i. AreReceivedIn how T U u (i ∷ []) text) (meant m) h
received_one {how = how} {U = U} {u = u} (from_value h) =
    value_text (λ T i text. AreReceivedIn how T U u (i ∷ []) text) h

-- bytes went out in front of a prefix
prefix_behind : (old mid new : Option (List ℕ)) (x y : List ℕ) → Appends old mid x → AppendsPrefix mid new y
    → AppendsPrefix old new (x ++ y)
prefix_behind old mid new x y a p = record {
  prefix = x ++ p.prefix;
  rest = p.rest;
  whole = ap (λ l. x ++ l) p.whole ∙ sym (append_assoc x p.prefix p.rest);
  out = Appends-trans old mid new x p.prefix a p.out;
}

-- what is known of the wanted stream: its items, and the spelling of the definitions in front of the wanted type
pub record KnowsWanted (L : Bounds) (U : Table) (u : TypeId) (definitions : List ℕ) (given : List StreamItem) : Type
    0 where
  pub bytes : List ℕ
  pub stream : Stream base_table L given bytes U
  pub first : first_type given ≡ Some u
  pub front : AreSpelled (in_front given) definitions

module _ (how : ReceivedForm) {U : Table} {u : TypeId} (wanted : IsReady U u) {L : Bounds} {bytes definitions : List ℕ}
    {given : List StreamItem} (knows : KnowsWanted L U u definitions given) where
  -- by the types behind all of them
  all_received : {items : List StreamItem} {text : List ℕ} → HaveTexts strict (IsReceived how U u) L bytes items text
      → (b : BeginsWithStream base_table L bytes items) → AreReceivedIn how b.table U u items text
  all_received no_texts b = no_item
  all_received (texts_then {items = items} i more h c m) b =
      let t = begins_first items (i ∷ []) b in
      received_append (received_on wanted t.0.stream t.1 (all_received h t.0))
      (subst (λ T. AreReceivedIn how T U u (i ∷ []) more) (same_behind c b) (received_one m))

  -- and what stands in front of them
  has_written : {T : Table} {items : List StreamItem} {text : List ℕ} (P : List ℕ → Type 0)
      → BeginsWithStream base_table L bytes items → AreReceivedIn how T U u items text
      → P (text_in_front how definitions ++ text) → HasIn how L given U u P T items
  has_written P b r p = in_form how P b r p
    where
      in_form : (how : ReceivedForm) {T : Table} {items : List StreamItem} {text : List ℕ} (P : List ℕ → Type 0)
          → BeginsWithStream base_table L bytes items → AreReceivedIn how T U u items text
          → P (text_in_front how definitions ++ text) → HasIn how L given U u P T items
      in_form form.Line {text = text} P b r p = record { lines = text; received = lines_received r; holds = p }
      in_form form.Item P b r p = has_converted {P = P} knows.stream knows.first knows.front b r p

  module _ (now old mid new : Option (List ℕ)) (front : Appends old mid (text_in_front how definitions)) where
    all_written : {T : Table} (items : List StreamItem) (b : BeginsWithStream base_table L bytes items)
        → (o : OfTexts strict (IsReceived how U u) L bytes (Appends mid new) items)
        → AreReceivedIn how T U u items o.text → HasIn how L given U u (Appends old new) T items
    all_written items b o r = has_written (Appends old new) b r
        (Appends-trans old mid new (text_in_front how definitions) o.text front o.holds)

    prefix_written : (items : List StreamItem) (b : BeginsWithStream base_table L bytes items)
        → OfTexts strict (IsReceived how U u) L bytes (AppendsPrefix mid new) items
        → HasIn how L given U u (AppendsPrefix old new) b.table items
    prefix_written items b o =
        has_written (AppendsPrefix old new) b (all_received o.texts b)
        (prefix_behind old mid new (text_in_front how definitions) o.text front o.holds)

    clash_behind : {i : StreamItem} {item : declared.Item Value} {f : ToolFault} (items : List StreamItem)
        (b : BeginsWithStream base_table L bytes (items ++ i ∷ []))
        → OfTexts strict (IsReceived how U u) L bytes (Appends mid new) items → ItemMeans tree_building.means item i
        → Clashes U u b.table item f
        → Receiving L bytes now U u (HasIn how L given U u (Appends old new))
        (HasIn how L given U u (AppendsPrefix old new)) (Err f)
    clash_behind items b o means_definition x = elim x [ ]
    clash_behind items b o (means_value m) (clashes_with c) =
        let t = begins_first items _ b in
        clashes (record {
          items = items;
          id = _;
          value = _;
          begins = b;
          received = all_written items t.0 o (received_on wanted t.0.stream t.1 (all_received o.texts t.0));
          clash = c;
        })

    pub received_so : {r : Result (Unit {0}) ToolFault} → TextsOrClash how U u L bytes now mid new r
        → Receiving L bytes now U u (HasIn how L given U u (Appends old new))
        (HasIn how L given U u (AppendsPrefix old new)) r
    received_so {r = r} (answers h) =
        receives (runs_begun strict L bytes now
        (λ T items. OfTexts strict (IsReceived how U u) L bytes (Appends mid new) items)
        (HasIn how L given U u (Appends old new))
        (λ T items. OfTexts strict (IsReceived how U u) L bytes (AppendsPrefix mid new) items)
        (HasIn how L given U u (AppendsPrefix old new)) r h
        (λ T items b o. all_written items b o (all_received o.texts b))
        (λ T items b o. prefix_written items b o))
    received_so (stops_at items i b o stop) = clash_behind items b o stop.means stop.stops

  -- where what stands in front of them can't go out
  pub none_received : {now old new : Option (List ℕ)} → AppendsPrefix old new (text_in_front how definitions)
      → Receiving L bytes now U u (HasIn how L given U u (Appends old new))
      (HasIn how L given U u (AppendsPrefix old new)) (Err fault.Write)
  none_received {old = old} {new = new} p =
      let b : BeginsWithStream base_table L bytes [] =
      record { prefix = []; rest = bytes; table = base_table; stream = no_more; whole = refl } in
      receives (record {
        items = [];
        begins = b;
        holds = has_written (AppendsPrefix old new) b no_item
            (subst (AppendsPrefix old new) (sym (append-nil (text_in_front how definitions))) p);
      })

-- ---- behind the flush
has_as : (how : ReceivedForm) (L : Bounds) (given : List StreamItem) (U : Table) (u : TypeId)
    (P Q : List ℕ → Type 0) → ((b : List ℕ) → P b → Q b) → (T : Table) (items : List StreamItem)
    → HasIn how L given U u P T items → HasIn how L given U u Q T items
has_as form.Line L given U u P Q f T items h = record { lines = h.lines; received = h.received; holds = f _ h.holds }
has_as form.Item L given U u P Q f T items h = record {
  received = h.received;
  are = h.are;
  bytes = h.bytes;
  table = h.table;
  stream = h.stream;
  holds = f _ h.holds;
}

-- what is received by the items of the wanted stream, its types and the wanted one
abbrev Behind : ReceivedForm → Bounds → (bytes : List ℕ) → (now old new : Option (List ℕ)) → (given : List StreamItem)
    → Table → TypeId → Result (Unit {0}) ToolFault → Type 0
Behind how L bytes now old new given U u result = Receiving L bytes now U u (HasIn how L given U u (Appends old new))
    (HasIn how L given U u (AppendsPrefix old new)) result

module _ (how : ReceivedForm) (L : Bounds) (bytes : List ℕ) (now old mid new : Option (List ℕ)) (k : Keeps mid new)
    (given : List StreamItem) (U : Table) (u : TypeId) where
  kept_behind : {r : Result (Unit {0}) ToolFault} → Behind how L bytes now old mid given U u r
      → Behind how L bytes now old new given U u r
  kept_behind {r = r} (receives h) =
      let whole = has_as how L given U u (Appends old mid) (Appends old new)
      (λ all a. Appends-kept old mid new all a k) in
      let prefix = has_as how L given U u (AppendsPrefix old mid) (AppendsPrefix old new)
      (λ all a. prefix_kept old mid new all a k) in
      receives (runs_as strict L bytes now (HasIn how L given U u (Appends old mid))
      (HasIn how L given U u (Appends old new)) (HasIn how L given U u (AppendsPrefix old mid))
      (HasIn how L given U u (AppendsPrefix old new)) r h whole prefix)
  kept_behind (clashes c) = clashes (record {
    items = c.items;
    id = c.id;
    value = c.value;
    begins = c.begins;
    received = has_as how L given U u (Appends old mid) (Appends old new) (λ all a. Appends-kept old mid new all a k)
        c.begins.table c.items c.received;
    clash = c.clash;
  })

  cut : Behind how L bytes now old mid given U u (Ok tt) → Behind how L bytes now old new given U u (Err fault.Write)
  cut (receives w) = receives (ended_begins strict w (has_as how L given U u (Appends old mid) (AppendsPrefix old new)
      (λ all a. all_kept old mid new all a k)))

  flushed : {answer result : Result (Unit {0}) ToolFault} → EndsRun answer result
      → Behind how L bytes now old mid given U u answer → Behind how L bytes now old new given U u result
  flushed (ends_so e) h = subst (λ r. Behind how L bytes now old new given U u r) (sym e) (kept_behind h)
  flushed (flush_fails o e) h =
      subst (λ r. Behind how L bytes now old new given U u r) (sym e)
      (cut (subst (λ r. Behind how L bytes now old mid given U u r) o h))

pub takes_ended : (how : ReceivedForm) (L : Bounds) (wanted bytes : List ℕ)
    (wanted_now now old mid new : Option (List ℕ)) (answer result : Result (Unit {0}) ToolFault) → Keeps mid new
    → EndsRun answer result → FormAnswers how L wanted bytes wanted_now now old mid answer
    → FormAnswers how L wanted bytes wanted_now now old new result
takes_ended how L wanted bytes wanted_now now old mid new answer result k ends h = at ends h
  where
    at : {answer result : Result (Unit {0}) ToolFault} → EndsRun answer result
        → FormAnswers how L wanted bytes wanted_now now old mid answer
        → FormAnswers how L wanted bytes wanted_now now old new result
    at (ends_so e) (stops_at_wanted lacks untouched) =
        subst (λ r. FormAnswers how L wanted bytes wanted_now now old new r) (sym e) (stops_at_wanted lacks (record {
          unread = untouched.unread;
          unwritten = Appends-kept old mid new [] untouched.unwritten k;
        }))
    at (flush_fails o e) (stops_at_wanted lacks untouched) = absurd (cc o)
    at ends (received_behind h) = received_behind (record {
      items = h.items;
      table = h.table;
      stream = h.stream;
      end = h.end;
      id = h.id;
      first = h.first;
      holds = flushed how L bytes now old mid new k h.items h.table h.id ends h.holds;
    })

-- ---- at the wanted type of a receiver that is this one
pub ready_as : {T U : Table} {t u : TypeId} → T ≡ U → t ≡ u → IsReady U u → IsReady T t
ready_as {U = U} {t = t} e f h = subst (λ (T : Table). IsReady T t) (sym e)
    (subst (λ (u : TypeId). IsReady U u) (sym f) h)

-- ---- reads that failed
pub take_counts : (wanted wanted' failures failures' : ℕ) (answer result : Result (Unit {0}) ToolFault)
    → EndsRun answer result
    → CountsTakeReads wanted wanted' failures failures' answer → CountsTakeReads wanted wanted' failures failures'
    result
take_counts wanted wanted' failures failures' answer result (ends_so e) h =
    subst (λ r. CountsTakeReads wanted wanted' failures failures' r) (sym e) h
take_counts wanted wanted' failures failures' answer result (flush_fails o e) h =
    let both = subst (λ r. CountsTakeReads wanted wanted' failures failures' r) o h in
    subst (λ r. CountsTakeReads wanted wanted' failures failures' r) (sym e) (both.0, inl both.1)

-- the wanted stream was read before
pub then_counts : (wanted wanted' failures failures' : ℕ) (res : Result (Unit {0}) ToolFault) → wanted' ≡ wanted
    → CountsReadFaults failures failures' res → CountsTakeReads wanted wanted' failures failures' res
then_counts wanted wanted' failures failures' (Ok u) same h = (same, h)
then_counts wanted wanted' failures failures' (Err (fault.Refused R)) same h = (same, h)
then_counts wanted wanted' failures failures' (Err (fault.Wanted R)) same h = (same, h)
then_counts wanted wanted' failures failures' (Err fault.NoWantedType) same h = (same, h)
then_counts wanted wanted' failures failures' (Err (fault.Clash path why)) same h = (same, h)
then_counts wanted wanted' failures failures' (Err (fault.LeftOut path number)) same h = (same, h)
then_counts wanted wanted' failures failures' (Err fault.Read) same h = inr (same, h)
then_counts wanted wanted' failures failures' (Err fault.Write) same h = (same, h)
then_counts wanted wanted' failures failures' (Err fault.Memory) same h = (same, h)

-- or alone
pub wanted_alone : (wanted wanted' failures : ℕ) (f : ToolFault) → CountsCounting {A = TypeId} wanted wanted' (Err f)
    → CountsTakeReads wanted wanted' failures failures (Err f)
wanted_alone wanted wanted' failures (fault.Refused R) h = (h, refl)
wanted_alone wanted wanted' failures (fault.Wanted R) h = (h, refl)
wanted_alone wanted wanted' failures fault.NoWantedType h = (h, refl)
wanted_alone wanted wanted' failures (fault.Clash path why) h = (h, refl)
wanted_alone wanted wanted' failures (fault.LeftOut path number) h = (h, refl)
wanted_alone wanted wanted' failures fault.Read h = inl (h, refl)
wanted_alone wanted wanted' failures fault.Write h = absurd h
wanted_alone wanted wanted' failures fault.Memory h = (h, refl)

pub wanted_unwritten : (wanted wanted' out : ℕ) (f : ToolFault) → CountsCounting {A = TypeId} wanted wanted' (Err f)
    → CountsOnlyWrites {A = Unit {0}} out out (Err f)
wanted_unwritten wanted wanted' out (fault.Refused R) h = refl
wanted_unwritten wanted wanted' out (fault.Wanted R) h = refl
wanted_unwritten wanted wanted' out fault.NoWantedType h = refl
wanted_unwritten wanted wanted' out (fault.Clash path why) h = refl
wanted_unwritten wanted wanted' out (fault.LeftOut path number) h = refl
wanted_unwritten wanted wanted' out fault.Read h = refl
wanted_unwritten wanted wanted' out fault.Write h = absurd h
wanted_unwritten wanted wanted' out fault.Memory h = refl

-- ---- an item
pub sent_ready : {T : Table} {t : TypeId} {v : Tree} → AreSent T (puts t v ∷ []) → IsReady T t
sent_ready (sent r n f s) = r

pub sent_fits : {T : Table} {t : TypeId} {v : Tree} → AreSent T (puts t v ∷ []) → FitsWithin T t 1000 v
sent_fits (sent r n f s) = f

pub clash_given : (T U : Table) (t u : TypeId) (value : Value) (e : MatchFault) → IsMatchFault T U t u e
    → ReceivesNone U u T (variant.Put t value) e
clash_given T U t u value (matching.Clash path reason) h = clashes_with h
clash_given T U t u value matching.Memory h = tt

pub value_received : {how : ReceivedForm} {T U : Table} {u : TypeId} {text : List ℕ} (id : TypeId) (v w : Tree)
    → Match T U id u → Receives T U id u v w → Says how U u w text → AreReceivedIn how T U u (puts id v ∷ []) text
value_received {how = how} {T = T} {U = U} {u = u} {text = text} id v w m r is =
    subst (λ l. AreReceivedIn how T U u (puts id v ∷ []) l) (append-nil text) (received_value text m r is no_item)
