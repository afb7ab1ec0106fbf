-- How lines of a stream go out that is made piece by piece.
use Rattle.std.proofs.Common.{◌≡◌, ◌∙◌, ap, refl, subst, sym, append_assoc, append-nil, ℕ, ◌≤◌, ◌+◌, ◌-◌, true}
use Rattle.std.proofs.Common.{List, [], ◌∷◌, ◌++◌, length, take, drop, Option, None, Some, Result, Ok, Err}
use Rattle.std.specs.Prelude.{IfSome}
use Rattle.std.specs.Io.KnownBytes.{Appends, append_known}
use Rattle.std.proofs.KnownBytes.{Appends-trans}
use Rattle.std.proofs.lemmas.List.{take-append-drop, take_all, take_rest}
use Rattle.std.proofs.Math.Seq.{take-add}
use Rattle.gob_types.specs.Base.{base_table}
use Rattle.gob_stream.specs.Bounds.{Bounds, within_trees}
use Rattle.gob_stream.specs.declared.fault.Fault.{Fault}
use Rattle.gob_stream.specs.declared.fault.Fault.TheVariants as reading
use Rattle.gob_stream.specs.declared.session.Advance.{Advance}
use Rattle.gob_filled.specs.Outcome.{BeginsFilled, FilledOutcome, the_end, refused, profile}
use Rattle.gob_filled.specs.Stream.{FilledItem}
use Rattle.gob_filled.proofs.Outcomes.{one_outcome}
use Rattle.gob_go.specs.Calls.Session.{HasRead, IsBetweenItems, StepAnswers, limits_of, types_of}
use Rattle.gob_go.specs.Machine.SessionState.{SessionState}
use Rattle.gob_go.specs.Machine.Stages.{AdvancesOver, over_some, over_item}
use Rattle.gob_go.specs.Meaning.{ItemMeans}
use Rattle.gob_go.specs.declared.item.GoItem.{GoItem}
use Rattle.gob_go.proofs.FinishSteps.{count_begins_here, ended_within}
use Rattle.gob_go.proofs.SessionAnswers.{table_between}
use Rattle.gob_join.proofs.JoiningLaws.{appends_made, cut_short}
use Rattle.gob_tool.specs.Answering.{AppendsPrefix}
use Rattle.gob_tool.specs.Fault.{reading_fault}
use Rattle.gob_tool.specs.LineGo.{IsLinesOf}
use Rattle.gob_tool.specs.Machine.LinesGo.{LinesGiven, ShowsInLines}
use Rattle.gob_tool.specs.Texts.{HaveTexts, no_texts, texts_then}
use Rattle.gob_tool.specs.declared.fault.ToolFault.{ToolFault}
use Rattle.gob_tool.specs.declared.fault.ToolFault.TheVariants as fault
use Rattle.gob_tool.proofs.EndLaws.{sent_prefix}
use Rattle.gob_tool.proofs.Profile.ShowLaws.{item_lines}
use Rattle.gob_convert.specs.Machine.Printing.{HasShown, IsCutShort, IsShowStop, IsStream, ShowsItem}
use Rattle.gob_convert.specs.Machine.Printing.{ShowsSo}

-- more bytes begin with the same items
begins_longer : {L : Bounds} {bytes : List ℕ} {items : List FilledItem} (more : List ℕ)
    → BeginsFilled base_table L bytes items → BeginsFilled base_table L (bytes ++ more) items
begins_longer more b = record {
  prefix = b.prefix;
  rest = b.rest ++ more;
  table = b.table;
  stream = b.stream;
  whole = ap (λ l. l ++ more) b.whole ∙ append_assoc b.prefix b.rest more;
}

texts_longer : {L : Bounds} {bytes text : List ℕ} {items : List FilledItem} (more : List ℕ)
    → HaveTexts profile IsLinesOf L bytes items text → HaveTexts profile IsLinesOf L (bytes ++ more) items text
unfolding begins_longer
texts_longer more no_texts = no_texts
texts_longer more (texts_then i lines h b is) = texts_then i lines (texts_longer more h) (begins_longer more b) is

-- what was read begins the stream
read_begins : {s : SessionState} {items : List FilledItem} {came stream : List ℕ} (rest : List ℕ)
    → stream ≡ came ++ rest → HasRead s items came → BeginsFilled base_table (within_trees (limits_of s)) stream items
read_begins rest e a = record {
  prefix = a.prefix;
  rest = a.under_way ++ rest;
  table = a.table;
  stream = a.stream;
  whole = e ∙ ap (λ l. l ++ rest) a.whole ∙ append_assoc a.prefix a.under_way rest;
}

-- no byte of a piece was read yet
pub shows_first : {s : SessionState} {stream : List ℕ} {start now : Option (List ℕ)} (piece : List ℕ)
    → HasShown s stream start now → ShowsSo s (stream ++ piece) (stream ++ []) start now
shows_first {s = s} {stream = stream} piece h = record {
  items = h.so.items;
  read = subst (λ b. HasRead s h.so.items b) (sym (append-nil stream)) h.so.read;
  text = h.so.text;
  texts = texts_longer piece h.so.texts;
  went = h.so.went;
}

-- the bytes that are to come
rest_of : (stream piece : List ℕ) (used : ℕ) → stream ++ piece ≡ (stream ++ take used piece) ++ drop used piece
rest_of stream piece used = ap (λ l. stream ++ l) (sym (take-append-drop used piece))
    ∙ sym (append_assoc stream (take used piece) (drop used piece))

-- a prefix of the lines of what was read went out
cut_so : {s : SessionState} {items : List FilledItem} {stream came text : List ℕ} {start now : Option (List ℕ)}
    (rest : List ℕ) → stream ≡ came ++ rest → HasRead s items came
    → HaveTexts profile IsLinesOf (within_trees (limits_of s)) stream items text → AppendsPrefix start now text
    → IsCutShort (within_trees (limits_of s)) stream start now
cut_so {items = items} {text = text} rest e a texts cut = record {
  items = items;
  begins = read_begins rest e a;
  holds = record { text = text; texts = texts; holds = cut };
}

pub cut_under : {L M : Bounds} {stream : List ℕ} {start now : Option (List ℕ)} (f : ToolFault) → L ≡ M
    → IsShowStop f × IsCutShort (within_trees L) stream start now
    → IsShowStop f × IsCutShort (within_trees M) stream start now
cut_under {stream = stream} {start = start} {now = now} f same h =
    (h.0, subst (λ (L : Bounds). IsCutShort (within_trees L) stream start now) same h.1)

pub stream_under : {L M : Bounds} {stream : List ℕ} → M ≡ L → IsStream (within_trees L) stream
    → IsStream (within_trees M) stream
stream_under {stream = stream} same h = subst (λ (L : Bounds). IsStream (within_trees L) stream) (sym same) h

pub all_out : {start now : Option (List ℕ)} (text : List ℕ) → Appends start now text → AppendsPrefix start now text
all_out text a = record { prefix = text; rest = []; whole = sym (append-nil text); out = a }

cut_whole : {s : SessionState} {start now : Option (List ℕ)} (stream piece : List ℕ) (used : ℕ)
    → ShowsSo s (stream ++ piece) (stream ++ take used piece) start now
    → IsCutShort (within_trees (limits_of s)) (stream ++ piece) start now
cut_whole stream piece used h =
    cut_so (drop used piece) (rest_of stream piece used) h.read h.texts (all_out h.text h.went)

-- a step stopped it, which is for want of memory: a stream isn't refused
pub shows_refused : {s : SessionState} {start now : Option (List ℕ)} (s' : SessionState) (stream piece : List ℕ)
    (used : ℕ) (e : Fault) (h : ShowsSo s (stream ++ piece) (stream ++ take used piece) start now)
    → IsStream (within_trees (limits_of s)) (stream ++ piece)
    → StepAnswers s s' h.items (stream ++ take used piece) (drop used piece) (Err e)
    → IsShowStop (reading_fault e) × IsCutShort (within_trees (limits_of s)) (stream ++ piece) start now
shows_refused {s = s} s' stream piece used (reading.Refused R) h ends a =
    absurd (cc (one_outcome (subst (λ b. FilledOutcome base_table (within_trees (limits_of s)) b h.items (refused R))
    (sym (rest_of stream piece used)) a.0.outcome) ends.1).1)
shows_refused s' stream piece used reading.Read h ends a = absurd a
shows_refused s' stream piece used reading.Memory h ends a = (tt, cut_whole stream piece used h)
shows_refused s' stream piece used reading.Failed h ends a = absurd a

-- the bytes of the piece that are to come
pub step_over : (s s' : SessionState) (items : List FilledItem) (came piece : List ℕ) (used : ℕ)
    (r : Result (Advance GoItem) Fault)
    → StepAnswers s s' items came (take (length piece - used) (drop used piece)) r
    → StepAnswers s s' items came (drop used piece) r
step_over s s' items came piece used r h = subst (λ p. StepAnswers s s' items came p r) (take_rest piece used) h

-- the bytes that came, with those of the step
came_on : (stream piece : List ℕ) (used count : ℕ)
    → (stream ++ take used piece) ++ take count (drop used piece) ≡ stream ++ take (used + count) piece
came_on stream piece used count = append_assoc stream (take used piece) (take count (drop used piece))
    ∙ ap (λ l. stream ++ l) (sym (take-add used count piece))

-- the lines of an item that was given
lines_behind : {s' : SessionState} {came text : List ℕ} {i : FilledItem} {given : GoItem} (items : List FilledItem)
    (a : HasRead s' (items ++ i ∷ []) came) → IsBetweenItems s' → ItemMeans (types_of s') given i
    → LinesGiven (types_of s') given text → IsLinesOf a.table i text
lines_behind {text = text} {i = i} items a between means lines =
    item_lines text items i a.stream
    (subst (λ T. ShowsInLines T i text) (sym (table_between a between)) (lines i means))

-- a step was taken, and the lines of what it gave went out
pub shows_step : {s s' : SessionState} {start mid new : Option (List ℕ)} (stream piece : List ℕ) (used count : ℕ)
    (o : Option GoItem) → limits_of s' ≡ limits_of s
    → (h : ShowsSo s (stream ++ piece) (stream ++ take used piece) start mid)
    → AdvancesOver true s' h.items (stream ++ take used piece) (drop used piece) count o
    → IfSome o (λ _. IsBetweenItems s') → ShowsItem o (types_of s') mid new (Ok tt)
    → ShowsSo s' (stream ++ piece) (stream ++ take (used + count) piece) start new
unfolding read_begins
shows_step {s' = s'} {start = start} {mid = mid} {new = new} stream piece used count None same h
    (over_some some few after) between sent = record {
      items = h.items;
      read = subst (λ b. HasRead s' h.items b) (came_on stream piece used count) after;
      text = h.text;
      texts = subst (λ (L : Bounds). HaveTexts profile IsLinesOf (within_trees L) (stream ++ piece) h.items h.text)
          (sym same) h.texts;
      went = subst (λ l. Appends start new l) (append-nil h.text) (Appends-trans start mid new h.text [] h.went sent);
    }
shows_step {s' = s'} {start = start} {mid = mid} {new = new} stream piece used count (Some given) same h
    (over_item {i = i} some few means after) between sent =
    let read = subst (λ b. HasRead s' (h.items ++ i ∷ []) b) (came_on stream piece used count) after in
    record {
      items = h.items ++ i ∷ [];
      read = read;
      text = h.text ++ sent.0;
      texts = texts_then i sent.0 (subst (λ (L : Bounds). HaveTexts profile IsLinesOf (within_trees L)
          (stream ++ piece) h.items h.text) (sym same) h.texts)
          (read_begins (drop (used + count) piece) (rest_of stream piece (used + count)) read)
          (lines_behind h.items read between (means refl) sent.1);
      went = Appends-trans start mid new h.text sent.0 h.went sent.2;
    }

-- the lines of what it gave didn't
pub shows_unsent : {s s' : SessionState} {start mid new : Option (List ℕ)} (stream piece : List ℕ) (used count : ℕ)
    (o : Option GoItem) (f : ToolFault) → limits_of s' ≡ limits_of s
    → (h : ShowsSo s (stream ++ piece) (stream ++ take used piece) start mid)
    → AdvancesOver true s' h.items (stream ++ take used piece) (drop used piece) count o
    → IfSome o (λ _. IsBetweenItems s') → ShowsItem o (types_of s') mid new (Err f)
    → IsShowStop f × IsCutShort (within_trees (limits_of s)) (stream ++ piece) start new
unfolding read_begins
shows_unsent stream piece used count None f same h a between sent = absurd sent
shows_unsent {s' = s'} {start = start} {mid = mid} {new = new} stream piece used count (Some given) fault.Write same
    h (over_item {i = i} some few means after) between sent =
    let read = subst (λ b. HasRead s' (h.items ++ i ∷ []) b) (came_on stream piece used count) after in
    let texts = texts_then i sent.0 (subst (λ (L : Bounds). HaveTexts profile IsLinesOf (within_trees L)
    (stream ++ piece) h.items h.text) (sym same) h.texts)
    (read_begins (drop (used + count) piece) (rest_of stream piece (used + count)) read)
    (lines_behind h.items read between (means refl) sent.1) in
    cut_under fault.Write same (
      tt,
      cut_so (drop (used + count) piece) (rest_of stream piece (used + count)) read texts
          (sent_prefix start new (h.text ++ sent.0) (cut_short start mid new h.text sent.0 (h.text ++ sent.0) h.went
          sent.2
          (Appends-trans start mid (append_known mid sent.0) h.text sent.0 h.went (appends_made mid sent.0)))),
    )
shows_unsent {start = start} {mid = mid} {new = new} stream piece used count (Some given) fault.Memory same h a between
    sent = (
      tt,
      cut_whole stream piece used (record {
        items = h.items;
        read = h.read;
        text = h.text;
        texts = h.texts;
        went = subst (λ l. Appends start new l) (append-nil h.text) (Appends-trans start mid new h.text [] h.went sent);
      }),
    )
shows_unsent stream piece used count (Some given) (fault.Refused R) same h a between sent = absurd sent
shows_unsent stream piece used count (Some given) (fault.Wanted R) same h a between sent = absurd sent
shows_unsent stream piece used count (Some given) fault.NoWantedType same h a between sent = absurd sent
shows_unsent stream piece used count (Some given) (fault.Clash path why) same h a between sent = absurd sent
shows_unsent stream piece used count (Some given) (fault.LeftOut path number) same h a between sent = absurd sent
shows_unsent stream piece used count (Some given) fault.Read same h a between sent = absurd sent

-- all bytes of a stream were read, so no item is under way
ends_whole : {s : SessionState} {items all : List FilledItem} {bytes : List ℕ} (a : HasRead s items bytes)
    → FilledOutcome base_table (within_trees (limits_of s)) bytes all the_end → a.under_way ≡ []
ends_whole a ends = by a.under_way refl
  where
    by : (z : List ℕ) → a.under_way ≡ z → a.under_way ≡ []
    by [] e = e
    by (x ∷ z) e = absurd (cc (one_outcome (ended_within a (λ at is f. absurd (cc (sym e ∙ count_begins_here a is f)))
        refl).0 ends).1)

pub shows_all : {s : SessionState} {start now : Option (List ℕ)} (stream piece : List ℕ) (used : ℕ)
    → length piece ≤ used → ShowsSo s (stream ++ piece) (stream ++ take used piece) start now
    → IsStream (within_trees (limits_of s)) (stream ++ piece) → HasShown s (stream ++ piece) start now
shows_all {s = s} {start = start} {now = now} stream piece used enough h ends =
    let so = subst (λ l. ShowsSo s (stream ++ piece) (stream ++ l) start now) (take_all used piece enough) h in
    record { so = so; whole = ends_whole so.read ends.1 }
