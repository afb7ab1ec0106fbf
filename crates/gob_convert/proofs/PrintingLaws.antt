-- How a run goes on that prints the stream that a conversion writes, and how it ends.
use Rattle.std.proofs.Common.{◌≡◌, ◌∙◌, ap, refl, subst, sym, append-nil, Bool, ℕ, List, [], ◌∷◌, ◌++◌, Option, Some}
use Rattle.std.proofs.Common.{Result, Ok, Err}
use Rattle.std.specs.Io.KnownBytes.{Appends, Keeps as KeepsBytes}
use Rattle.std.proofs.KnownBytes.{Appends-kept, Appends-nil}
use Rattle.gob_types.specs.Table.{Table}
use Rattle.gob_types.specs.declared.id.TypeId.{TypeId}
use Rattle.gob_left_out.specs.Tally.{TallyRow}
use Rattle.gob_stream.specs.Bounds.{Bounds, within_trees}
use Rattle.gob_stream.specs.Grammar.{GivesIn}
use Rattle.gob_filled.specs.Outcome.{profile}
use Rattle.gob_filled.specs.Stream.{FilledItem, FilledStream, no_more}
use Rattle.gob_types.specs.Base.{base_table}
use Rattle.gob_go.specs.Calls.Reader.{GoReader}
use Rattle.gob_go.specs.Calls.Session.{HasRead, limits_of}
use Rattle.gob_go.specs.Machine.SessionState.{SessionState}
use Rattle.gob_go.proofs.FinishSteps.{after_none}
use Rattle.gob_go.proofs.ItemsLaws.{one_reading}
use Rattle.gob_go_writer.specs.Calls.Writer.{HasPut}
use Rattle.gob_go_writer.specs.Calls.Writer as writer
use Rattle.gob_go_writer.specs.declared.writer.GoWriter.{GoWriter}
use Rattle.gob_tool.specs.Answering.{AppendsPrefix}
use Rattle.gob_tool.specs.LineGo.{IsLinesOf}
use Rattle.gob_tool.specs.ShowingGo.{ShowGoAnswers}
use Rattle.gob_tool.specs.Texts.{no_texts, OfTexts}
use Rattle.gob_tool.specs.declared.fault.ToolFault.{ToolFault}
use Rattle.gob_tool.specs.declared.fault.ToolFault.TheVariants as fault
use Rattle.gob_tool.proofs.EndLaws.{all_kept, prefix_kept}
use Rattle.gob_tool.proofs.TextLaws.{ended_begins, runs_as}
use Rattle.gob_convert.specs.Faults.{EndsConversion, ends_so, flush_fails}
use Rattle.gob_convert.specs.Machine.Converting.{ConvertsSo, StopsConverting}
use Rattle.gob_convert.specs.Machine.Printing.{HasShown, IsCutShort, IsShowStop, IsStream}
use Rattle.gob_convert.specs.Printing.{PrintsLines, shows_so}
use Rattle.gob_convert.specs.Running.{ConvertsBehind}
use Rattle.gob_convert.specs.declared.conversion.Conversion.{Conversion}
use Rattle.gob_convert.specs.declared.fault.ConvertFault.{ConvertFault}
use Rattle.gob_convert.specs.declared.fault.ConvertFault.TheVariants as stop
use Rattle.gob_convert.proofs.ConvertingLaws.{converts_cut, converts_memory, cut_at_front, none_read}
use Rattle.gob_convert.proofs.ShownLaws.{all_out}

-- ---- what was put is a stream
put_ends : {w : GoWriter} {items : List FilledItem} {bytes : List ℕ} → HasPut w items bytes
    → IsStream (within_trees (writer.limits_of w)) bytes
put_ends {items = items} {bytes = bytes} h =
    let a = h.whole.read in
    let one = one_reading a.under_way [] a.stream h.whole.stream (sym a.whole ∙ sym (append-nil bytes)) in
    (items, after_none a one.rest)

-- under the limits of a session
pub put_stream : {w : GoWriter} {items : List FilledItem} {bytes stream : List ℕ} {L : Bounds} → HasPut w items bytes
    → writer.limits_of w ≡ L → stream ≡ bytes → IsStream (within_trees L) stream
put_stream {bytes = bytes} {L = L} h same e = subst (λ b. IsStream (within_trees L) b) (sym e)
    (subst (λ (L : Bounds). IsStream (within_trees L) bytes) same (put_ends h))

-- what stands behind known bytes
pub appended : (stream text : List ℕ) → Appends (Some stream) (Some (stream ++ text)) text
appended stream text = refl

-- ---- how much of its lines went out
-- a flush keeps what went out
pub shown_kept : {s : SessionState} {stream : List ℕ} {start mid new : Option (List ℕ)} → KeepsBytes mid new
    → HasShown s stream start mid → HasShown s stream start new
shown_kept {start = start} {mid = mid} {new = new} k h = record {
  so = record {
    items = h.so.items;
    read = h.so.read;
    text = h.so.text;
    texts = h.so.texts;
    went = Appends-kept start mid new h.so.text h.so.went k;
  };
  whole = h.whole;
}

-- all of them
shows_whole : {s : SessionState} {stream : List ℕ} {start now : Option (List ℕ)} → HasShown s stream start now
    → ShowGoAnswers (within_trees (limits_of s)) stream (Some []) start now (Ok tt)
shows_whole {s = s} {stream = stream} h =
    let a = h.so.read in
    let all = a.whole ∙ ap (λ l. a.prefix ++ l) h.whole ∙ append-nil a.prefix in
    record {
      items = h.so.items;
      table = a.table;
      stream = subst (λ b. FilledStream base_table (within_trees (limits_of s)) h.so.items b a.table) (sym all)
          a.stream;
      end = refl;
      holds = record { text = h.so.text; texts = h.so.texts; holds = h.so.went };
    }

pub shown_cut : {s : SessionState} {stream : List ℕ} {start now : Option (List ℕ)} → HasShown s stream start now
    → IsCutShort (within_trees (limits_of s)) stream start now
shown_cut {s = s} {stream = stream} {start = start} {now = now} h =
    ended_begins profile (shows_whole h) (λ T items o.
    record { text = o.text; texts = o.texts; holds = all_out o.text o.holds })

pub prints_all : {s : SessionState} {stream : List ℕ} {start now : Option (List ℕ)} (r : Result (Unit {0}) ConvertFault)
    → HasShown s stream start now → PrintsLines (within_trees (limits_of s)) stream start now r
prints_all (Ok u) h = shows_whole h
prints_all (Err (stop.Misfits number why)) h = shows_whole h
prints_all (Err (stop.Full why)) h = shows_whole h
prints_all (Err (stop.Clash c)) h = shows_whole h
prints_all (Err (stop.Run (fault.Refused R))) h = shows_whole h
prints_all (Err (stop.Run (fault.Wanted R))) h = shows_whole h
prints_all (Err (stop.Run fault.NoWantedType)) h = shows_whole h
prints_all (Err (stop.Run (fault.Clash path why))) h = shows_whole h
prints_all (Err (stop.Run (fault.LeftOut path number))) h = shows_whole h
prints_all (Err (stop.Run fault.Read)) h = shows_whole h
prints_all (Err (stop.Run fault.Write)) h = shown_cut h
prints_all (Err (stop.Run fault.Memory)) h = shown_cut h

-- under the limits of another session
pub prints_under : {L M : Bounds} (stream : List ℕ) (start now : Option (List ℕ)) (r : Result (Unit {0}) ConvertFault)
    → L ≡ M → PrintsLines (within_trees L) stream start now r → PrintsLines (within_trees M) stream start now r
prints_under stream start now r same h =
    subst (λ (L : Bounds). PrintsLines (within_trees L) stream start now r) same h

pub prints_cut : {L : Bounds} {stream : List ℕ} {start now : Option (List ℕ)} (f : ToolFault) → IsShowStop f
    → IsCutShort L stream start now → PrintsLines L stream start now (Err (stop.Run f))
prints_cut fault.Write s h = h
prints_cut fault.Memory s h = h
prints_cut (fault.Refused R) s h = absurd s
prints_cut (fault.Wanted R) s h = absurd s
prints_cut fault.NoWantedType s h = absurd s
prints_cut (fault.Clash path why) s h = absurd s
prints_cut (fault.LeftOut path number) s h = absurd s
prints_cut fault.Read s h = absurd s

-- behind the flush at the end
module _ (L : Bounds) (stream : List ℕ) (start mid new : Option (List ℕ)) (k : KeepsBytes mid new) where
  whole_kept : (T : Table) (items : List FilledItem) → OfTexts profile IsLinesOf L stream (Appends start mid) items
      → OfTexts profile IsLinesOf L stream (Appends start new) items
  whole_kept T items o =
      record { text = o.text; texts = o.texts; holds = Appends-kept start mid new o.text o.holds k }

  cut_kept : (T : Table) (items : List FilledItem) → OfTexts profile IsLinesOf L stream (AppendsPrefix start mid) items
      → OfTexts profile IsLinesOf L stream (AppendsPrefix start new) items
  cut_kept T items o = record { text = o.text; texts = o.texts; holds = prefix_kept start mid new o.text o.holds k }

  shows_kept : (r : Result (Unit {0}) ToolFault) → ShowGoAnswers L stream (Some []) start mid r
      → ShowGoAnswers L stream (Some []) start new r
  shows_kept r h = runs_as profile L stream (Some [])
      (λ T items. OfTexts profile IsLinesOf L stream (Appends start mid) items)
      (λ T items. OfTexts profile IsLinesOf L stream (Appends start new) items)
      (λ T items. OfTexts profile IsLinesOf L stream (AppendsPrefix start mid) items)
      (λ T items. OfTexts profile IsLinesOf L stream (AppendsPrefix start new) items) r h whole_kept cut_kept

  pub prints_ended : (answer result : Result (Unit {0}) ConvertFault) → EndsConversion answer result
      → PrintsLines L stream start mid answer → PrintsLines L stream start new result
  prints_ended answer result (ends_so e) h =
      subst (λ r. PrintsLines L stream start new r) (sym e) (shows_kept (shows_so answer) h)
  prints_ended answer result (flush_fails o e) h = subst (λ r. PrintsLines L stream start new r) (sym e)
      (ended_begins profile (subst (λ r. PrintsLines L stream start mid r) o h) (λ T items t.
      record { text = t.text; texts = t.texts; holds = all_kept start mid new t.text t.holds k }))

-- ---- what a stopped run has converted
module _ {all : Bool} {r : GoReader} {read now : Option (List ℕ)} {c : Conversion} {W : Table} {u : TypeId}
    {front : List FilledItem} {out stream : List ℕ} {told : List TallyRow}
    (s : ConvertsSo all r read now c W u front out (Some []) (Some stream) told) where
  pub stops_cut : StopsConverting all r read now W u front (Some []) (Some stream) told c.left_out
      (stop.Run fault.Write)
  stops_cut = converts_cut s (Some stream) (all_out (out ++ s.puts.more) s.puts.went)

  pub stops_showing : (f : ToolFault) → IsShowStop f
      → StopsConverting all r read now W u front (Some []) (Some stream) told c.left_out (stop.Run f)
  stops_showing fault.Write is = stops_cut
  stops_showing fault.Memory is = converts_memory s
  stops_showing (fault.Refused R) is = absurd is
  stops_showing (fault.Wanted R) is = absurd is
  stops_showing fault.NoWantedType is = absurd is
  stops_showing (fault.Clash path why) is = absurd is
  stops_showing (fault.LeftOut path number) is = absurd is
  stops_showing fault.Read is = absurd is

-- ---- nothing went out
pub cut_none : {L : Bounds} {stream : List ℕ} (start : Option (List ℕ)) → IsCutShort L stream start start
cut_none {stream = stream} start = record {
  items = [];
  begins = record { prefix = []; rest = stream; table = base_table; stream = no_more; whole = refl };
  holds = record { text = []; texts = no_texts; holds = all_out [] (Appends-nil start) };
}

shows_none : {L : Bounds} (start : Option (List ℕ)) → ShowGoAnswers L [] (Some []) start start (Ok tt)
shows_none start = record {
  items = [];
  table = base_table;
  stream = no_more;
  end = refl;
  holds = record { text = []; texts = no_texts; holds = Appends-nil start };
}

-- of no stream, whatever is answered
pub prints_none : (L : Bounds) (start : Option (List ℕ)) (r : Result (Unit {0}) ConvertFault)
    → PrintsLines L [] start start r
prints_none L start (Ok u) = shows_none start
prints_none L start (Err (stop.Misfits number why)) = shows_none start
prints_none L start (Err (stop.Full why)) = shows_none start
prints_none L start (Err (stop.Clash c)) = shows_none start
prints_none L start (Err (stop.Run (fault.Refused R))) = shows_none start
prints_none L start (Err (stop.Run (fault.Wanted R))) = shows_none start
prints_none L start (Err (stop.Run fault.NoWantedType)) = shows_none start
prints_none L start (Err (stop.Run (fault.Clash path why))) = shows_none start
prints_none L start (Err (stop.Run (fault.LeftOut path number))) = shows_none start
prints_none L start (Err (stop.Run fault.Read)) = shows_none start
prints_none L start (Err (stop.Run fault.Write)) = cut_none start
prints_none L start (Err (stop.Run fault.Memory)) = cut_none start

no_rest : (p q : List ℕ) → [] ≡ p ++ q → q ≡ []
no_rest [] q e = sym e
no_rest (x ∷ p) q e = absurd (cc e)

-- a session that has read nothing
pub nothing_shown : {s : SessionState} (start : Option (List ℕ)) → HasRead s [] [] → HasShown s [] start start
nothing_shown start h = record {
  so = record { items = []; read = h; text = []; texts = no_texts; went = Appends-nil start };
  whole = no_rest h.prefix h.under_way h.whole;
}

-- ---- only the definitions were put
module _ {all : Bool} {bytes : List ℕ} {W : Table} {u : TypeId} {front : List FilledItem} {out : List ℕ} {w : GoWriter}
    {L : Bounds} (now : Option (List ℕ)) (told : List TallyRow) (h : HasPut w front out)
    (same : L ≡ writer.limits_of w) (nothing : GivesIn profile (within_trees L) base_table [] [])
    (known : now ≡ Some bytes) where
  pub front_alone : ConvertsBehind all (within_trees (writer.limits_of w)) bytes now front W u (Some []) (Some out) told
      told (Err (stop.Run fault.Memory))
  front_alone = none_read now (Some []) (Some out) told h same nothing known refl

  pub front_stopped : (f : ToolFault) → IsShowStop f → ConvertsBehind all (within_trees (writer.limits_of w)) bytes now
      front W u (Some []) (Some out) told told (Err (stop.Run f))
  front_stopped fault.Write is = cut_at_front now (Some []) (Some out) told h (all_out out refl)
  front_stopped fault.Memory is = front_alone
  front_stopped (fault.Refused R) is = absurd is
  front_stopped (fault.Wanted R) is = absurd is
  front_stopped fault.NoWantedType is = absurd is
  front_stopped (fault.Clash path why) is = absurd is
  front_stopped (fault.LeftOut path number) is = absurd is
  front_stopped fault.Read is = absurd is
