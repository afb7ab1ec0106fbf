-- How a run goes on that converts the items of a stream, and how it ends.
use Rattle.std.proofs.Common.{◌≡◌, ◌≢◌, ◌∙◌, ap, arith, refl, subst, sym, append_assoc, append-nil, ℕ, ◌<◌, Bool}
use Rattle.std.proofs.Common.{inl, inr, List, [], ◌∷◌, ◌++◌, Option, None, Some, Result, Ok, Err, IfErr}
use Rattle.std.specs.Prelude.{IfSome}
use Rattle.std.specs.Result.{IsErrAnd}
use Rattle.std.specs.Io.KnownBytes.{Appends, Keeps as KeepsBytes}
use Rattle.std.proofs.KnownBytes.{Appends-kept, Appends-trans}
use Rattle.gob_types.specs.Base.{base_table}
use Rattle.gob_types.specs.Ready.{IsReady}
use Rattle.gob_types.specs.Table.{Table}
use Rattle.gob_types.specs.declared.id.TypeId.{TypeId}
use Rattle.gob_types.proofs.PublicLaws.{Keeps, ready_on}
use Rattle.gob_value.specs.Tree.{Tree}
use Rattle.gob_value.specs.View.{view}
use Rattle.gob_value.proofs.PublicLaws.{top_on}
use Rattle.gob_left_out.specs.LeftOut.{Row}
use Rattle.gob_left_out.specs.Tally.{tally_of, TallyRow}
use Rattle.gob_stream.specs.Bounds.{Bounds, within_trees}
use Rattle.gob_stream.specs.Calls.ReaderOf.{StopsBy}
use Rattle.gob_stream.specs.Devices.{counts_up, FlushCounted}
use Rattle.gob_stream.specs.Grammar.{GivesIn}
use Rattle.gob_stream.specs.Stepping.{StandsBy}
use Rattle.gob_stream.specs.declared.fault.Fault.{Fault}
use Rattle.gob_stream.specs.declared.fault.Fault.TheVariants as reading
use Rattle.gob_stream.specs.declared.fault.WriteFault.{WriteFault}
use Rattle.gob_stream.specs.declared.fault.WriteFault.TheVariants as writing
use Rattle.gob_stream.specs.declared.session.Advance.{Advance}
use Rattle.gob_filled.specs.Filled.{Filled}
use Rattle.gob_filled.specs.Outcome.{BeginsFilled, profile}
use Rattle.gob_filled.specs.Stream.{FilledItem, defining, putting, FilledStream, AreFilledItems, of_value}
use Rattle.gob_filled.specs.Stream.{no_more, and_then}
use Rattle.gob_filled_match.proofs.PublicLaws.{known_on, loss_on}
use Rattle.gob_go.specs.Calls.Reader.{EndsWith, GivesItems, GoReader, HasReadFrom, StepsOnFrom, gives_none, gives_one}
use Rattle.gob_go.specs.Calls.Reader.{session_of}
use Rattle.gob_go.specs.Calls.Session.{IsBetweenItems, limits_of, types_of}
use Rattle.gob_go.specs.GoStepping.{go_stepping}
use Rattle.gob_go.specs.Meaning.{ItemMeans, means_definition, means_value}
use Rattle.gob_go.specs.declared.item.GoItem.{GoItem}
use Rattle.gob_go.specs.declared.item.GoItem.TheVariants as item
use Rattle.gob_go.proofs.SessionAnswers.{table_between}
use Rattle.gob_go_writer.specs.Calls.Writer.{HasPut}
use Rattle.gob_go_writer.specs.Calls.Writer as writer
use Rattle.gob_go_writer.specs.declared.writer.GoWriter.{GoWriter}
use Rattle.gob_join.specs.Renaming.{Extends, IsRenaming, NewId, values_of}
use Rattle.gob_join.proofs.JoiningLaws.{fillings_stay, table_grows}
use Rattle.gob_join.proofs.TakingLaws.{item_keeps, none_grown, renaming_on, values_append}
use Rattle.gob_tool.specs.Answering.{AppendsPrefix}
use Rattle.gob_tool.specs.Ending.{CountsOnlyWrites}
use Rattle.gob_tool.specs.Fault.{reading_fault, writing_fault}
use Rattle.gob_tool.specs.Showing.{CountsReadFaults, CountsWriteFaults, MayCount}
use Rattle.gob_tool.specs.declared.fault.ToolFault.TheVariants as fault
use Rattle.gob_tool.proofs.EndLaws.{reads_unread}
use Rattle.gob_tool.proofs.TextLaws.{begun, no_memory, shown_none, shown_stops, shown_whole}
use Rattle.gob_convert.specs.Clashing.{TellsClash}
use Rattle.gob_convert.specs.Converting.{AreConverted, no_item, definition_then, value_then, HasConverted, IsConverted}
use Rattle.gob_convert.specs.Faults.{IsBefore, OfRun}
use Rattle.gob_convert.specs.Running.{converts, clashes, leaves_out, is_full, ConvertsBehind, LeavesField}
use Rattle.gob_convert.specs.Running.{GoesOut, GoesOutCut, StopsAtValue, Tallies}
use Rattle.gob_convert.specs.declared.conversion.Conversion.{Conversion}
use Rattle.gob_convert.specs.declared.fault.ConvertFault.{ConvertFault}
use Rattle.gob_convert.specs.declared.fault.ConvertFault.TheVariants as stop
use Rattle.gob_convert.specs.Machine.Converting.{AreValues, ConvertsItem, ConvertsSo, HasPutSo}
use Rattle.gob_convert.specs.Machine.Converting.{IsLastGiven, IsPutStop, KnowsOn, KnowsSo, PutsReceived}
use Rattle.gob_convert.specs.Machine.Converting.{ids_of, Knows, StopsAt, StopsConverting}

keeps_all : (T : Table) → Keeps T T
keeps_all T = record { shape = none_grown T }

-- ---- what is converted stays so
is_converted_on : {all : Bool} {T W : Table} {t u : TypeId} {R S : NewId} {w made : Filled}
    {rows : List Row} → Extends R S → IsConverted all T W t u R w made rows → IsConverted all T W t u S w made rows
is_converted_on x c = record {
  match = c.match;
  whole = c.whole;
  left_out = c.left_out;
  skeleton = c.skeleton;
  kept = c.kept;
  renamed = c.renamed;
  received = c.received;
  are_renamed = fillings_stay x c.are_renamed;
  made_is = c.made_is;
}

converted_on : {all : Bool} {L : Bounds} {bytes : List ℕ} {W : Table} {u : TypeId} {R S : NewId}
    {items made : List FilledItem} {left : List (List Row)} → Extends R S
    → AreConverted all L bytes W u R items made left → AreConverted all L bytes W u S items made left
converted_on x no_item = no_item
converted_on x (definition_then id v c) = definition_then id v (converted_on x c)
converted_on x (value_then t w made c b v) = value_then t w made (converted_on x c) b (is_converted_on x v)

-- ---- what the values leave out
tallies_none : {told telling : List TallyRow} → telling ≡ told → Tallies told telling []
tallies_none {telling = telling} same = λ before e.
    subst (λ l. telling ≡ tally_of l) (sym (append-nil before)) (same ∙ e)

tallies_on : {told mid telling : List TallyRow} {left more : List (List Row)} → Tallies told mid left
    → Tallies mid telling more → Tallies told telling (left ++ more)
tallies_on {telling = telling} {left = left} {more = more} f g = λ before e.
    subst (λ l. telling ≡ tally_of l) (append_assoc before left more) (g (before ++ left) (f before e))

values_on : {W : Table} {u : TypeId} {U V : Table} → Keeps U V → AreValues W u U → AreValues W u V
values_on k a = record { each = λ v b p. top_on k (a.each v b p) }

-- ---- the last item that was read
last_ready : {base : Table} {L : Bounds} {T U : Table} {o : ℕ} {b : List ℕ} {t : TypeId} (w : Filled)
    (items : List FilledItem) → AreFilledItems base L T o (items ++ putting t w ∷ []) b U → IsReady U t
last_ready w [] (and_then (of_value may s k c) n no_more) = ready_on (item_keeps (of_value may s k c)) may.ready
last_ready w (i ∷ items) (and_then a n rest) = last_ready w items rest

pub given_last : {r r' : GoReader} {read now : Option (List ℕ)} {given : List FilledItem} {step : Advance GoItem}
    (kept : GoItem) → StepsOnFrom r r' read now given step → step.item ≡ Some kept
    → IfSome step.item (λ _. IsBetweenItems (session_of r')) → IsLastGiven (types_of (session_of r')) kept
given_last {r' = r'} {read = read} {now = now} {given = given} kept st is between =
    by st.takes.after (subst (λ o. IfSome o (λ _. IsBetweenItems (session_of r'))) is between)
    (subst (λ o. GivesItems (types_of (session_of r')) o st.more) is st.gives)
  where
    by : {more : List FilledItem} → HasReadFrom r' read now (given ++ more) → IsBetweenItems (session_of r')
        → GivesItems (types_of (session_of r')) (Some kept) more → IsLastGiven (types_of (session_of r')) kept
    by h between (gives_one {i = i} m) = record {
      item = i;
      means = m;
      ready = λ id w e. subst (λ T. IsReady T id) (table_between h.gave between)
          (last_ready w given (subst (λ i. FilledStream base_table (within_trees (limits_of (session_of r')))
          (given ++ i ∷ []) h.gave.prefix h.gave.table) e h.gave.stream));
    }

-- no item changes nothing
pub none_same : (all : Bool) (c c' : Conversion) (old new : List ℕ) (T W : Table) (u : TypeId)
    (r : Result (Unit {0}) ConvertFault) (o : Option GoItem) → ConvertsItem all o c c' old new T W u r → o ≡ None
    → c' ≡ c
none_same all c c' old new T W u r None q e = q.1
none_same all c c' old new T W u r (Some given) q e = absurd (cc e)

-- the type of a value that was given is ready
pub last_put_ready : {T : Table} {id : TypeId} {kept : _} (o : Option GoItem) → o ≡ Some (item.Put id kept)
    → IfSome o (IsLastGiven T) → IsReady T id
last_put_ready {T = T} {id = id} {kept = kept} o e l = by (subst (λ o. IfSome o (IsLastGiven T)) e l)
  where
    of : (i : FilledItem) → ItemMeans T (item.Put id kept) i
        → ((t : TypeId) (w : Filled) → i ≡ putting t w → IsReady T t) → IsReady T id
    of i (means_value m) f = f _ _ refl

    by : IsLastGiven T (item.Put id kept) → IsReady T id
    by g = of g.item g.means g.ready

-- ---- from item to item
-- the types that were there are there
pub tables_on : {r r' : GoReader} {read now next : Option (List ℕ)} {given all : List FilledItem}
    (more : List FilledItem)
    → (h : HasReadFrom r read now given) → limits_of (session_of r') ≡ limits_of (session_of r)
    → (k : HasReadFrom r' read next all) → all ≡ given ++ more → Keeps h.gave.table k.gave.table
tables_on more h same k e = table_grows more (ap within_trees same) e h.gave.stream k.gave.stream

pub knows_grown : {T V : Table} (U : Table) (u : TypeId) (c : Conversion) → Keeps T V → Knows T U u c → Knows V U u c
knows_grown U u c keeps k = record {
  match = known_on U u c.last keeps k.match;
  loss = loss_on U u c.loss keeps k.loss;
}

unfoldable pub knows_first : {r : GoReader} {read : Option (List ℕ)} {c : Conversion} {W : Table} {u : TypeId}
    → HasReadFrom r read read [] → StandsBy go_stepping (session_of r)
    → ((T : Table) → Knows T W u c) → KnowsSo r read read c W u
knows_first h stands known = record { given = []; has = h; stands = stands; known = known h.gave.table }

-- more was read
unfoldable pub knows_read : {r r' : GoReader} {read now next : Option (List ℕ)} {c : Conversion} {W : Table}
    {u : TypeId}
    (s : KnowsSo r read now c W u) → session_of r' ≡ session_of r → HasReadFrom r' read next s.given
    → KnowsSo r' read next c W u
knows_read {c = c} {W = W} {u = u} s same h = record {
  given = s.given;
  has = h;
  stands = subst (λ z. StandsBy go_stepping z) (sym same) s.stands;
  known = knows_grown W u c (tables_on [] s.has (ap limits_of same) h (sym (append-nil s.given))) s.known;
}

-- a step was taken
unfoldable pub knows_step : {r r' : GoReader} {read now : Option (List ℕ)} {c : Conversion} {W : Table} {u : TypeId}
    {step : Advance GoItem} (c' : Conversion) (s : KnowsSo r read now c W u)
    → limits_of (session_of r') ≡ limits_of (session_of r) → StandsBy go_stepping (session_of r')
    → StepsOnFrom r r' read now s.given step → IfSome step.item (λ _. IsBetweenItems (session_of r'))
    → (step.item ≡ None → c' ≡ c)
    → IfSome step.item (λ _. Knows (types_of (session_of r')) W u c') → KnowsSo r' read now c' W u
knows_step {r' = r'} {read = read} {now = now} {c = c} {W = W} {u = u} {step = step} c' s same stands st between none
    known = record {
      given = s.given ++ st.more;
      has = st.takes.after;
      stands = stands;
      known = by step.item refl between known;
    }
  where
    T : Table
    T = st.takes.after.gave.table

    by : (o : Option GoItem) → step.item ≡ o → IfSome o (λ _. IsBetweenItems (session_of r'))
        → IfSome o (λ _. Knows (types_of (session_of r')) W u c') → Knows T W u c'
    by None e b k = subst (λ c. Knows T W u c) (sym (none e))
        (knows_grown W u c (tables_on st.more s.has same st.takes.after refl) s.known)
    by (Some given) e b k = subst (λ T. Knows T W u c') (sym (table_between st.takes.after.gave b)) k

-- what is known of what a step gave
pub last_behind : {r r' : GoReader} {read now : Option (List ℕ)} {given : List FilledItem} {step : Advance GoItem}
    (T : Table) → T ≡ types_of (session_of r') → StepsOnFrom r r' read now given step
    → IfSome step.item (λ _. IsBetweenItems (session_of r')) → IfSome step.item (IsLastGiven T)
last_behind {r' = r'} {step = step} T here st between = by step.item refl
  where
    by : (o : Option GoItem) → step.item ≡ o → IfSome o (IsLastGiven T)
    by None e = tt
    by (Some kept) e = subst (λ T. IsLastGiven T kept) (sym here) (given_last kept st e between)

pub known_behind : {r r' : GoReader} {read now : Option (List ℕ)} {c : Conversion} {W : Table} {u : TypeId}
    {step : Advance GoItem} (T : Table) → T ≡ types_of (session_of r') → (s : KnowsSo r read now c W u)
    → limits_of (session_of r') ≡ limits_of (session_of r) → StepsOnFrom r r' read now s.given step
    → IfSome step.item (λ _. IsBetweenItems (session_of r')) → IfSome step.item (λ _. Knows T W u c)
known_behind {r' = r'} {c = c} {W = W} {u = u} {step = step} T here s same st between = by step.item between
  where
    by : (o : Option GoItem) → IfSome o (λ _. IsBetweenItems (session_of r')) → IfSome o (λ _. Knows T W u c)
    by None b = tt
    by (Some kept) b = subst (λ T. Knows T W u c) (table_between st.takes.after.gave b ∙ sym here)
        (knows_grown W u c (tables_on st.more s.has same st.takes.after refl) s.known)

pub known_as : {T U : Table} (c : Conversion) (W : Table) (u : TypeId) (o : Option GoItem) → T ≡ U
    → IfSome o (λ _. Knows T W u c) → IfSome o (λ _. Knows U W u c)
known_as c W u None e k = tt
known_as c W u (Some given) e k = subst (λ T. Knows T W u c) e k

pub knows_on : {r r' : GoReader} {read now : Option (List ℕ)} {c : Conversion} {W : Table} {u : TypeId}
    {given : List FilledItem} {step : Advance GoItem} → 0 < step.used → StepsOnFrom r r' read now given step
    → KnowsSo r' read now c W u → KnowsOn r r' read now c W u
knows_on some st k = record { so = k; onward = omega (arith, some, st.takes.onward) }

-- the fault of a failed write
pub written_at : (e : WriteFault) (res : Result (Unit {0}) ConvertFault) → e ≡ writing.Write
    → IsErrAnd res (λ x. x ≡ stop.Run (writing_fault e)) → IsErrAnd res (λ x. x ≡ stop.Run fault.Write)
written_at e (Ok u) write is = is
written_at e (Err f) write is = is ∙ ap (λ e. stop.Run (writing_fault e)) write

-- a reader of the same limits
pub under_limits : {all : Bool} {read now start sent : Option (List ℕ)} {told telling : List TallyRow} {W : Table}
    {u : TypeId} {front : List FilledItem} (r r' : GoReader) (e : ConvertFault)
    → limits_of (session_of r') ≡ limits_of (session_of
    r)
    → StopsConverting all r read now W u front start sent told telling e
    → StopsConverting all r' read now W u front start sent told telling e
under_limits {all = all} {now = now} {start = start} {sent = sent} {told = told} {telling = telling} {W = W} {u = u}
    {front = front} r r' e same h =
    λ bytes known. subst (λ (L : Bounds). ConvertsBehind all (within_trees L) bytes now front W u start sent told
    telling
    (Err e))
    (sym same) (h bytes known)

module _ {all : Bool} {W : Table} {u : TypeId} {front : List FilledItem} {out : List ℕ} {start : Option (List ℕ)}
    {told : List TallyRow} where
  pub puts_first : {r : GoReader} {read sent : Option (List ℕ)} {c : Conversion} {T : Table} → HasPut c.writer front out
      → Appends start sent out → writer.limits_of c.writer ≡ limits_of (session_of r)
      → AreValues W u (writer.types_of c.writer) → ((T U : Table) → IsRenaming (ids_of c) T U)
      → c.left_out ≡ told → HasPutSo all r read [] T c W u front out start sent told
  puts_first {sent = sent} {c = c} p a limits fits none same = record {
    items = [];
    more = [];
    put = subst (λ is. HasPut c.writer is (out ++ [])) (sym (append-nil front))
        (subst (λ b. HasPut c.writer front b) (sym (append-nil out)) p);
    went = subst (λ b. Appends start sent b) (sym (append-nil out)) a;
    limits = limits;
    fits = fits;
    renaming = none _ _;
    left = [];
    tallies = tallies_none same;
    values = λ bytes known. no_item;
  }

  -- nothing more was given
  pub puts_still : {r r' : GoReader} {read mid : Option (List ℕ)} {given : List FilledItem} {T U : Table}
      {c : Conversion} → HasPutSo all r read given T c W u front out start mid told
      → limits_of (session_of r') ≡ limits_of (session_of r) → Keeps T U
      → HasPutSo all r' read given U c W u front out start mid told
  puts_still {given = given} {c = c} p same keeps = record {
    items = p.items;
    more = p.more;
    put = p.put;
    went = p.went;
    limits = p.limits ∙ sym same;
    fits = p.fits;
    renaming = renaming_on keeps.shape (none_grown (writer.types_of c.writer)) p.renaming;
    left = p.left;
    tallies = p.tallies;
    values = λ bytes known. subst (λ (L : Bounds). AreConverted all (within_trees L) bytes W u (ids_of c) given
        (values_of p.items) p.left) (sym same) (p.values bytes known);
  }

  -- a type was defined
  puts_definition : {r : GoReader} {read mid : Option (List ℕ)} {given : List FilledItem} {T : Table} {c : Conversion}
      (id : TypeId) (v : Tree) → HasPutSo all r read given T c W u front out start mid told
      → HasPutSo all r read (given ++ defining id v ∷ []) T c W u front out start mid told
  puts_definition id v p = record {
    items = p.items;
    more = p.more;
    put = p.put;
    went = p.went;
    limits = p.limits;
    fits = p.fits;
    renaming = p.renaming;
    left = p.left;
    tallies = p.tallies;
    values = λ bytes known. definition_then id v (p.values bytes known);
  }

  -- nothing was sent
  puts_unsent : {r : GoReader} {read mid new : Option (List ℕ)} {given : List FilledItem} {T : Table} {c : Conversion}
      → HasPutSo all r read given T c W u front out start mid told → Appends mid new []
      → HasPutSo all r read given T c W u front out start new told
  puts_unsent {mid = mid} {new = new} p a = record {
    items = p.items;
    more = p.more;
    put = p.put;
    went = subst (λ l. Appends start new l) (append-nil (out ++ p.more))
        (Appends-trans start mid new (out ++ p.more) [] p.went a);
    limits = p.limits;
    fits = p.fits;
    renaming = p.renaming;
    left = p.left;
    tallies = p.tallies;
    values = p.values;
  }

  -- a value was put
  puts_value : {r : GoReader} {read mid new : Option (List ℕ)} {given : List FilledItem} {T : Table}
      {c c' : Conversion} {old text : List ℕ} {t : TypeId} {w : Filled}
      (p : HasPutSo all r read given T c W u front out start mid told)
      → PutsReceived all c c' (front ++ p.items) (out ++ p.more) old text T W t u w → old ≡ [] → Appends mid new text
      → writer.limits_of c'.writer ≡ writer.limits_of c.writer
      → ((bytes : List ℕ) → read ≡ Some bytes
      → (b : BeginsFilled base_table (within_trees (limits_of (session_of r))) bytes (given ++ putting t w ∷ []))
      × (b.table ≡ T))
      → HasPutSo all r read (given ++ putting t w ∷ []) T c' W u front out start new told
  puts_value {r = r} {read = read} {mid = mid} {new = new} {given = given} {T = T} {c' = c'} {old = old} {text = text}
      {t = t} {w = w} p q empty sent same begins = record {
        items = p.items ++ q.more;
        more = p.more ++ q.on.spelled;
        put = subst (λ is. HasPut c'.writer is (out ++ (p.more ++ q.on.spelled))) (append_assoc front p.items q.more)
            (subst (λ b. HasPut c'.writer ((front ++ p.items) ++ q.more) b) (append_assoc out p.more q.on.spelled)
            q.on.put);
        went = subst (λ b. Appends start new b) (append_assoc out p.more q.on.spelled)
            (Appends-trans start mid new (out ++ p.more) q.on.spelled p.went
            (subst (λ l. Appends mid new l) (q.on.text ∙ ap (λ l. l ++ q.on.spelled) empty) sent));
        limits = same ∙ p.limits;
        fits = values_on (record { shape = q.on.grown }) p.fits;
        renaming = q.renaming;
        left = p.left ++ q.rows ∷ [];
        tallies = tallies_on p.tallies q.tallies;
        values = λ bytes known.
            let b = begins bytes known in
            subst (λ l. AreConverted all (within_trees (limits_of (session_of r))) bytes W u (ids_of c')
            (given ++ putting t w ∷ []) l (p.left ++ q.rows ∷ []))
            (sym (values_append p.items q.more ∙ ap (λ l. values_of p.items ++ l) q.values))
            (value_then t w q.made (converted_on q.extends (p.values bytes known)) b.0
            (subst (λ T. IsConverted all T W t u (ids_of c') w q.made q.rows) (sym b.1) q.converted));
      }

  -- what a step gave is converted
  puts_item : {r : GoReader} {read next mid new : Option (List ℕ)} {given more : List FilledItem} {c c' : Conversion}
      {old : List ℕ} (o : Option GoItem) (text : List ℕ) → StandsBy go_stepping (session_of r)
      → (h : HasReadFrom r read next (given ++ more)) → HasPutSo all r read given h.gave.table c W u front out start mid
      told
      → IfSome o (λ _. IsBetweenItems (session_of r)) → GivesItems (types_of (session_of r)) o more
      → ConvertsItem all o c c' old text (types_of (session_of r)) W u (Ok tt) → old ≡ [] → Appends mid new text
      → writer.limits_of c'.writer ≡ writer.limits_of c.writer
      → HasPutSo all r read (given ++ more) h.gave.table c' W u front out start new told
  puts_item {r = r} {read = read} {mid = mid} {new = new} {given = given} {c = c} {c' = c'} None text stands h p between
      gives_none q empty sent same =
      subst (λ c. HasPutSo all r read (given ++ []) h.gave.table c W u front out start new told) (sym q.1)
      (subst (λ is. HasPutSo all r read is h.gave.table c W u front out start new told) (sym (append-nil given))
      (puts_unsent p (subst (λ l. Appends mid new l) (q.2 ∙ empty) sent)))
  puts_item {r = r} {read = read} {next = next} {mid = mid} {new = new} {given = given} {c = c} {c' = c'}
      (Some (item.Define id described)) text stands h p between (gives_one {i = i} m) q empty sent same = by i m h p
    where
      by : (i : FilledItem) → ItemMeans (types_of (session_of r)) (item.Define id described) i
          → (h : HasReadFrom r read next (given ++ i ∷ []))
          → HasPutSo all r read given h.gave.table c W u front out start mid told
          → HasPutSo all r read (given ++ i ∷ []) h.gave.table c' W u front out start new told
      by i means_definition h p =
          subst (λ c. HasPutSo all r read (given ++ defining id (view described) ∷ []) h.gave.table c W u front out
          start new told) (sym q.1)
          (puts_definition id (view described) (puts_unsent p (subst (λ l. Appends mid new l) (q.2 ∙ empty) sent)))
  puts_item {r = r} {read = read} {next = next} {mid = mid} {new = new} {given = given} {c = c} {c' = c'} {old = old}
      (Some (item.Put id kept)) text stands h p between (gives_one {i = i} m) q empty sent same = by i m h p
    where
      by : (i : FilledItem) → ItemMeans (types_of (session_of r)) (item.Put id kept) i
          → (h : HasReadFrom r read next (given ++ i ∷ []))
          → HasPutSo all r read given h.gave.table c W u front out start mid told
          → HasPutSo all r read (given ++ i ∷ []) h.gave.table c' W u front out start new told
      by i (means_value {w = w} m) h p =
          let here = table_between h.gave between in
          puts_value p (subst (λ T. PutsReceived all c c' (front ++ p.items) (out ++ p.more) old text T W id u w)
          (sym here) (q w (front ++ p.items) (out ++ p.more) m p.put
          (subst (λ T. IsRenaming (ids_of c) T (writer.types_of c.writer)) here p.renaming) p.fits)) empty sent same
          (λ bytes known. begun go_stepping stands.gives bytes h known)

  -- ---- the ends
  -- what went out
  has_converted : {r : GoReader} {read sent : Option (List ℕ)} {given : List FilledItem} {T U : Table}
      {c : Conversion} (p : HasPutSo all r read given T c W u front out start sent told)
      (P : List ℕ → List (List Row) → Type 0) → P (out ++ p.more) p.left → Keeps T U → (bytes : List ℕ)
      → read ≡ Some bytes
      → HasConverted all (within_trees (limits_of (session_of r))) bytes front W u P U given
  has_converted {c = c} p P holds keeps bytes known = record {
    made = p.items;
    out = out ++ p.more;
    table = writer.types_of c.writer;
    stream = subst (λ (L : Bounds). FilledStream base_table (within_trees L) (front ++ p.items) (out ++ p.more)
        (writer.types_of c.writer)) p.limits p.put.whole.stream;
    ids = ids_of c;
    renaming = renaming_on keeps.shape (none_grown (writer.types_of c.writer)) p.renaming;
    left = p.left;
    values = p.values bytes known;
    holds = holds;
  }

  module _ {r : GoReader} {read now sent : Option (List ℕ)} {c : Conversion}
      (s : ConvertsSo all r read now c W u front out start sent told) where
    whole_so : {U : Table} → Keeps s.knows.has.gave.table U → (bytes : List ℕ) → read ≡ Some bytes
        → HasConverted all (within_trees (limits_of (session_of r))) bytes front W u
        (GoesOut start sent told c.left_out) U s.knows.given
    whole_so keeps bytes known = has_converted s.puts (GoesOut start sent told c.left_out)
        (record { sent = s.puts.went; tallies = s.puts.tallies }) keeps bytes known

    -- a read stopped it
    pub converts_stopped : (next : Option (List ℕ)) (e : Fault)
        → StopsBy go_stepping (session_of r) s.knows.has.gave.table read next s.knows.given e
        → StopsConverting all r read next W u front start sent told c.left_out (stop.Run (reading_fault e))
    converts_stopped next e stops = λ bytes known.
        let L = within_trees (limits_of (session_of r)) in
        converts (Err (reading_fault e)) (shown_stops profile L s.knows.has.gave.table s.knows.given bytes next
        (HasConverted all L bytes front W u (GoesOut start sent told c.left_out))
        (HasConverted all L bytes front W u (GoesOutCut start sent told c.left_out)) e (stops bytes known)
        (whole_so (keeps_all s.knows.has.gave.table) bytes known))

    pub converts_memory : StopsConverting all r read now W u front start sent told c.left_out (stop.Run fault.Memory)
    converts_memory = converts_stopped now reading.Memory (no_memory go_stepping s.knows.stands.gives s.knows.has)

    -- the writer did
    pub converts_full : (why : _) → StopsConverting all r read now W u front start sent told c.left_out (stop.Full why)
    converts_full why = λ bytes known.
        let b = begun go_stepping s.knows.stands.gives bytes s.knows.has known in
        is_full (record {
          items = s.knows.given;
          begins = b.0;
          holds = whole_so (subst (λ T. Keeps s.knows.has.gave.table T) (sym b.1) (keeps_all s.knows.has.gave.table))
              bytes known;
        })

    -- a write did
    pub converts_cut : (new : Option (List ℕ)) → AppendsPrefix start new (out ++ s.puts.more)
        → StopsConverting all r read now W u front start new told c.left_out (stop.Run fault.Write)
    converts_cut new cut = λ bytes known.
        let b = begun go_stepping s.knows.stands.gives bytes s.knows.has known in
        converts (Err fault.Write) (record {
          items = s.knows.given;
          begins = b.0;
          holds = has_converted s.puts (GoesOutCut start new told c.left_out)
              (record { sent = cut; tallies = s.puts.tallies })
              (subst (λ T. Keeps s.knows.has.gave.table T) (sym b.1) (keeps_all s.knows.has.gave.table)) bytes known;
        })

    -- a flush keeps what went out
    pub converts_kept : (new : Option (List ℕ)) → KeepsBytes sent new → ConvertsSo all r read now c W u front out start
        new told
    converts_kept new keeps = let p = s.puts in record {
      knows = s.knows;
      puts = record {
        items = p.items;
        more = p.more;
        put = p.put;
        went = Appends-kept start sent new (out ++ p.more) p.went keeps;
        limits = p.limits;
        fits = p.fits;
        renaming = p.renaming;
        left = p.left;
        tallies = p.tallies;
        values = p.values;
      };
    }

    pub converts_whole : {T : Table} {taken : ℕ} {next : Option (List ℕ)} → (bytes : List ℕ) → read ≡ Some bytes
        → EndsWith (within_trees (limits_of (session_of r))) T taken s.knows.given bytes next
        → ConvertsBehind all (within_trees (limits_of (session_of r))) bytes next front W u start sent told c.left_out
        (Ok tt)
    converts_whole {T = T} {next = next} bytes known e =
        let L = within_trees (limits_of (session_of r)) in
        converts (Ok tt) (shown_whole profile (HasConverted all L bytes front W u
        (GoesOut start sent told c.left_out)) e
        (whole_so (table_grows [] refl (sym (append-nil s.knows.given)) s.knows.has.gave.stream e.stream) bytes known))

  -- the next value did, of which the step gave what stands for it
  pub converts_refused : {r r' : GoReader} {read now sent : Option (List ℕ)} {c : Conversion}
      {step : Advance GoItem} (c' : Conversion) (text text' : List ℕ)
      (s : ConvertsSo all r read now c W u front out start sent told) (e : ConvertFault)
      → limits_of (session_of r') ≡ limits_of (session_of r) → StandsBy go_stepping (session_of r')
      → StepsOnFrom r r' read now s.knows.given step → IfSome step.item (λ _. IsBetweenItems (session_of r'))
      → ConvertsItem all step.item c c' text text' (types_of (session_of r')) W u (Err e)
      → StopsConverting all r' read now W u front start sent told c.left_out e
  converts_refused {r = r} {r' = r'} {read = read} {now = now} {sent = sent} {c = c} {step = step} c' text text' s e
      same stands st between q = λ bytes known.
      subst (λ (L : Bounds). ConvertsBehind all (within_trees L) bytes now front W u start sent told c.left_out (Err e))
      (sym same)
      (by step.item st.takes.after between st.gives q bytes known)
    where
      L : Bounds
      L = within_trees (limits_of (session_of r))

      at : (id : TypeId) (w : Filled) (Q : Table → TypeId → Filled → Type 0)
          → (h : HasReadFrom r' read now (s.knows.given ++ putting id w ∷ [])) → IsBetweenItems (session_of r')
          → Q (types_of (session_of r')) id w → (bytes : List ℕ) → read ≡ Some bytes
          → StopsAtValue L bytes (HasConverted all L bytes front W u (GoesOut start sent told c.left_out)) Q
      at id w Q h between stops bytes known =
          let b = begun go_stepping stands.gives bytes h known in
          let grows = tables_on (putting id w ∷ []) s.knows.has same h refl in
          subst (λ (M : Bounds). StopsAtValue (within_trees M) bytes
          (HasConverted all L bytes front W u (GoesOut start sent told c.left_out)) Q) same (record {
            items = s.knows.given;
            id = id;
            value = w;
            begins = b.0;
            holds = whole_so s (subst (λ T. Keeps s.knows.has.gave.table T) (sym b.1) grows) bytes known;
            stops = subst (λ T. Q T id w) (sym (b.1 ∙ table_between h.gave between)) stops;
          })

      value : (id : TypeId) (w : Filled) (e : ConvertFault)
          → (h : HasReadFrom r' read now (s.knows.given ++ putting id w ∷ [])) → IsBetweenItems (session_of r')
          → StopsAt all (types_of (session_of r')) W id u w e → (bytes : List ℕ) → read ≡ Some bytes
          → ConvertsBehind all L bytes now front W u start sent told c.left_out (Err e)
      value id w (stop.Misfits number why) h between stops bytes known = absurd stops
      value id w (stop.Full why) h between stops bytes known = converts_full s why bytes known
      value id w (stop.Clash c) h between stops bytes known =
          clashes (at id w (λ T t w. TellsClash T W t u c) h between stops bytes known)
      value id w (stop.Run (fault.Clash path why)) h between stops bytes known = absurd stops
      value id w (stop.Run (fault.LeftOut path number)) h between stops bytes known =
          leaves_out stops.0 (at id w (LeavesField W u path.items) h between stops.1 bytes known)
      value id w (stop.Run fault.Memory) h between stops bytes known = converts_memory s bytes known
      value id w (stop.Run (fault.Refused R)) h between stops bytes known = absurd stops
      value id w (stop.Run (fault.Wanted R)) h between stops bytes known = absurd stops
      value id w (stop.Run fault.NoWantedType) h between stops bytes known = absurd stops
      value id w (stop.Run fault.Read) h between stops bytes known = absurd stops
      value id w (stop.Run fault.Write) h between stops bytes known = absurd stops

      by : {more : List FilledItem} (o : Option GoItem) → HasReadFrom r' read now (s.knows.given ++ more)
          → IfSome o (λ _. IsBetweenItems (session_of r')) → GivesItems (types_of (session_of r')) o more
          → ConvertsItem all o c c' text text' (types_of (session_of r')) W u (Err e)
          → (bytes : List ℕ) → read ≡ Some bytes → ConvertsBehind all L bytes now front W u start sent told c.left_out
          (Err e)
      by None h between g q bytes known = absurd (cc q.0)
      by (Some (item.Define id described)) h between g q bytes known = absurd (cc q.0)
      by (Some (item.Put id kept)) h between (gives_one (means_value {w = w} m)) q bytes known =
          let grows = tables_on (putting id w ∷ []) s.knows.has same h refl in
          let p = s.puts in
          value id w e h between (q w (front ++ p.items) (out ++ p.more) m p.put
          (subst (λ T. IsRenaming (ids_of c) T (writer.types_of c.writer)) (table_between h.gave between)
          (renaming_on grows.shape (none_grown (writer.types_of c.writer)) p.renaming)) p.fits) bytes known

  -- more was read
  pub converts_read : {r r' : GoReader} {read now next sent : Option (List ℕ)} {c : Conversion}
      (s : ConvertsSo all r read now c W u front out start sent told) → session_of r' ≡ session_of r
      → HasReadFrom r' read next s.knows.given → ConvertsSo all r' read next c W u front out start sent told
  unfolding knows_read
  converts_read s same h = record {
    knows = knows_read s.knows same h;
    puts = puts_still s.puts (ap limits_of same)
        (tables_on [] s.knows.has (ap limits_of same) h (sym (append-nil s.knows.given)));
  }

  -- a step was taken, and what it gave went out
  pub converts_step : {r r' : GoReader} {read now mid new : Option (List ℕ)} {c c' : Conversion} {step : Advance GoItem}
      {old : List ℕ} (text : List ℕ) (s : ConvertsSo all r read now c W u front out start mid told)
      → limits_of (session_of r') ≡ limits_of (session_of r) → StandsBy go_stepping (session_of r')
      → (st : StepsOnFrom r r' read now s.knows.given step) → IfSome step.item (λ _. IsBetweenItems (session_of r'))
      → IfSome step.item (λ _. Knows (types_of (session_of r')) W u c')
      → ConvertsItem all step.item c c' old text (types_of (session_of r')) W u (Ok tt) → old ≡ []
      → writer.limits_of c'.writer ≡ writer.limits_of c.writer → Appends mid new text
      → ConvertsSo all r' read now c' W u front out start new told
  unfolding knows_step
  converts_step {r' = r'} {c = c} {c' = c'} {step = step} {old = old} text s same stands st between known q empty limits
      sent = record {
        knows = knows_step c' s.knows same stands st between
            (none_same all c c' old text (types_of (session_of r')) W u (Ok tt) step.item q) known;
        puts = puts_item step.item text stands st.takes.after
            (puts_still s.puts same (tables_on st.more s.knows.has same st.takes.after refl)) between st.gives q empty
            sent
            limits;
      }

-- ---- what is counted, and what stops no run before the input is read
pub reading_own : (e : Fault) → IsBefore (stop.Run (reading_fault e)) → ⊥
reading_own (reading.Refused R) b = b
reading_own reading.Read b = b
reading_own reading.Memory b = b
reading_own reading.Failed b = b

pub reading_writes : (old new : ℕ) (e : Fault) → new ≡ old → OfRun (CountsOnlyWrites old new)
    (Err (stop.Run (reading_fault e)))
reading_writes old new (reading.Refused R) same = same
reading_writes old new reading.Read same = same
reading_writes old new reading.Memory same = same
reading_writes old new reading.Failed same = same

pub writing_own : (e : WriteFault) → IsBefore (stop.Run (writing_fault e)) → ⊥
writing_own (writing.Refused R) b = b
writing_own writing.Write b = b
writing_own writing.Memory b = b
writing_own writing.Failed b = b

pub put_own : (e : ConvertFault) → IsPutStop e → IsBefore e → ⊥
put_own (stop.Misfits number why) s b = s
put_own (stop.Full why) s b = b
put_own (stop.Clash c) s b = b
put_own (stop.Run (fault.Refused R)) s b = b
put_own (stop.Run (fault.Wanted R)) s b = s
put_own (stop.Run fault.NoWantedType) s b = s
put_own (stop.Run (fault.Clash path why)) s b = s
put_own (stop.Run (fault.LeftOut path number)) s b = b
put_own (stop.Run fault.Read) s b = b
put_own (stop.Run fault.Write) s b = b
put_own (stop.Run fault.Memory) s b = b

pub put_writes : (failures : ℕ) (e : ConvertFault) → IsPutStop e → OfRun (CountsOnlyWrites failures failures) (Err e)
put_writes failures (stop.Misfits number why) s = refl
put_writes failures (stop.Full why) s = refl
put_writes failures (stop.Clash c) s = refl
put_writes failures (stop.Run (fault.Refused R)) s = refl
put_writes failures (stop.Run (fault.Wanted R)) s = refl
put_writes failures (stop.Run fault.NoWantedType) s = refl
put_writes failures (stop.Run (fault.Clash path why)) s = refl
put_writes failures (stop.Run (fault.LeftOut path number)) s = refl
put_writes failures (stop.Run fault.Read) s = refl
put_writes failures (stop.Run fault.Write) s = absurd s
put_writes failures (stop.Run fault.Memory) s = refl

pub put_unread : (e : ConvertFault) → IsPutStop e → e ≢ stop.Run fault.Read
put_unread e s is = subst IsPutStop is s

-- no read failed behind those that were counted
pub convert_unread : (old new : ℕ) (e : ConvertFault) → new ≡ old → e ≢ stop.Run fault.Read
    → OfRun (CountsReadFaults old new) (Err e)
convert_unread old new (stop.Misfits number why) same other = same
convert_unread old new (stop.Full why) same other = same
convert_unread old new (stop.Clash c) same other = same
convert_unread old new (stop.Run f) same other = reads_unread old new (Err f) same (λ is. other (ap stop.Run is))

-- the flush behind a fault may fail
pub ended_writes : {E : Type 0} (failures old new : ℕ) (res : Result (Unit {0}) E)
    (answer : Result (Unit {0}) ConvertFault) → IfErr answer (λ f. IsBefore f → ⊥)
    → (answer ≡ Err (stop.Run fault.Write) → ⊥) → (answer ≡ Ok tt → ⊥) → FlushCounted old new res
    → OfRun (CountsOnlyWrites failures old) answer → OfRun (CountsWriteFaults failures new) answer
ended_writes {E = E} failures old new res answer own other some counted = of answer own other some
  where
    may : (res : Result (Unit {0}) E) → FlushCounted old new res → old ≡ failures → MayCount failures new
    may (Ok u) c h = inl (c ∙ h)
    may (Err e) c h = inr (c ∙ ap (λ n. counts_up n 1) h)

    of : (answer : Result (Unit {0}) ConvertFault) → IfErr answer (λ f. IsBefore f → ⊥)
        → (answer ≡ Err (stop.Run fault.Write) → ⊥) → (answer ≡ Ok tt → ⊥)
        → OfRun (CountsOnlyWrites failures old) answer → OfRun (CountsWriteFaults failures new) answer
    of (Ok u) own other some h = absurd (some refl)
    of (Err (stop.Misfits number why)) own other some h = absurd (own tt)
    of (Err (stop.Full why)) own other some h = may res counted h
    of (Err (stop.Clash c)) own other some h = may res counted h
    of (Err (stop.Run (fault.Refused R))) own other some h = may res counted h
    of (Err (stop.Run (fault.Wanted R))) own other some h = may res counted h
    of (Err (stop.Run fault.NoWantedType)) own other some h = may res counted h
    of (Err (stop.Run (fault.Clash path why))) own other some h = may res counted h
    of (Err (stop.Run (fault.LeftOut path number))) own other some h = may res counted h
    of (Err (stop.Run fault.Read)) own other some h = may res counted h
    of (Err (stop.Run fault.Write)) own other some h = absurd (other refl)
    of (Err (stop.Run fault.Memory)) own other some h = may res counted h

-- ---- nothing was read
none_converted : {all : Bool} {bytes : List ℕ} {W : Table} {u : TypeId} {front : List FilledItem} {out : List ℕ}
    {w : GoWriter} {L : Bounds} (P : List ℕ → List (List Row) → Type 0) (T : Table) → HasPut w front out
    → writer.limits_of w ≡ L
    → P out []
    → HasConverted all (within_trees L) bytes front W u P T []
none_converted {front = front} {out = out} {w = w} {L = L} P T h same holds = record {
  made = [];
  out = out;
  table = writer.types_of w;
  stream = subst (λ is. FilledStream base_table (within_trees L) is out (writer.types_of w)) (sym (append-nil front))
      (subst (λ (L : Bounds). FilledStream base_table (within_trees L) front out (writer.types_of w)) same
      h.whole.stream);
  ids = λ t. None;
  renaming = record { each = λ t u e. absurd (cc e) };
  left = [];
  values = no_item;
  holds = holds;
}

pub cut_at_front : {all : Bool} {bytes : List ℕ} {W : Table} {u : TypeId} {front : List FilledItem} {out : List ℕ}
    {w : GoWriter} (now start new : Option (List ℕ)) (told : List TallyRow) → HasPut w front out
    → AppendsPrefix start new out → ConvertsBehind all (within_trees (writer.limits_of w)) bytes now front W u start new
    told told (Err (stop.Run fault.Write))
cut_at_front {bytes = bytes} now start new told h cut = converts (Err fault.Write) (record {
  items = [];
  begins = record { prefix = []; rest = bytes; table = base_table; stream = no_more; whole = refl };
  holds = none_converted (GoesOutCut start new told told) base_table h refl
      (record { sent = cut; tallies = tallies_none refl });
})

pub none_read : {all : Bool} {bytes : List ℕ} {W : Table} {u : TypeId} {front : List FilledItem} {out : List ℕ}
    {w : GoWriter} {L : Bounds} (now start new : Option (List ℕ)) (told : List TallyRow) → HasPut w front out
    → L ≡ writer.limits_of w
    → GivesIn profile (within_trees L) base_table [] [] → now ≡ Some bytes → Appends start new out
    → ConvertsBehind all (within_trees (writer.limits_of w)) bytes now front W u start new told told
    (Err (stop.Run fault.Memory))
none_read {all = all} {bytes = bytes} {W = W} {u = u} {front = front} {w = w} now start new told h same nothing known
    sent =
    let L = within_trees (writer.limits_of w) in
    converts (Err fault.Memory) (shown_none profile L bytes now
    (HasConverted all L bytes front W u (GoesOut start new told told))
    (HasConverted all L bytes front W u (GoesOutCut start new told told))
    (subst (λ (L : Bounds). GivesIn profile (within_trees L) base_table [] []) same nothing) known
    (none_converted (GoesOut start new told told) base_table h refl
    (record { sent = sent; tallies = tallies_none refl })))
