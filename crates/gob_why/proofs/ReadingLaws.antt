-- How the reading of all of an input goes on, and how it ends.
use Rattle.std.proofs.Common.{◌≡◌, ℕ, ◌+◌, ◌-◌, ◌<◌, arith, List, [], ◌++◌, length, take, drop, take-append-drop}
use Rattle.std.proofs.Common.{Option, Some, None, true, false}
use Rattle.std.proofs.Common.{Result, Ok, Err, ◌∙◌, ap, sym, subst, refl, append_assoc, length-append, append-nil}
use Rattle.std.specs.Result.{IsErrAnd}
use Rattle.std.specs.Io.KnownBytes.{Consumes, IsAtEnd, Keeps}
use Rattle.std.proofs.KnownBytes.{Consumes-kept, Consumes-nil, Consumes-trans, Keeps-refl}
use Rattle.std.proofs.lemmas.List.{length-take-le}
use Rattle.gob_types.specs.Base.{base_table}
use Rattle.gob_types.specs.Defined.{definition_count}
use Rattle.gob_types.specs.Table.{Table}
use Rattle.gob_explain.specs.Machine.Putting.{puts_both}
use Rattle.gob_explain.specs.Putting.{PutsMore}
use Rattle.gob_explain.specs.declared.text.lines_out.LineFault.{LineFault}
use Rattle.gob_stream.specs.Bounds.{Bounds, within_trees}
use Rattle.gob_stream.specs.Reading.{SomeTaken, Taken}
use Rattle.gob_stream.specs.declared.fault.Fault.{Fault}
use Rattle.gob_stream.specs.declared.fault.Fault.TheVariants as reading
use Rattle.gob_stream.specs.declared.fault.Refusal.{Refusal}
use Rattle.gob_filled.specs.Outcome.{EndsFilled, FilledOutcome, RefusesFilled, at_the_end, next_refused, refused}
use Rattle.gob_filled.specs.Outcome.{profile, the_end, within_an_item}
use Rattle.gob_filled.specs.Stream.{FilledItem, FilledStream}
use Rattle.gob_filled.proofs.Outcomes.{no_item}
use Rattle.gob_filled.proofs.Shown.{filled_shown, filled_there}
use Rattle.gob_go.specs.Calls.Session.{FinishAnswers, HasRead, limits_of, types_of}
use Rattle.gob_go.specs.Machine.SessionState.{SessionState}
use Rattle.gob_go.specs.Reading.{ShowsRefusal}
use Rattle.gob_go.proofs.ItemsLaws.{items_grown, longest, one_reading, wire_of}
use Rattle.gob_go.proofs.SessionAnswers.{read_within}
use Rattle.gob_go.proofs.UnderWayLaws.{no_item_yet}
use Rattle.gob_go.proofs.WholeSteps.{types_between}
use Rattle.gob_tool.specs.Fault.{reading_fault}
use Rattle.gob_tool.specs.Machine.Counting.{EndsCountingIn}
use Rattle.gob_tool.specs.declared.check.Tally.{Tally}
use Rattle.gob_tool.specs.declared.fault.ToolFault.{ToolFault}
use Rattle.gob_tool.specs.declared.fault.ToolFault.TheVariants as fault
use Rattle.gob_tool.proofs.CheckLaws.{counted_whole}
use Rattle.gob_tool.specs.CheckingGo.{IsNoGoStream, LongestGoStream}
use Rattle.gob_why.specs.Explain.{AreExplained, ended_there, shown_there}
use Rattle.gob_why.specs.Machine.Keeping.{BeginsKept, HasReadKept, HasReadSome, IsRefusedKept, IsUnreadKept}
use Rattle.gob_why.specs.Machine.Keeping.{IsWholeKept, ReadsBytes, TakesNext}
use Rattle.gob_why.specs.Machine.Reading.{ComesMore, HasTaken, ReadsAll}
use Rattle.gob_why.specs.declared.explained.Explained.{Explained}
use Rattle.gob_why.proofs.KeepingLaws.{begins_kept, begins_longer, items_end, next_begins}
use Rattle.gob_why.proofs.RefusedLaws.{explained_there}

-- ---- known bytes
taken_known : (now : Option (List ℕ)) {bytes taken : List ℕ} → Consumes (Some bytes) now taken → Taken bytes now taken
taken_known None c = absurd c
taken_known (Some left) c = record { left = left; known = refl; whole = c }

pub taken_of : {read : Option (List ℕ)} (now : Option (List ℕ)) (bytes taken : List ℕ) → read ≡ Some bytes
    → Consumes read now taken → Taken bytes now taken
taken_of now bytes taken e c = taken_known now (subst (λ r. Consumes r now taken) e c)

-- at the end of the input all of it was taken
pub record AreAll (bytes taken : List ℕ) (next : Option (List ℕ)) : Type 0 where
  pub all : taken ≡ bytes
  pub end : next ≡ Some []

all_known : (now next : Option (List ℕ)) (bytes taken : List ℕ) → Consumes (Some bytes) now taken
    → Consumes now next [] → IsAtEnd next → AreAll bytes taken next
all_known None next bytes taken c d e = absurd c
all_known (Some x) None bytes taken c d e = absurd d
all_known (Some x) (Some y) bytes taken c d e = record {
  all = sym (c ∙ ap (λ (l : List ℕ). taken ++ l) (d ∙ e) ∙ append-nil taken);
  end = ap (λ (l : List ℕ). Some l) e;
}

pub all_taken : {read : Option (List ℕ)} (now next : Option (List ℕ)) (bytes taken : List ℕ) → read ≡ Some bytes
    → Consumes read now taken → Consumes now next [] → IsAtEnd next → AreAll bytes taken next
all_taken now next bytes taken known c d e = all_known now next bytes taken (subst (λ r. Consumes r now taken) known c)
    d e

-- ---- what was read gives
-- why the bytes are no stream, under the limits by their other name
pub no_stream_under : (L M : Bounds) (bytes : List ℕ) (now : Option (List ℕ)) (f : ToolFault) → L ≡ M
    → IsNoGoStream (within_trees L) bytes now f → IsNoGoStream (within_trees M) bytes now f
no_stream_under L M bytes now f same h = subst (λ (L : Bounds). IsNoGoStream (within_trees L) bytes now f) same h

-- the longest stream that it begins with
pub gives_longest : {s : SessionState} {items : List FilledItem} {bytes : List ℕ} → HasRead s items bytes
    → LongestGoStream (within_trees (limits_of s)) bytes items
gives_longest a = record {
  begins = record
      { prefix = a.prefix; rest = a.under_way; table = a.table; stream = a.stream; whole = a.whole };
  longest = longest a.under_way a.stream a.whole (λ i U b x h e. no_item_yet x a.stage h e);
}

-- a refusal that some bytes show is that of all bytes that begin with them
still_refused : {L : Bounds} {bytes : List ℕ} {items : List FilledItem} {R : Refusal} (later : List ℕ)
    → EndsFilled base_table L bytes items (refused R) → ShowsRefusal L bytes items R
    → FilledOutcome base_table L (bytes ++ later) items (refused R)
still_refused {L = L} {R = R} later (next_refused {f = f} {T = T} z s w r) h =
    let all = ap (λ (l : List ℕ). l ++ later) w ∙ append_assoc f z later in
    let still : RefusesFilled base_table L T (length f) (z ++ later) R =
    filled_shown z [] later (wire_of (items_grown s))
    (subst (λ y. RefusesFilled base_table L T (length f) y R) (sym (append-nil z)) r) (filled_there r) in
    record {
      gives = record {
        begins = record { prefix = f; rest = z ++ later; table = T; stream = s; whole = all };
        longest = longest (z ++ later) s all (λ i U b x h k. no_item x h
            (subst (λ y. RefusesFilled base_table L T (length f) y R) k still));
      };
      ends = next_refused (z ++ later) s all still;
    }
still_refused later (within_an_item z s w some other) h = absurd (h.shown refl)

pub refused_still : {L : Bounds} {bytes : List ℕ} {items : List FilledItem} {R : Refusal} (later : List ℕ)
    → ShowsRefusal L bytes items R → FilledOutcome base_table L (bytes ++ later) items (refused R)
refused_still later h = still_refused later h.outcome.ends h

-- the stream of all of it
record HasTable (L : Bounds) (bytes : List ℕ) (items : List FilledItem) : Type 0 where
  table : Table
  stream : FilledStream base_table L items bytes table

whole_stream : {L : Bounds} {bytes : List ℕ} {items : List FilledItem} → EndsFilled base_table L bytes items the_end
    → HasTable L bytes items
whole_stream (at_the_end {T = T} s) = record { table = T; stream = s }

pub stream_read : {s : SessionState} {items : List FilledItem} {bytes : List ℕ} → HasRead s items bytes
    → EndsFilled base_table (within_trees (limits_of s)) bytes items the_end
    → FilledStream base_table (within_trees (limits_of s)) items bytes (types_of s)
stream_read {s = s} {items = items} {bytes = bytes} a ends =
    let w = whole_stream ends in
    let one = one_reading a.under_way [] a.stream w.stream (sym a.whole ∙ sym (append-nil bytes)) in
    subst (λ (T : Table). FilledStream base_table (within_trees (limits_of s)) items bytes T)
    (sym (types_between a.stage one.rest ∙ one.table)) w.stream

-- ---- what was put out
pub at_fault : {A : Type 0} (P : Result A Fault → Type 0) (r : Result A Fault) (e : Fault) → IsErrAnd r (λ x. x ≡ e)
    → P (Err e) → P r
at_fault P (Ok a) e is h = absurd is
at_fault P (Err f) e is h = subst (λ e. P (Err e)) (sym is) h

module _ {O E : Type 0} (puts : O → O → List ℕ → Result (Unit {0}) E → Type 0)
    (joined : (a b c : O) (x y : List ℕ) (r : Result (Unit {0}) E) → puts a b x (Ok tt) → puts b c y r
    → puts a c (x ++ y) r)
    (cut : (a b : O) (x y : List ℕ) (e : E) → puts a b x (Err e) → puts a b (x ++ y) (Err e)) where
  pub puts_then : {a b c : O} {f g h : Option (LineFault E)} {P Q R : List ℕ → Type 0} (p : PutsMore puts a f b g P)
      (q : PutsMore puts b g c h Q) → R (p.text ++ q.text) → PutsMore puts a f c h R
  puts_then {a = a} {b = b} {c = c} {f = f} {g = g} {h = h} p q r = record {
    text = p.text ++ q.text;
    put = puts_both puts joined cut a b c f g h p.text q.text p.put q.put;
    holds = r;
  }

  -- what holds of the text that was put out holds where no text was put out behind it
  pub puts_flushed : {a b c : O} {f g h : Option (LineFault E)} {P : List ℕ → Type 0} (p : PutsMore puts a f b g P)
      → PutsMore puts b g c h (λ text. text ≡ []) → PutsMore puts a f c h P
  puts_flushed {P = P} p q = puts_then p q
      (subst P (sym (append-nil p.text) ∙ ap (λ (m : List ℕ). p.text ++ m) (sym q.holds)) p.holds)

-- ---- from item to item
pub taken_first : (which : Option Explained) (s : SessionState) (items : ℕ) (item : List ℕ) (begin : ℕ)
    (read : Option (List ℕ)) (waits : List ℕ) → waits ≡ [] → HasReadKept which s items [] item begin []
    → HasTaken which s items read read waits item begin []
taken_first which s items item begin read waits none h = record
    { taken = []; input = subst (λ (w : List ℕ). Consumes read read w) (sym none) (Consumes-nil read); has = h }

module _ {which : Option Explained} {s : SessionState} {items : ℕ} {read now : Option (List ℕ)}
    {waits item : List ℕ} {begin : ℕ} {text : List ℕ}
    (h : HasTaken which s items read now waits item begin text) where
  pub some_taken : HasReadSome which s items item begin
  some_taken = record { bytes = h.taken; text = text; has = h.has }

  -- all that was read
  pub came : (next : Option (List ℕ)) (bytes : List ℕ) → read ≡ Some bytes → Keeps now next
      → Taken bytes next (h.taken ++ waits)
  came next bytes known k =
      taken_of next bytes (h.taken ++ waits) known (Consumes-kept read now next (h.taken ++ waits) h.input k)

  -- where none waits
  only_taken : waits ≡ [] → Consumes read now h.taken
  only_taken none = subst (λ (l : List ℕ). Consumes read now l)
      (ap (λ (l : List ℕ). h.taken ++ l) none ∙ append-nil h.taken) h.input

  pub more_came : (next : Option (List ℕ)) (later : List ℕ) → ComesMore now next waits later (Ok true)
      → HasTaken which s items read next later item begin text
  more_came next later c = record {
    taken = h.taken;
    input = subst (λ (l : List ℕ). Consumes read next l)
        (append_assoc h.taken waits c.0 ∙ ap (λ (l : List ℕ). h.taken ++ l) (sym c.2))
        (Consumes-trans read now next (h.taken ++ waits) c.0 h.input c.1);
    has = h.has;
  }

  pub next_taken : (s' : SessionState) (items' : ℕ) (later item' : List ℕ) (begin' : ℕ) (more : List ℕ) (used : ℕ)
      → later ≡ drop used waits → TakesNext which s s' items items' waits item begin item' begin' (Ok used) more
      → HasTaken which s' items' read now later item' begin' (text ++ more)
  next_taken s' items' later item' begin' more used so f = record {
    taken = h.taken ++ take used waits;
    input = subst (λ (l : List ℕ). Consumes read now l)
        (ap (λ (l : List ℕ). h.taken ++ l)
        (sym (take-append-drop used waits) ∙ ap (λ (l : List ℕ). take used waits ++ l) (sym so))
        ∙ sym (append_assoc h.taken (take used waits) later))
        h.input;
    has = (f h.taken text h.has).has;
  }

  -- each turn takes a byte or counts an item, and there are no more than so many of each
  pub next_falls : (s' : SessionState) (items' : ℕ) (item' : List ℕ) (begin' : ℕ) (more : List ℕ) (used : ℕ)
      → limits_of s' ≡ limits_of s
      → TakesNext which s s' items items' waits item begin item' begin' (Ok used) more
      → ((limits_of s').stream + 9 - s'.taken) + ((limits_of s').stream + 9 - items')
      < ((limits_of s).stream + 9 - s.taken) + ((limits_of s).stream + 9 - items)
  next_falls s' items' item' begin' more used same f =
      let on = f h.taken text h.has in
      let stream = ap (λ (L : Bounds). L.stream) same in
      omega (
        arith,
        on.nearer,
        items_end on.has,
        read_within on.has.gave,
        on.has.gave.taken,
        h.has.gave.taken,
        length-append h.taken (take used waits),
        length-take-le used waits on.within,
        stream,
      )

  -- ---- what ends it
  -- before the end, where all that was read begins with the items
  pub begins_all : (M : Bounds) (next : Option (List ℕ)) → limits_of s ≡ M → Keeps now next → (bytes : List ℕ)
      → read ≡ Some bytes → SomeTaken bytes next (λ taken. BeginsKept which (within_trees M) taken text)
  begins_all M next same k bytes known = record {
    bytes = h.taken ++ waits;
    taken = came next bytes known k;
    holds = begins_kept which (within_trees (limits_of s)) (within_trees M) h.has.gave.table h.has.given h.taken waits
        item begin text text (ap (λ (L : Bounds). within_trees L) same) refl h.has.kept;
  }

  -- a read that failed, or memory for one
  pub more_stops : (M : Bounds) (U : Table) (next : Option (List ℕ)) (later : List ℕ) (e : Fault) → limits_of s ≡ M
      → ComesMore now next waits later (Err e)
      → ReadsAll which (within_trees M) U items read next item begin (Err e) text
  more_stops M U next later (reading.Refused R) same c = absurd c
  more_stops M U next later reading.Read same c = λ bytes known.
      let L = within_trees (limits_of s) in
      let k = h.has.kept in
      let unread : IsUnreadKept which L h.taken text = record {
        begins = record {
          given = h.has.given;
          prefix = k.prefix;
          rest = item;
          table = h.has.gave.table;
          whole = k.whole;
          stream = k.stream;
          explained = k.explained;
        };
        longest = gives_longest h.has.gave;
      } in
      record {
        bytes = h.taken;
        taken = taken_of next bytes h.taken known (Consumes-kept read now next h.taken (only_taken c.0) c.1);
        holds = subst (λ (L : Bounds). IsUnreadKept which (within_trees L) h.taken text) same unread;
      }
  more_stops M U next later reading.Memory same c = λ bytes known. begins_all M next same c.1 bytes known
  more_stops M U next later reading.Failed same c = absurd c

  -- the end of the input, between two items
  pub end_whole : (s' : SessionState) (M : Bounds) (next : Option (List ℕ)) (later : List ℕ) (u : Unit {0})
      → limits_of s ≡ M → types_of s' ≡ types_of s → ComesMore now next waits later (Ok false)
      → FinishAnswers s s' h.has.given h.taken (Ok u)
      → ReadsAll which (within_trees M) (types_of s') items read next item begin (Ok true) text
  end_whole s' M next later u same still c f = λ bytes known.
      let L = within_trees (limits_of s) in
      let a = all_taken now next bytes h.taken known (only_taken c.0) c.1 c.2 in
      let k = h.has.kept in
      let stream = stream_read h.has.gave f.0.ends in
      let one = one_reading item [] k.stream stream (sym k.whole ∙ sym (append-nil h.taken)) in
      let explained = subst (λ (T : Table). AreExplained which L h.has.given h.taken T text) (one.table ∙ sym still)
      (subst (λ (b : List ℕ). AreExplained which L h.has.given b h.has.gave.table text) one.bytes k.explained) in
      let whole : IsWholeKept which L (types_of s') items h.taken next begin text = record {
        given = h.has.given;
        items_are = h.has.items_are;
        stream = subst (λ (T : Table). FilledStream base_table L h.has.given h.taken T) (sym still) stream;
        end = a.end;
        begins = k.begins ∙ ap length one.bytes;
        explained = explained;
      } in
      subst (λ (L : Bounds). IsWholeKept which (within_trees L) (types_of s') items bytes next begin text) same
      (subst (λ (b : List ℕ). IsWholeKept which L (types_of s') items b next begin text) a.all whole)

  -- or within one
  pub end_stops : (s' : SessionState) (M : Bounds) (next : Option (List ℕ)) (later : List ℕ) (e : Fault)
      → limits_of s ≡ M → types_of s' ≡ types_of s → ComesMore now next waits later (Ok false)
      → FinishAnswers s s' h.has.given h.taken (Err e)
      → ReadsAll which (within_trees M) (types_of s') items read next item begin (Err e) text
  end_stops s' M next later (reading.Refused R) same still c f = λ bytes known.
      let L = within_trees (limits_of s) in
      let a = all_taken now next bytes h.taken known (only_taken c.0) c.1 c.2 in
      let k = h.has.kept in
      let reached = explained_there k.prefix item f.0.ends k.stream k.whole in
      let stops : IsRefusedKept which L (types_of s') h.taken item begin text R = record {
        given = h.has.given;
        outcome = f.0;
        types = ended_there s refl h.has.gave f.1 (sym still);
        rest = [];
        read = h.taken;
        whole = sym (append-nil h.taken);
        behind = omega (arith, reached.0, k.begins);
        there = reached.1;
        table = h.has.gave.table;
        kept = k;
      } in
      subst (λ (L : Bounds). IsRefusedKept which (within_trees L) (types_of s') bytes item begin text R) same
      (subst (λ (b : List ℕ). IsRefusedKept which L (types_of s') b item begin text R) a.all stops)
  end_stops s' M next later reading.Read same still c f = absurd f
  end_stops s' M next later reading.Memory same still c f = absurd f
  end_stops s' M next later reading.Failed same still c f = absurd f

  -- bytes that are refused, or what memory is wanting for
  pub next_lost : (s' : SessionState) (items' : ℕ) (M : Bounds) (item' : List ℕ) (begin' : ℕ) (more : List ℕ)
      (e : Fault) → limits_of s' ≡ M → TakesNext which s s' items items' waits item begin item' begin' (Err e) more
      → (bytes : List ℕ) → read ≡ Some bytes
      → SomeTaken bytes now (λ taken. BeginsKept which (within_trees M) taken (text ++ more))
  next_lost s' items' M item' begin' more e same f bytes known =
      let b = next_begins which s' items items' h.taken waits item' begin' (text ++ more) e (f h.taken text h.has) in
      record {
        bytes = h.taken ++ waits;
        taken = came now bytes known (Keeps-refl now);
        holds = subst (λ (L : Bounds). BeginsKept which (within_trees L) (h.taken ++ waits) (text ++ more)) same
            (begins_longer waits b);
      }

  -- and the rest of the bytes that wait is kept
  pub next_stops : (s' : SessionState) (items' items'' : ℕ) (M : Bounds) (item' item'' : List ℕ) (begin' begin'' : ℕ)
      (more : List ℕ) (e : Fault) → limits_of s' ≡ M → item'' ≡ item' ++ waits → begin'' ≡ begin'
      → TakesNext which s s' items items' waits item begin item' begin' (Err e) more
      → ReadsAll which (within_trees M) (types_of s') items'' read now item'' begin'' (Err e) (text ++ more)
  next_stops s' items' items'' M item' item'' begin' begin'' more (reading.Refused R) same k b f = λ bytes known.
      let L = within_trees (limits_of s') in
      let n = f h.taken text h.has in
      let t = came now bytes known (Keeps-refl now) in
      let whole : h.taken ++ waits ≡ n.kept.prefix ++ item'' =
      ap (λ (l : List ℕ). l ++ waits) n.kept.whole ∙ append_assoc n.kept.prefix item' waits
      ∙ ap (λ (l : List ℕ). n.kept.prefix ++ l) (sym k) in
      let begins = b ∙ n.kept.begins in
      let reached = explained_there n.kept.prefix item'' n.shown.outcome.ends n.kept.stream whole in
      let stops : IsRefusedKept which L (types_of s') bytes item'' begin'' (text ++ more) R = record {
        given = n.given;
        outcome = subst (λ (b : List ℕ). FilledOutcome base_table L b n.given (refused R)) (sym t.whole)
            (refused_still t.left n.shown);
        types = shown_there (h.taken ++ waits) t.left t.whole n.types;
        rest = t.left;
        read = h.taken ++ waits;
        whole = t.whole;
        behind = omega (arith, reached.0, begins);
        there = reached.1;
        table = n.table;
        kept = record {
          prefix = n.kept.prefix;
          whole = whole;
          begins = begins;
          stream = n.kept.stream;
          explained = n.kept.explained;
        };
      } in
      subst (λ (L : Bounds). IsRefusedKept which (within_trees L) (types_of s') bytes item'' begin'' (text ++ more) R)
      same stops
  next_stops s' items' items'' M item' item'' begin' begin'' more reading.Read same k b f = λ bytes known.
      absurd (f h.taken text h.has)
  next_stops s' items' items'' M item' item'' begin' begin'' more reading.Memory same k b f = λ bytes known.
      next_lost s' items' M item' begin' more reading.Memory same f bytes known
  next_stops s' items' items'' M item' item'' begin' begin'' more reading.Failed same k b f = λ bytes known.
      absurd (f h.taken text h.has)

-- ---- what is counted
pub counts_all : (which : Option Explained) (L : Bounds) (U : Table) (items : ℕ) (bytes : List ℕ)
    (now : Option (List ℕ)) (item : List ℕ) (begin : ℕ) (text : List ℕ) (tally : Tally) → tally.items ≡ items
    → tally.types ≡ definition_count U → tally.bytes ≡ begin
    → ReadsBytes which L U items bytes now item begin (Ok true) text → EndsCountingIn profile L bytes now (Ok tally)
counts_all which L U items bytes now item begin text tally items_so types_so bytes_so w =
    counted_whole profile tally (items_so ∙ w.items_are) types_so bytes_so
    (record { stream = w.stream; count = w.begins; end = w.end })

pub stops_all : (which : Option Explained) (L : Bounds) (U : Table) (items : ℕ) (bytes : List ℕ)
    (now : Option (List ℕ)) (item : List ℕ) (begin : ℕ) (text : List ℕ) (e : Fault)
    → ReadsBytes which L U items bytes now item begin (Err e) text → IsNoGoStream L bytes now (reading_fault e)
stops_all which L U items bytes now item begin text (reading.Refused R) x = (x.given, x.outcome)
stops_all which L U items bytes now item begin text reading.Read x =
    record { bytes = x.bytes; taken = x.taken; holds = (x.holds.begins.given, x.holds.longest) }
stops_all which L U items bytes now item begin text reading.Memory x = tt
stops_all which L U items bytes now item begin text reading.Failed x = absurd x
