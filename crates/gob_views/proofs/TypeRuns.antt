-- How a run that gathers types goes on, and how it ends.
use Rattle.std.proofs.Common.{◌≡◌, ℕ, ◌<◌, arith, List, [], ◌∷◌, ◌++◌, length, Option, Some, Result, Ok, Err, ◌∙◌}
use Rattle.std.proofs.Common.{ap, sym, subst, refl, append-nil, length-append, min}
use Rattle.std.specs.Result.{IsErrAnd}
use Rattle.std.specs.Io.KnownBytes.{Appends, Keeps}
use Rattle.std.proofs.KnownBytes.{Appends-kept, Appends-nil}
use Rattle.std.proofs.lemmas.List.{length-take-le}
use Rattle.gob_num.proofs.PublicLaws.{unsigned_length}
use Rattle.gob_types.specs.Base.{base_table}
use Rattle.gob_types.specs.Table.{Table}
use Rattle.gob_types.specs.declared.id.TypeId.{TypeId}
use Rattle.gob_value.specs.Whole.{IsWhole}
use Rattle.gob_source.specs.Registered.{Naming}
use Rattle.gob_stream.specs.Bounds.{Bounds, greatest_depth, within_trees}
use Rattle.gob_stream.specs.Devices.{Rose, counts_up}
use Rattle.gob_stream.specs.Honest.{OfRefusal}
use Rattle.gob_stream.specs.Reading.{CountsReads}
use Rattle.gob_stream.specs.declared.fault.Fault.{Fault}
use Rattle.gob_stream.specs.declared.fault.Refusal.{Refusal}
use Rattle.gob_stream.specs.declared.fault.Fault.TheVariants as reading
use Rattle.gob_stream.proofs.PublicLaws.{whole_item}
use Rattle.gob_filled.specs.Filled.{filled, no_filling}
use Rattle.gob_filled.specs.Outcome.{profile}
use Rattle.gob_filled.specs.Stream.{FilledItem, FilledStream, putting}
use Rattle.gob_go.specs.Calls.Reader.{EndsWith, HasReadFrom, KnowsTypes, PassesOne, StepsOnFrom, StopsFrom, session_of}
use Rattle.gob_go.specs.Calls.Reader.{waits_in}
use Rattle.gob_go.specs.Calls.Session.{HasBodyNext, IsBetweenItems, limits_of, taken_of, types_of}
use Rattle.gob_go.specs.GoStepping.{go_stepping}
use Rattle.gob_go.specs.Ids.{defined_ids}
use Rattle.gob_go.specs.Reading.{LeadsBehind}
use Rattle.gob_go.specs.Calls.Reader.{GoReader}
use Rattle.gob_stream.specs.declared.session.Advance.{Advance}
use Rattle.gob_go.specs.declared.item.GoItem.{GoItem}
use Rattle.gob_go.proofs.LeadingLaws.{leads_nowhere}
use Rattle.gob_tool.specs.declared.fault.ToolFault.{ToolFault}
use Rattle.gob_tool.specs.declared.fault.ToolFault.TheVariants as fault
use Rattle.gob_tool.specs.Ending.{EndsRun, ends_so, flush_fails}
use Rattle.gob_tool.specs.Fault.{reading_fault}
use Rattle.gob_tool.specs.Showing.{AppendsPrefix}
use Rattle.gob_tool.specs.RunningGo.{BeginsGo, EndsWholeGo}
use Rattle.gob_tool.proofs.EndLaws.{all_kept, prefix_kept}
use Rattle.gob_tool.proofs.TextLaws.{ended_begins, shown_whole, waits_next}
use Rattle.gob_views.specs.Gathering.{registered_names, value_types}
use Rattle.gob_views.specs.Machine.Gathered.{GathersAll, GathersSo, IsEmpty, IsGathered, ItemGiven, TellsTypes}
use Rattle.gob_views.specs.Machine.Gathered.{TypeGathered, WaitsWhole, gathered_text}
use Rattle.gob_views.specs.Sending.{SendsText}
use Rattle.gob_views.specs.Types.{OfSource, TypesAnswers, source_text}
use Rattle.gob_views.specs.declared.gathered.Gathered.{Gathered}
use Rattle.gob_views.specs.declared.types.SourceForm.{SourceForm}
use Rattle.gob_views.proofs.NamingLaws.{nothing_gathered, step_gathered, value_gathered}

-- ---- from item to item
pub gathers_first : (r : GoReader) (read : Option (List ℕ)) (g : Gathered) → HasReadFrom r read read [] → IsEmpty g
    → GathersSo r read read g
gathers_first r read g has none = record { given = []; has = has; gathered = nothing_gathered none }

-- more was read, and nothing given
pub gathers_filled : {r r' : GoReader} {read now next : Option (List ℕ)} {g : Gathered} (s : GathersSo r read now g)
    → HasReadFrom r' read next s.given → GathersSo r' read next g
gathers_filled s h = record { given = s.given; has = h; gathered = s.gathered }

-- the item of a value waits as a whole
pub waits_whole : {T : Table} {r : GoReader} {id : TypeId} {body : List ℕ} {used limit : ℕ}
    → IsBetweenItems (session_of r) → HasBodyNext (session_of r) id body used (waits_in r)
    → T ≡ types_of (session_of r) → limit ≡ min (limits_of (session_of r)).depth greatest_depth
    → IsWhole T id limit body → WaitsWhole r id used
waits_whole {id = id} {body = body} {limit = limit} between next same deep whole =
    let w = subst (λ (T : Table). IsWhole T id limit body) same whole in
    (w.value, waits_next go_stepping between next.within (whole_item greatest_depth deep next w))

-- which was passed
pub gathers_passed : {r r' : GoReader} {read now : Option (List ℕ)} {old new : Gathered} {id : TypeId} {used : ℕ}
    (s : GathersSo r read now old) → WaitsWhole r id used → PassesOne r r' used → TypeGathered id old new
    → GathersSo r' read now new × (taken_of (session_of r) < taken_of (session_of r'))
gathers_passed {r = r} {read = read} {now = now} {id = id} {used = used} s w p kept =
    let t = p read now s.given (putting id (filled w.0 no_filling)) s.has w.1.next in
    let some = w.1.some in
    let size = length-take-le used (waits_in r) w.1.within in (
      record {
        given = s.given ++ putting id (filled w.0 no_filling) ∷ [];
        has = t.after;
        gathered = value_gathered s.given id w.0 s.gathered kept;
      },
      omega (arith, t.onward, some, size),
    )

pub gathers_step : {r r' : GoReader} {read now : Option (List ℕ)} {old new : Gathered} {step : Advance GoItem}
    (s : GathersSo r read now old) → 0 < step.used → StepsOnFrom r r' read now s.given step
    → ItemGiven step.item old new
    → GathersSo r' read now new × (taken_of (session_of r) < taken_of (session_of r'))
gathers_step s some st e = (
  record {
    given = s.given ++ st.more;
    has = st.takes.after;
    gathered = step_gathered s.given st.gives e s.gathered;
  },
  omega (arith, some, st.takes.onward),
)

-- ---- how it ends
-- behind a whole stream its types are all
whole_leads : {L : Bounds} {bytes : List ℕ} {items : List FilledItem} {T : Table}
    → FilledStream base_table L items bytes T → LeadsBehind L bytes items T
whole_leads {bytes = bytes} {T = T} s = record {
  prefix = bytes;
  rest = [];
  table = T;
  stream = s;
  whole = sym (append-nil bytes);
  types = leads_nowhere refl (λ b.
      let some = (unsigned_length b.counts).0 in
      omega (arith, some, ap length b.whole, length-append b.count (b.number ++ b.rest)));
}

-- all of it was read
pub gathers_whole : {r : GoReader} {read now : Option (List ℕ)} {bytes : List ℕ} {g : Gathered} {taken : ℕ}
    {L : Bounds} (r' : GoReader) (next : Option (List ℕ)) (s : GathersSo r read now g)
    → types_of (session_of r') ≡ types_of (session_of r)
    → EndsWith L (types_of (session_of r)) taken s.given bytes next → GathersAll L r' bytes next g (Ok tt)
gathers_whole {bytes = bytes} {g = g} {L = L} r' next s same e =
    shown_whole profile (λ T items. TellsTypes L r' bytes next g items) e (record {
      gathered = s.gathered;
      known = record {
        bytes = bytes;
        taken = record { left = []; known = e.end; whole = sym (append-nil bytes) };
        holds = subst (λ (T : Table). LeadsBehind L bytes s.given T) (sym same) (whole_leads e.stream);
      };
    })

pub gathers_stopped : {r : GoReader} {read now : Option (List ℕ)} {g : Gathered} (A : Type 0) (M : Bounds)
    (r' : GoReader) (next : Option (List ℕ)) (e : Fault) (T : Table) (s : GathersSo r read now g)
    → limits_of (session_of r) ≡ M → StopsFrom (session_of r) T read next s.given e
    → OfRefusal {A = A} (λ _. KnowsTypes (limits_of (session_of r)) read next s.given (types_of (session_of r')))
    (Err e) → (bytes : List ℕ) → read ≡ Some bytes → GathersAll (within_trees M) r' bytes next g (Err e)
gathers_stopped {g = g} A M r' next (reading.Refused R) T s same stops knows bytes known =
    subst (λ (M : Bounds). GathersAll (within_trees M) r' bytes next g (Err (reading.Refused R))) same (record {
      items = s.given;
      outcome = (stops bytes known).outcome;
      holds = record { gathered = s.gathered; known = knows bytes known };
    })
gathers_stopped A M r' next reading.Read T s same stops knows bytes known = tt
gathers_stopped A M r' next reading.Memory T s same stops knows bytes known = tt
gathers_stopped A M r' next reading.Failed T s same stops knows bytes known = tt

pub refused_at : (L M : Bounds) (r : GoReader) (bytes : List ℕ) (now : Option (List ℕ)) (g : Gathered) (e : Fault)
    (R : Refusal) → L ≡ M → e ≡ reading.Refused R → GathersAll (within_trees L) r bytes now g (Err e)
    → GathersAll (within_trees M) r bytes now g (Err (reading.Refused R))
refused_at L M r bytes now g e R same is h =
    subst (λ (M : Bounds). GathersAll (within_trees M) r bytes now g (Err (reading.Refused R))) same
    (subst (λ (e : Fault). GathersAll (within_trees L) r bytes now g (Err e)) is h)

-- ---- reads that failed
pub counts_at : (A : Type 0) (old mid new : ℕ) (res : Result (Unit {0}) Fault) (e : Fault) → IsErrAnd res (λ x. x ≡ e)
    → mid ≡ old → CountsReads {A = A} mid new (Err e) → CountsReads old new res
counts_at A old mid new (Ok u) e is same h = absurd is
counts_at A old mid new (Err f) e is same h =
    at f (subst (λ e. CountsReads {A = A} mid new (Err e)) (sym is) h)
  where
    at : (f : Fault) → CountsReads {A = A} mid new (Err f) → CountsReads {A = Unit {0}} old new (Err f)
    at (reading.Refused R) h = h ∙ same
    at reading.Read h = (h.0 ∙ ap (λ n. counts_up n 1) same, subst (λ n. Rose n new) same h.1)
    at reading.Memory h = h ∙ same
    at reading.Failed h = h ∙ same

pub counts_unread : (old new : ℕ) (res : Result (Unit {0}) Fault) (e : Fault) → IsErrAnd res (λ x. x ≡ e)
    → new ≡ old → (e ≡ reading.Read → ⊥) → CountsReads old new res
counts_unread old new (Ok u) e is same unread = absurd is
counts_unread old new (Err f) e is same unread = at f (λ read. unread (sym is ∙ read))
  where
    at : (f : Fault) → (f ≡ reading.Read → ⊥) → CountsReads {A = Unit {0}} old new (Err f)
    at (reading.Refused R) unread = same
    at reading.Read unread = absurd (unread refl)
    at reading.Memory unread = same
    at reading.Failed unread = same

-- ---- the source
-- of what was gathered
source_given : (form : SourceForm) (T : Table) {g : Gathered} {items : List FilledItem} → IsGathered g items
    → gathered_text form T g
    ≡ source_text form T (defined_ids items) (registered_names items) (value_types items)
source_given form T {g = g} {items = items} a =
    ap (λ (ids : List TypeId). source_text form T ids g.names g.values.keys) a.ids
    ∙ ap (λ (names : List Naming). source_text form T (defined_ids items) names g.values.keys) a.names
    ∙ ap (λ (values : List TypeId). source_text form T (defined_ids items) (registered_names items) values) a.values

source_of : {P : List ℕ → Type 0} {L : Bounds} {r : GoReader} {bytes : List ℕ} {now : Option (List ℕ)} {g : Gathered}
    {items : List FilledItem} (form : SourceForm) (text : List ℕ) → TellsTypes L r bytes now g items
    → text ≡ gathered_text form (types_of (session_of r)) g → P text → OfSource form L bytes now P items
source_of {P = P} {r = r} form text t e h = record {
  types = types_of (session_of r);
  known = t.known;
  holds = subst P (e ∙ source_given form (types_of (session_of r)) t.gathered) h;
}

-- a prefix of it went out, or nothing
stops_sending : (form : SourceForm) (L : Bounds) (bytes : List ℕ) (now old new : Option (List ℕ)) (text : List ℕ)
    (f : ToolFault) → SendsText old new text (Err f)
    → (AppendsPrefix old new text → BeginsGo L bytes (OfSource form L bytes now (AppendsPrefix old new)))
    → TypesAnswers form L bytes now old new (Err f)
stops_sending form L bytes now old new text fault.Write h cut = cut h
stops_sending form L bytes now old new text fault.Memory h cut = h
stops_sending form L bytes now old new text (fault.Refused R) h cut = absurd h
stops_sending form L bytes now old new text (fault.Wanted R) h cut = absurd h
stops_sending form L bytes now old new text fault.NoWantedType h cut = absurd h
stops_sending form L bytes now old new text (fault.Clash path reason) h cut = absurd h
stops_sending form L bytes now old new text (fault.LeftOut path number) h cut = absurd h
stops_sending form L bytes now old new text fault.Read h cut = absurd h

-- nothing did: why the input wasn't read to its end, or there was no memory
pub none_sent : (form : SourceForm) (L : Bounds) (bytes : List ℕ) (now out : Option (List ℕ)) (e : Fault)
    → ((R : Refusal) → e ≡ reading.Refused R → ⊥) → TypesAnswers form L bytes now out out (Err (reading_fault e))
none_sent form L bytes now out (reading.Refused R) other = absurd (other R refl)
none_sent form L bytes now out reading.Read other = Appends-nil out
none_sent form L bytes now out reading.Memory other = Appends-nil out
none_sent form L bytes now out reading.Failed other = Appends-nil out

-- that of all types
pub whole_sent : (form : SourceForm) (L : Bounds) (r : GoReader) (bytes : List ℕ) (now old new : Option (List ℕ))
    (g : Gathered) (text : List ℕ) (res : Result (Unit {0}) ToolFault) → GathersAll L r bytes now g (Ok tt)
    → text ≡ gathered_text form (types_of (session_of r)) g → SendsText old new text res
    → TypesAnswers form L bytes now old new res
whole_sent form L r bytes now old new g text (Ok u) w e h = record {
  items = w.items;
  table = w.table;
  stream = w.stream;
  end = w.end;
  holds = source_of {P = Appends old new} form text w.holds e h;
}
whole_sent form L r bytes now old new g text (Err f) w e h = stops_sending form L bytes now old new text f h
    (λ p. ended_begins profile w (λ T items t. source_of {P = AppendsPrefix old new} form text t e p))

-- that of the items before a refusal
pub refused_sent : (form : SourceForm) (L : Bounds) (r : GoReader) (bytes : List ℕ) (now old new : Option (List ℕ))
    (g : Gathered) (text : List ℕ) (R : Refusal) → GathersAll L r bytes now g (Err (reading.Refused R))
    → text ≡ gathered_text form (types_of (session_of r)) g → Appends old new text
    → TypesAnswers form L bytes now old new (Err (fault.Refused R))
refused_sent form L r bytes now old new g text R w e h = record
    { items = w.items; outcome = w.outcome; holds = source_of {P = Appends old new} form text w.holds e h }

-- which a write or want of memory stopped
pub refused_unsent : (form : SourceForm) (L : Bounds) (r : GoReader) (bytes : List ℕ) (now old new : Option (List ℕ))
    (g : Gathered) (text : List ℕ) (R : Refusal) (f : ToolFault) → GathersAll L r bytes now g (Err (reading.Refused R))
    → text ≡ gathered_text form (types_of (session_of r)) g → SendsText old new text (Err f)
    → TypesAnswers form L bytes now old new (Err f)
refused_unsent form L r bytes now old new g text R f w e h = stops_sending form L bytes now old new text f h
    (λ p. record {
      items = w.items;
      begins = w.outcome.gives.begins;
      holds = source_of {P = AppendsPrefix old new} form text w.holds e p;
    })

-- ---- behind the flush
source_as : {form : SourceForm} {L : Bounds} {bytes : List ℕ} {now : Option (List ℕ)} {P Q : List ℕ → Type 0}
    {items : List FilledItem} → OfSource form L bytes now P items → ((text : List ℕ) → P text → Q text)
    → OfSource form L bytes now Q items
source_as s f = record { types = s.types; known = s.known; holds = f _ s.holds }

types_kept : (form : SourceForm) (L : Bounds) (bytes : List ℕ) (now old mid new : Option (List ℕ))
    (res : Result (Unit {0}) ToolFault) → Keeps mid new → TypesAnswers form L bytes now old mid res
    → TypesAnswers form L bytes now old new res
types_kept form L bytes now old mid new (Ok u) k h = record {
  items = h.items;
  table = h.table;
  stream = h.stream;
  end = h.end;
  holds = source_as h.holds (λ text a. Appends-kept old mid new text a k);
}
types_kept form L bytes now old mid new (Err (fault.Refused R)) k h = record {
  items = h.items;
  outcome = h.outcome;
  holds = source_as h.holds (λ text a. Appends-kept old mid new text a k);
}
types_kept form L bytes now old mid new (Err fault.Write) k h = record {
  items = h.items;
  begins = h.begins;
  holds = source_as h.holds (λ text a. prefix_kept old mid new text a k);
}
types_kept form L bytes now old mid new (Err fault.Read) k h = Appends-kept old mid new [] h k
types_kept form L bytes now old mid new (Err fault.Memory) k h = Appends-kept old mid new [] h k
types_kept form L bytes now old mid new (Err (fault.Wanted R)) k h = absurd h
types_kept form L bytes now old mid new (Err fault.NoWantedType) k h = absurd h
types_kept form L bytes now old mid new (Err (fault.Clash path reason)) k h = absurd h
types_kept form L bytes now old mid new (Err (fault.LeftOut path number)) k h = absurd h

pub types_ended : (form : SourceForm) (L : Bounds) (bytes : List ℕ) (now old mid new : Option (List ℕ))
    (answer result : Result (Unit {0}) ToolFault) → Keeps mid new → EndsRun answer result
    → TypesAnswers form L bytes now old mid answer → TypesAnswers form L bytes now old new result
types_ended form L bytes now old mid new answer result k (ends_so e) h =
    subst (λ r. TypesAnswers form L bytes now old new r) (sym e) (types_kept form L bytes now old mid new answer k h)
types_ended form L bytes now old mid new answer result k (flush_fails o e) h =
    subst (λ r. TypesAnswers form L bytes now old new r) (sym e)
    (cut (subst (λ r. TypesAnswers form L bytes now old mid r) o h))
  where
    cut : EndsWholeGo L bytes now (OfSource form L bytes now (Appends old mid))
        → BeginsGo L bytes (OfSource form L bytes now (AppendsPrefix old new))
    cut w = record {
      items = w.items;
      begins = record { prefix = bytes; rest = []; table = w.table; stream = w.stream; whole = sym (append-nil bytes) };
      holds = source_as w.holds (λ text a. all_kept old mid new text a k);
    }
