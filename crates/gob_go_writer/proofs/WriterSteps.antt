-- What an item that is spelled has to do with a stream behind which its bytes are read.
use Rattle.std.proofs.Common.{◌≡◌, ◌≢◌, ℕ, ◌<◌, ◌≤◌, List, [], ◌∷◌, ◌++◌, length, Result, Ok, Err, arith, refl}
use Rattle.std.proofs.Common.{sym, ap, ◌∙◌, subst, length-append, IsErrAnd, true, false, get_or}
use Rattle.std.proofs.lemmas.List.{append-nil}
use Rattle.gob_num.specs.Spelled.{Appends, IsSpelled}
use Rattle.gob_num.proofs.PublicLaws.{unsigned_length}
use Rattle.gob_types.specs.Base.{base_table}
use Rattle.gob_types.specs.Defined.{Defined, types}
use Rattle.gob_types.specs.declared.reason.Reason.{Reason}
use Rattle.gob_types.specs.declared.reason.Reason.TheVariants as reason
use Rattle.gob_types.specs.Table.{Table}
use Rattle.gob_types.specs.declared.denial.Denial.{Denial}
use Rattle.gob_types.specs.declared.denial.Denial.TheVariants as denial
use Rattle.gob_value.proofs.PublicLaws.{spells_on, spells_back}
use Rattle.gob_stream.specs.Bounds.{Bounds, greatest_depth, within_trees}
use Rattle.gob_stream.specs.declared.fault.Fault.{Fault}
use Rattle.gob_stream.specs.declared.fault.Refusal.{Refusal}
use Rattle.gob_stream.specs.declared.fault.Fault.TheVariants as reading
use Rattle.gob_stream.proofs.Stream.WireLaws.{wire_ready}
use Rattle.gob_filled.specs.Outcome.{Ending, FilledOutcome, the_end, refused, EndsFilled, at_the_end}
use Rattle.gob_filled.specs.Stream.{FilledItem, IsFilledItem, of_definition, of_value, AreCounted, last_counted}
use Rattle.gob_filled.specs.Stream.{next_counted, FilledStream, no_more}
use Rattle.gob_filled.proofs.Outcomes.{one_outcome}
use Rattle.gob_go.specs.Calls.Session.{FeedAnswers, FinishAnswers, HasRead}
use Rattle.gob_go.specs.Machine.HasRead.{StageHasRead, in_count, in_type_number, in_definition, in_put}
use Rattle.gob_go.specs.Machine.SessionState.{SessionState}
use Rattle.gob_go.specs.Meaning.{ItemMeans, ItemsMean, mean_none, mean_more}
use Rattle.gob_go.specs.Reading.{GivesOn}
use Rattle.gob_go.specs.declared.item.GoItem.{GoItem}
use Rattle.gob_go.specs.declared.stage.Stage.{Stage}
use Rattle.gob_go.proofs.ItemsLaws.{Grown, grown_on, grown_keeps, item_grown, items_grown, last_of, longest, one_more}
use Rattle.gob_go.proofs.ItemsLaws.{one_reading}
use Rattle.gob_go.proofs.FinishSteps.{nothing_expects}
use Rattle.gob_go_writer.specs.Calls.Writer.{HasReadWhole, IsNoItem, IsRefused, PutsItem}
use Rattle.gob_go_writer.specs.Machine.Alike.{AreAlike, ItemDescribed}
use Rattle.gob_go_writer.specs.Machine.PutFaults.{fault_of_denial, fault_of_session}
use Rattle.gob_go_writer.specs.Machine.ReadingBack.{ReadBackAnswers, ReadsBack}
use Rattle.gob_go_writer.specs.Machine.Unfit.{IsUnfit}
use Rattle.gob_go_writer.specs.PutRefusal.{RefusesPut, RefusesSpelling, refused_spelling, does_not_fit}
use Rattle.gob_go_writer.specs.Spelling.{IsSpelling}
use Rattle.gob_go_writer.specs.declared.put_fault.PutFault.{PutFault}
use Rattle.gob_go_writer.specs.declared.writer.GoWriter.{GoWriter}
use Rattle.gob_go_writer.proofs.AlikeLaws.{item_described}
use Rattle.gob_go_writer.proofs.SpellingLaws.{item_spelled, one_kept}

-- the fault that a `?` returns is the callee's, as the caller has it
pub fault_passed : (r : Result (Unit {0}) PutFault) {f : PutFault} (P : Result (Unit {0}) PutFault → Type 0)
    → IsErrAnd r (λ y. y ≡ f) → P (Err f) → P r
fault_passed (Ok a) P is p = absurd is
fault_passed (Err y) P is p = subst (λ f. P (Err f)) (sym is) p

-- ---- a stream as the outcome of its bytes

counted_some : {L : Bounds} {most offset : ℕ} {ls f : List ℕ} → AreCounted L most offset ls f → 0 < length f
counted_some (last_counted {c = c} s o u l k) = omega (arith, (unsigned_length u).0, length-append c s)
counted_some (next_counted {c = c} {f = f} s o u l k n m) =
    omega (arith, (unsigned_length u).0, length-append c (s ++ f))

item_some : {L : Bounds} {T U : Table} {offset : ℕ} {i : FilledItem} {b : List ℕ}
    → IsFilledItem base_table L T offset i b U → 0 < length b
item_some (of_definition {c = c} {d = d} n l s p) = omega (arith, (unsigned_length n).0, length-append c d)
item_some (of_value may sg k cs) = counted_some cs

pub whole_outcome : {L : Bounds} {T : Table} {items : List FilledItem} {bytes : List ℕ}
    → FilledStream base_table L items bytes T → FilledOutcome base_table L bytes items the_end
whole_outcome {T = T} {bytes = bytes} s = record {
  gives = record {
    begins = record { prefix = bytes; rest = []; table = T; stream = s; whole = sym (append-nil bytes) };
    longest = longest [] s (sym (append-nil bytes))
        (λ i U b x h e. absurd (omega (arith, item_some h, ap length e, length-append b x)));
  };
  ends = at_the_end s;
}

-- ---- an item that the stream could go on with

-- it is spelled under the types before it
spelled_before : {L : Bounds} {T U : Table} {offset : ℕ} {kept : GoItem} {i : FilledItem} {b : List ℕ}
    → Grown base_table T → L.depth ≤ greatest_depth → ItemMeans U kept i → IsFilledItem base_table L T offset i b U
    → IsSpelling T kept b
spelled_before g low m h = item_spelled h m (λ t s e. e) (λ v b sp. spells_on (grown_keeps g)
    (spells_back (grown_keeps (grown_on g (item_grown h))) wire_ready sp)) low

abbrev pub IsSpelledAs : SessionState → GoItem → (piece : List ℕ) → Type 0
IsSpelledAs s kept piece = IsSpelling (types s.types) kept piece

pub goes_on : {s : SessionState} {items : List FilledItem} {z piece b : List ℕ} {kept : GoItem} {i : FilledItem}
    {U : Table} → HasReadWhole s items z → IsSpelledAs s kept piece → ItemMeans U kept i
    → IsFilledItem base_table (within_trees s.limits) (types s.types) (length z) i b U
    → FilledStream base_table (within_trees s.limits) (items ++ i ∷ []) (z ++ piece) U
goes_on {s = s} {items = items} {z = z} {piece = piece} {b = b} {i = i} {U = U} w spelled m h =
    let L = within_trees s.limits in
    let low : L.depth ≤ greatest_depth = omega arith in
    let grown = items_grown w.stream in
    let same : piece ≡ b = one_kept spelled (spelled_before grown low m h) in
    let here : IsFilledItem base_table L (types s.types) (length z) i piece U =
    subst (λ b. IsFilledItem base_table L (types s.types) (length z) i b U) (sym same) h in
    one_more w.stream (omega arith) here

-- ---- what is refused is no item, for one reason

-- the bytes are refused
refused_there : (s : SessionState) {kept : GoItem} {items : List FilledItem} (z piece : List ℕ) {R : Refusal}
    → IsSpelledAs s kept piece → FilledOutcome base_table (within_trees s.limits) (z ++ piece) items (refused R)
    → RefusesPut (within_trees s.limits) (types s.types) z kept R.reason
refused_there s {items = items} z piece {R = R} spelled o = refused_spelling (record {
  bytes = piece;
  items = items;
  refusal = R;
  spelled = spelled;
  outcome = o;
  told = refl;
})

-- they are read to their end
ends_there : (s : SessionState) {kept : GoItem} {items : List FilledItem} (z piece : List ℕ) → IsSpelledAs s kept piece
    → FilledOutcome base_table (within_trees s.limits) (z ++ piece) items the_end
    → RefusesPut (within_trees s.limits) (types s.types) z kept reason.DoesNotFit
ends_there s z piece spelled o = does_not_fit (λ r h.
    let same = one_kept spelled h.spelled in
    let e = (one_outcome o (subst (λ b. FilledOutcome base_table (within_trees s.limits) (z ++ b) h.items
    (refused h.refusal)) (sym same) h.outcome)).1 in
    absurd (let f : the_end ≡ refused h.refusal = e in cc))

pub not_spelled : (s s' : SessionState) {items : List FilledItem} {z : List ℕ} (kept : GoItem) (bytes : List ℕ)
    (d : Denial) → HasReadWhole s items z → IsUnfit (IsSpelled (IsSpelling (types s.types) kept)) d
    → ReadBackAnswers s s' items z kept bytes (Err (fault_of_denial d))
not_spelled s s' {z = z} kept bytes (denial.Refused r) w unfit = record {
  none = λ i b U m h.
      let low : (within_trees s.limits).depth ≤ greatest_depth = omega arith in
      unfit.1 (record { bytes = b; spelled = spelled_before (items_grown w.stream) low m h });
  due = subst (RefusesPut (within_trees s.limits) (types s.types) z kept) (sym unfit.0)
      (does_not_fit (λ r h. unfit.1 (record { bytes = h.bytes; spelled = h.spelled })));
}
not_spelled s s' kept bytes denial.Memory w unfit = tt

pub not_fed : (s s' : SessionState) {items : List FilledItem} {z : List ℕ} (kept : GoItem) (bytes piece : List ℕ)
    (given : List GoItem) (f : Fault) → HasReadWhole s items z → IsSpelledAs s kept piece
    → FeedAnswers s s' items z piece given (Err f)
    → ReadBackAnswers s s' items z kept bytes (Err (fault_of_session f))
not_fed s s' {z = z} kept bytes piece given (reading.Refused R) w spelled a = record {
  none = λ i b U m h.
      let e = (one_outcome a.0.holds.0.outcome (whole_outcome (goes_on w spelled m h))).1 in
      absurd (let f : refused R ≡ the_end = e in cc);
  due = refused_there s z piece spelled a.0.holds.0.outcome;
}
not_fed s s' kept bytes piece given reading.Read w spelled a = absurd a
not_fed s s' kept bytes piece given reading.Memory w spelled a = tt
not_fed s s' kept bytes piece given reading.Failed w spelled a = absurd a

-- the piece was read, and the items were given
abbrev pub IsFed : (s' : SessionState) → List FilledItem → (z piece : List ℕ) → List GoItem → Type 0
IsFed s' items z piece given = GivesOn (types s'.types) given items (λ all. HasRead s' all (z ++ piece))

on_limits : (s s' : SessionState) {items : List FilledItem} {bytes : List ℕ} {T : Table} → s'.limits ≡ s.limits
    → FilledStream base_table (within_trees s.limits) items bytes T
    → FilledStream base_table (within_trees s'.limits) items bytes T
on_limits s s' {items = items} {bytes = bytes} {T = T} e p =
    subst (λ (L : Bounds). FilledStream base_table (within_trees L) items bytes T) (sym e) p

-- the outcome under the limits as they were
outcome_before : (s s' : SessionState) {items : List FilledItem} {bytes : List ℕ} {e : Ending}
    → s'.limits ≡ s.limits → FilledOutcome base_table (within_trees s'.limits) bytes items e
    → FilledOutcome base_table (within_trees s.limits) bytes items e
outcome_before s s' {items = items} {bytes = bytes} {e = e} l o =
    subst (λ (L : Bounds). FilledOutcome base_table (within_trees L) bytes items e) l o

pub not_finished : (s s' s'' : SessionState) {items : List FilledItem} {z : List ℕ} (kept : GoItem)
    (bytes piece : List ℕ) (given : List GoItem) (f : Fault) → HasReadWhole s items z → IsSpelledAs s kept piece
    → s'.limits ≡ s.limits → (a : IsFed s' items z piece given)
    → FinishAnswers s' s'' (items ++ a.more) (z ++ piece) (Err f)
    → ReadBackAnswers s s'' items z kept bytes (Err (fault_of_session f))
not_finished s s' s'' {z = z} kept bytes piece given (reading.Refused R) w spelled l a r =
    let o = outcome_before s s' l r.0 in
    record {
      none = λ i b U m h.
          let e = (one_outcome o (whole_outcome (goes_on w spelled m h))).1 in
          absurd (let f : refused R ≡ the_end = e in cc);
      due = refused_there s z piece spelled o;
    }
not_finished s s' s'' kept bytes piece given reading.Read w spelled l a r = absurd r
not_finished s s' s'' kept bytes piece given reading.Memory w spelled l a r = tt
not_finished s s' s'' kept bytes piece given reading.Failed w spelled l a r = absurd r

-- ---- what is read to its end

-- between items the types are those behind the last one
types_at_rest : {L : Bounds} {T U : Table} {offset : ℕ} {st : Stage} {y : List ℕ}
    → StageHasRead true L T offset U st y → y ≡ [] → U ≡ T
types_at_rest (in_count q e n) f = e
types_at_rest (in_type_number a e k n) f = e
types_at_rest (in_definition a y e k d) f = e
types_at_rest {L = L} {T = T} {U = U} {offset = offset} (in_put p) f =
    absurd (let e = nothing_expects {L = L} {T = T} {U = U} {offset = offset} (in_put p) f in cc e.is)

pub read_whole : {s : SessionState} {items : List FilledItem} {bytes : List ℕ} → HasRead s items bytes
    → FilledOutcome base_table (within_trees s.limits) bytes items the_end → HasReadWhole s items bytes
read_whole {s = s} {items = items} {bytes = bytes} h o = by o.ends
  where
    by : EndsFilled base_table (within_trees s.limits) bytes items the_end → HasReadWhole s items bytes
    by (at_the_end stream) =
        let one = one_reading h.under_way [] h.stream stream (sym h.whole ∙ sym (append-nil bytes)) in
        let here : types s.types ≡ h.table = types_at_rest h.stage one.rest in
        record {
          read = h;
          stream = subst (λ (T : Table). FilledStream base_table (within_trees s.limits) items bytes T)
              (sym (here ∙ one.table)) stream;
        }

-- one item more was given than before
pub record FedOne (s s' : SessionState) (items : List FilledItem) (z piece : List ℕ) (given : List GoItem)
    (i : FilledItem) (U : Table) : Type 0 where
  pub mean : ItemsMean (types s'.types) given (i ∷ [])
  pub table : types s'.types ≡ U

same_more : (items more others : List FilledItem) → items ++ more ≡ items ++ others → more ≡ others
same_more [] more others e = e
same_more (i ∷ items) more others e = same_more items more others (cc)

-- where the item could go on, it is the one that was read
pub fed_one : {s s' : SessionState} {items : List FilledItem} {z piece b : List ℕ} {kept : GoItem} {given : List GoItem}
    {i : FilledItem} {U : Table} → HasReadWhole s items z → IsSpelledAs s kept piece → s'.limits ≡ s.limits
    → (a : IsFed s' items z piece given)
    → FilledOutcome base_table (within_trees s'.limits) (z ++ piece) (items ++ a.more) the_end
    → ItemMeans U kept i → IsFilledItem base_table (within_trees s.limits) (types s.types) (length z) i b U
    → FedOne s s' items z piece given i U
fed_one {s = s} {s' = s'} {items = items} {z = z} {piece = piece} {given = given} {i = i} {U = U} w spelled e a o m h =
    let due = on_limits s s' e (goes_on w spelled m h) in
    let all : items ++ a.more ≡ items ++ i ∷ [] = (one_outcome o (whole_outcome due)).0 in
    let more : a.more ≡ i ∷ [] = same_more items a.more (i ∷ []) all in
    let read = read_whole a.holds o in
    let one = one_reading [] []
    (subst (λ l. FilledStream base_table (within_trees s'.limits) l (z ++ piece) (types s'.types)) all read.stream) due
    refl in
    record { mean = subst (λ l. ItemsMean (types s'.types) given l) more a.mean; table = one.table }

mean_one : {T : Table} {given : List GoItem} {i : FilledItem} → ItemsMean T given (i ∷ []) → length given ≡ 1
mean_one (mean_more m mean_none) = refl

pub not_one : {s s' : SessionState} {items : List FilledItem} {z : List ℕ} {kept : GoItem} (piece : List ℕ)
    (given : List GoItem) → HasReadWhole s items z → IsSpelledAs s kept piece
    → s'.limits ≡ s.limits → (a : IsFed s' items z piece given)
    → FilledOutcome base_table (within_trees s'.limits) (z ++ piece) (items ++ a.more) the_end → length given ≢ 1
    → IsRefused (within_trees s.limits) (types s.types) z kept reason.DoesNotFit
not_one {s = s} {s' = s'} {z = z} piece given w spelled e a o n = record {
  none = λ i b U m h. n (mean_one (fed_one w spelled e a o m h).mean);
  due = ends_there s z piece spelled (outcome_before s s' e o);
}

only_means : {T : Table} {only : GoItem} {given : List GoItem} {i : FilledItem} → given ≡ only ∷ []
    → ItemsMean T given (i ∷ []) → ItemMeans T only i
only_means {T = T} {i = i} e m = by (subst (λ l. ItemsMean T l (i ∷ [])) e m)
  where
    by : {only : GoItem} → ItemsMean T (only ∷ []) (i ∷ []) → ItemMeans T only i
    by (mean_more m rest) = m

not_same : {s s' : SessionState} {items : List FilledItem} {z : List ℕ} {kept only : GoItem}
    (piece : List ℕ) (given : List GoItem) → HasReadWhole s items z → IsSpelledAs s kept piece
    → s'.limits ≡ s.limits → (a : IsFed s' items z piece given)
    → FilledOutcome base_table (within_trees s'.limits) (z ++ piece) (items ++ a.more) the_end → given ≡ only ∷ []
    → ¬ AreAlike (types s'.types) only kept
    → IsNoItem (within_trees s.limits) (types s.types) (length z) kept
not_same {s = s} {s' = s'} {kept = kept} piece given w spelled e a o one never = λ i b U m h.
    let f = fed_one w spelled e a o m h in
    let low : (within_trees s.limits).depth ≤ greatest_depth = omega arith in
    never (record {
      now = types s'.types;
      item = i;
      given_means = only_means one f.mean;
      due_means = subst (λ T. ItemMeans T kept i) (sym f.table) m;
      described = subst (λ T. ItemDescribed T i) (sym f.table) (item_described low h);
    })

no_more_mean : {T : Table} {only : GoItem} {rest : List GoItem} {A : Type 0} → ItemsMean T (only ∷ rest) [] → A
no_more_mean m = elim m [ ]

no_more_given : {T : Table} {i : FilledItem} {more : List FilledItem} {A : Type 0} → ItemsMean T [] (i ∷ more) → A
no_more_given m = elim m [ ]

-- the one item was read that is spelled so
pub read_back : {s s' : SessionState} {items : List FilledItem} {z : List ℕ} {kept only : GoItem}
    (piece : List ℕ) (given : List GoItem) → HasReadWhole s items z → s'.limits ≡ s.limits
    → (a : IsFed s' items z piece given)
    → FilledOutcome base_table (within_trees s'.limits) (z ++ piece) (items ++ a.more) the_end → given ≡ only ∷ []
    → ((T : Table) (i : FilledItem) → ItemMeans T only i → ItemMeans T kept i)
    → ReadsBack s s' items z kept piece
read_back {s = s} {s' = s'} {items = items} {z = z} {kept = kept} {only = only} piece given w e a o one same =
    by a.more (subst (λ l. ItemsMean (types s'.types) l a.more) one a.mean) (read_whole a.holds o)
  where
    L : Bounds
    L = within_trees s.limits

    by : (more : List FilledItem) → ItemsMean (types s'.types) (only ∷ []) more
        → HasReadWhole s' (items ++ more) (z ++ piece) → ReadsBack s s' items z kept piece
    by [] m r = no_more_mean m
    by (i ∷ []) (mean_more m rest) r =
        let stream = subst (λ (L : Bounds). FilledStream base_table (within_trees L) (items ++ i ∷ []) (z ++ piece)
        (types s'.types)) e r.stream in
        let last = last_of items stream in
        let first = one_reading piece last.bytes w.stream last.items_are (last.whole) in
        record {
          item = i;
          means = same (types s'.types) i m;
          is = subst (λ (T : Table). IsFilledItem base_table L T (length z) i piece (types s'.types)) (sym first.table)
              (subst (λ b. IsFilledItem base_table L last.table (length z) i b (types s'.types)) (sym first.rest)
              (subst (λ n. IsFilledItem base_table L last.table n i last.bytes (types s'.types))
              (let same = ap length first.bytes in omega arith) last.item));
          whole = r;
        }
    by (i ∷ (j ∷ more)) (mean_more m rest) r = no_more_given rest

-- the item that was read isn't the one that is kept
pub not_alike : {s s' : SessionState} (s'' : SessionState) {items : List FilledItem} {z : List ℕ} {kept only : GoItem}
    (bytes piece : List ℕ) (given : List GoItem) (d : Denial) → HasReadWhole s items z → IsSpelledAs s kept piece
    → s'.limits ≡ s.limits → (a : IsFed s' items z piece given)
    → FilledOutcome base_table (within_trees s'.limits) (z ++ piece) (items ++ a.more) the_end → given ≡ only ∷ []
    → IsUnfit (AreAlike (types s'.types) only kept) d
    → ReadBackAnswers s s'' items z kept bytes (Err (fault_of_denial d))
not_alike {s = s} {s' = s'} s'' {z = z} {kept = kept} bytes piece given (denial.Refused r) w spelled e a o one unfit =
    record {
      none = not_same piece given w spelled e a o one unfit.1;
      due = subst (RefusesPut (within_trees s.limits) (types s.types) z kept) (sym unfit.0)
          (ends_there s z piece spelled (outcome_before s s' e o));
    }
not_alike s'' bytes piece given denial.Memory w spelled e a o one unfit = tt

-- ---- one reason

same_reason : {L : Bounds} {T : Table} {stream : List ℕ} {kept : GoItem} {r s : Reason}
    → RefusesSpelling L T stream kept r → RefusesSpelling L T stream kept s → r ≡ s
same_reason {L = L} {stream = stream} p q =
    let same = one_kept p.spelled q.spelled in
    let o = (one_outcome p.outcome (subst (λ b. FilledOutcome base_table L (stream ++ b) q.items (refused q.refusal))
    (sym same) q.outcome)).1 in
    let e : p.refusal ≡ q.refusal = (let f : refused p.refusal ≡ refused q.refusal = o in cc) in
    sym p.told ∙ ap (λ (R : Refusal). R.reason) e ∙ q.told

pub one_reason : {L : Bounds} {T : Table} {stream : List ℕ} {kept : GoItem} {r s : Reason}
    → RefusesPut L T stream kept r → RefusesPut L T stream kept s → r ≡ s
one_reason (refused_spelling p) (refused_spelling q) = same_reason p q
one_reason (refused_spelling p) (does_not_fit n) = absurd (n _ p)
one_reason (does_not_fit n) (refused_spelling q) = absurd (n _ q)
one_reason (does_not_fit n) (does_not_fit m) = refl

-- ---- what is spelled and given, as the program has it

pub spelled_as : (s : SessionState) {kept : GoItem} {old new piece : List ℕ} {here : Defined} → here ≡ s.types
    → old ≡ [] → piece ≡ new → Appends (IsSpelling (types here) kept) old new → IsSpelledAs s kept piece
spelled_as s {kept = kept} {piece = piece} {here = here} t e p a =
    subst (λ (d : Defined). IsSpelling (types d) kept piece) t
    (subst (IsSpelling (types here) kept) (sym (p ∙ a.appended ∙ ap (λ l. l ++ a.bytes) e)) a.spelled)

pub all_given : {A : Type 0} {old new given : List A} → old ≡ [] → new ≡ old ++ given → given ≡ new
all_given {given = given} e p = sym (p ∙ ap (λ l. l ++ given) e)

pub one_given : {A : Type 0} (given : List A) (only : A) → length given ≡ 1 → only ≡ get_or given 0 only
    → given ≡ only ∷ []
one_given [] only n is = absurd (omega arith)
one_given (x ∷ []) only n is = ap (λ y. y ∷ []) (sym is)
one_given (x ∷ (y ∷ given)) only n is = absurd (omega arith)

-- ---- what a writer answers

pub nothing_put : {s : SessionState} → HasRead s [] [] → HasReadWhole s [] []
nothing_put h = read_whole h (whole_outcome no_more)

pub item_put : {w w' : GoWriter} {items : List FilledItem} {z : List ℕ} {kept : GoItem} {bytes old new : List ℕ}
    → w'.failed ≡ false → new ≡ old ++ bytes → ReadsBack w.session w'.session items z kept bytes
    → PutsItem w w' items z kept old new
item_put {bytes = bytes} sound out r = record {
  item = r.item;
  more = bytes;
  means = r.means;
  is = r.is;
  out = out;
  written = record { sound = sound; whole = r.whole };
}
