-- How a whole conversion ends.
use Rattle.std.proofs.Common.{◌≡◌, refl, subst, sym, ℕ, inl, inr, Bool, List, Option, Some}
use Rattle.std.proofs.Common.{Result, Ok, Err, IfErr}
use Rattle.std.specs.Io.KnownBytes.{Keeps as KeepsBytes}
use Rattle.std.proofs.KnownBytes.{Appends-kept, Appends-nil}
use Rattle.gob_types.specs.Defined.{types}
use Rattle.gob_types.specs.Table.{Table}
use Rattle.gob_types.specs.declared.id.TypeId.{TypeId}
use Rattle.gob_left_out.specs.LeftOut.{Row}
use Rattle.gob_left_out.specs.Tally.{TallyRow}
use Rattle.gob_rename.specs.Fitting.{AllFit}
use Rattle.gob_rename.specs.Renaming.{renamed}
use Rattle.gob_rename.specs.declared.rename.Rename.{Rename}
use Rattle.gob_stream.specs.Bounds.{Bounds, within_trees}
use Rattle.gob_filled.specs.Outcome.{profile}
use Rattle.gob_filled.specs.Stream.{FilledItem}
use Rattle.gob_go_writer.specs.Calls.Writer.{HasPut}
use Rattle.gob_tool.specs.Answering.{BeginsOutcome}
use Rattle.gob_tool.specs.Showing.{CountsReadFaults, CountsWriteFaults}
use Rattle.gob_tool.specs.Taking.{CountsTakeReads, Untouched}
use Rattle.gob_tool.specs.declared.fault.ToolFault.TheVariants as fault
use Rattle.gob_tool.proofs.EndLaws.{all_kept, prefix_kept}
use Rattle.gob_tool.proofs.TextLaws.{ended_begins, runs_as}
use Rattle.gob_convert.specs.Converting.{HasConverted, in_front}
use Rattle.gob_convert.specs.Faults.{EndsConversion, ends_so, flush_fails, IsAmongRenames, IsBefore, OfRun}
use Rattle.gob_convert.specs.Running.{ConvertAnswers, stops_at_wanted, takes_no_front, misfits, converts_behind}
use Rattle.gob_convert.specs.Running.{Converting, converts, clashes, leaves_out, is_full, ConvertsBehind, HasWanted}
use Rattle.gob_convert.specs.Running.{GoesOut, GoesOutCut}
use Rattle.gob_convert.specs.declared.fault.ConvertFault.{ConvertFault}
use Rattle.gob_convert.specs.declared.fault.ConvertFault.TheVariants as stop
use Rattle.gob_convert.specs.declared.wanted.Front.{Front}
use Rattle.gob_convert.specs.declared.wanted.Target.{Target}
use Rattle.gob_convert.specs.Machine.Wanted.{FindsTarget, IsFound, IsTargetStop}

-- ---- the flush at the end
converted_as : {all : Bool} {L : Bounds} {bytes : List ℕ} {front : List FilledItem} {W : Table} {u : TypeId}
    {P Q : List ℕ → List (List Row) → Type 0} → ((out : List ℕ) (left : List (List Row)) → P out left → Q out left)
    → (T : Table) (items : List FilledItem)
    → HasConverted all L bytes front W u P T items → HasConverted all L bytes front W u Q T items
converted_as f T items h = record {
  made = h.made;
  out = h.out;
  table = h.table;
  stream = h.stream;
  ids = h.ids;
  renaming = h.renaming;
  left = h.left;
  values = h.values;
  holds = f h.out h.left h.holds;
}

module _ {told telling : List TallyRow} (old mid new : Option (List ℕ)) (k : KeepsBytes mid new) where
  whole_kept : (out : List ℕ) (left : List (List Row)) → GoesOut old mid told telling out left
      → GoesOut old new told telling out left
  whole_kept out left h = record { sent = Appends-kept old mid new out h.sent k; tallies = h.tallies }

  cut_kept : (out : List ℕ) (left : List (List Row)) → GoesOutCut old mid told telling out left
      → GoesOutCut old new told telling out left
  cut_kept out left h = record { sent = prefix_kept old mid new out h.sent k; tallies = h.tallies }

  whole_cut : (out : List ℕ) (left : List (List Row)) → GoesOut old mid told telling out left
      → GoesOutCut old new told telling out left
  whole_cut out left h = record { sent = all_kept old mid new out h.sent k; tallies = h.tallies }

module _ (all : Bool) (L : Bounds) (bytes : List ℕ) (now : Option (List ℕ)) (W : Table) (u : TypeId) where
  converting_as : {P Q C D : Table → List FilledItem → Type 0}
      → ((T : Table) (items : List FilledItem) → P T items → Q T items)
      → ((T : Table) (items : List FilledItem) → C T items → D T items) → (r : Result (Unit {0}) ConvertFault)
      → Converting all L bytes now W u P C r → Converting all L bytes now W u Q D r
  converting_as {P = P} {Q = Q} {C = C} {D = D} f g r (converts a h) =
      converts a (runs_as profile L bytes now P Q C D a h f g)
  converting_as f g r (clashes s) = clashes (record {
    items = s.items;
    id = s.id;
    value = s.value;
    begins = s.begins;
    holds = f _ _ s.holds;
    stops = s.stops;
  })
  converting_as f g r (leaves_out is s) = leaves_out is (record {
    items = s.items;
    id = s.id;
    value = s.value;
    begins = s.begins;
    holds = f _ _ s.holds;
    stops = s.stops;
  })
  converting_as f g r (is_full b) = is_full (record { items = b.items; begins = b.begins; holds = f _ _ b.holds })

  ended_whole : {P C D : Table → List FilledItem → Type 0} → ((T : Table) (items : List FilledItem) → P T items
      → D T items) → (r : Result (Unit {0}) ConvertFault) → Converting all L bytes now W u P C r → r ≡ Ok tt
      → BeginsOutcome profile L bytes D
  ended_whole f r (converts (Ok x) h) e = ended_begins profile h f
  ended_whole f r (converts (Err x) h) e = absurd (cc e)
  ended_whole f r (clashes s) e = absurd (cc e)
  ended_whole f r (leaves_out is s) e = absurd (cc e)
  ended_whole f r (is_full b) e = absurd (cc e)

  pub behind_ended : (front : List FilledItem) (old mid new : Option (List ℕ)) (told telling : List TallyRow)
      (answer result : Result (Unit {0}) ConvertFault) → KeepsBytes mid new → EndsConversion answer result
      → ConvertsBehind all L bytes now front W u old mid told telling answer
      → ConvertsBehind all L bytes now front W u old new told telling result
  behind_ended front old mid new told telling answer result k (ends_so e) h =
      subst (λ r. ConvertsBehind all L bytes now front W u old new told telling r) (sym e)
      (converting_as (converted_as (whole_kept old mid new k)) (converted_as (cut_kept old mid new k)) answer h)
  behind_ended front old mid new told telling answer result k (flush_fails o e) h =
      subst (λ r. ConvertsBehind all L bytes now front W u old new told telling r) (sym e)
      (converts (Err fault.Write) (ended_whole (converted_as (whole_cut old mid new k)) answer h o))

-- ---- all of it
pub converted_at : {rs : List Rename} {all own : Bool} {L M N : Bounds} {wanted bytes : List ℕ}
    {wanted_now now old new : Option (List ℕ)} {told telling : List TallyRow} {f : Front} {t : Target}
    {r : Result (Unit {0}) ConvertFault}
    (h : HasWanted (within_trees M) wanted wanted_now (λ given F u. IsFound rs f t given F u)) → M ≡ L → N ≡ L
    → own ≡ all
    → ConvertsBehind own (within_trees N) bytes now (in_front h.items) (types t.table) t.id old new told telling r
    → ConvertAnswers rs all (within_trees L) wanted bytes wanted_now now old new told telling r
converted_at {rs = rs} {all = all} {own = own} {L = L} {wanted = wanted} {bytes = bytes} {wanted_now = wanted_now}
    {now = now} {old = old} {new = new} {told = told} {telling = telling} {t = t} {r = r} h same limits is b =
    converts_behind (subst (λ (L : Bounds). HasWanted (within_trees L) wanted wanted_now Fits) same (record {
      items = h.items;
      behind = h.behind;
      stream = h.stream;
      end = h.end;
      front = h.front;
      table = h.table;
      in_front = h.in_front;
      id = h.id;
      first = h.first;
      holds = (
        h.holds.fit,
        subst (λ a. ConvertsBehind a (within_trees L) bytes now (in_front h.items) (renamed rs h.table) h.id old new
            told telling r)
            is
            (subst (λ W. ConvertsBehind own (within_trees L) bytes now (in_front h.items) W h.id old new told telling r)
            h.holds.types_are
            (subst (λ u. ConvertsBehind own (within_trees L) bytes now (in_front h.items)
            (types t.table) u old new told telling r)
            (sym h.holds.id)
            (subst (λ (L : Bounds). ConvertsBehind own (within_trees L) bytes now (in_front h.items) (types t.table)
            t.id
            old new told telling r) limits b))),
      );
    }))
  where
    Fits : List FilledItem → Table → TypeId → Type 0
    Fits given F u = AllFit rs F × ConvertsBehind all (within_trees L) bytes now (in_front given) (renamed rs F) u old
        new told telling r

pub converted_behind : {rs : List Rename} {all own : Bool} {L M N : Bounds} {wanted bytes : List ℕ}
    {wanted_now now old new : Option (List ℕ)} {told telling : List TallyRow} {f : Front} {t : Target}
    {r : Result (Unit {0}) ConvertFault}
    (h : HasWanted (within_trees M) wanted wanted_now (λ given F u. IsFound rs f t given F u)) → M ≡ L → N ≡ L
    → own ≡ all
    → ((items : List FilledItem) → HasPut f.writer items f.bytes.items
    → ConvertsBehind own (within_trees N) bytes now items (types t.table) t.id old new told telling r)
    → ConvertAnswers rs all (within_trees L) wanted bytes wanted_now now old new told telling r
converted_behind h same limits is behind = converted_at h same limits is (behind (in_front h.items) h.holds.put)

pub target_unfound : {rs : List Rename} {all : Bool} {L M : Bounds} {wanted bytes : List ℕ}
    {wanted_now now old new : Option (List ℕ)} (told : List TallyRow) (f : Front) (e : ConvertFault)
    → M ≡ L → FindsTarget rs (within_trees M) wanted wanted_now f (Err e) → Untouched bytes now old new
    → ConvertAnswers rs all (within_trees L) wanted bytes wanted_now now old new told told (Err e)
target_unfound {rs = rs} {all = all} {L = L} {wanted = wanted} {bytes = bytes} {wanted_now = wanted_now} {now = now}
    {old = old} {new = new} told f e same h unread =
    by e (subst (λ (L : Bounds). FindsTarget rs (within_trees L) wanted wanted_now f (Err e)) same h)
  where
    by : (e : ConvertFault) → FindsTarget rs (within_trees L) wanted wanted_now f (Err e)
        → ConvertAnswers rs all (within_trees L) wanted bytes wanted_now now old new told told (Err e)
    by (stop.Misfits number why) h = misfits h unread refl
    by (stop.Full why) h = takes_no_front unread refl
    by (stop.Clash c) h = absurd h
    by (stop.Run x) h = stops_at_wanted h unread refl

pub no_memory_at_all : {rs : List Rename} {all : Bool} {L : Bounds} {wanted bytes : List ℕ}
    {wanted_now now old new : Option (List ℕ)} (told : List TallyRow) → Untouched bytes now old new
    → ConvertAnswers rs all L wanted bytes wanted_now now old new told told (Err (stop.Run fault.Memory))
no_memory_at_all told unread = stops_at_wanted tt unread refl

pub untouched : {bytes : List ℕ} {now : Option (List ℕ)} (old : Option (List ℕ)) → now ≡ Some bytes
    → Untouched bytes now old old
untouched old known = record { unread = known; unwritten = Appends-nil old }

-- ---- what is counted
pub target_writes : (failures : ℕ) (e : ConvertFault) → IsTargetStop e
    → OfRun (CountsWriteFaults failures failures) (Err e)
target_writes failures (stop.Misfits number why) s = refl
target_writes failures (stop.Full why) s = inl refl
target_writes failures (stop.Clash c) s = inl refl
target_writes failures (stop.Run (fault.Refused R)) s = inl refl
target_writes failures (stop.Run (fault.Wanted R)) s = inl refl
target_writes failures (stop.Run fault.NoWantedType) s = inl refl
target_writes failures (stop.Run (fault.Clash path why)) s = inl refl
target_writes failures (stop.Run (fault.LeftOut path number)) s = inl refl
target_writes failures (stop.Run fault.Read) s = inl refl
target_writes failures (stop.Run fault.Write) s = absurd s
target_writes failures (stop.Run fault.Memory) s = inl refl

pub ended_reads : (wanted wanted' reads reads' : ℕ) (answer result : Result (Unit {0}) ConvertFault)
    → wanted' ≡ wanted → EndsConversion answer result → OfRun (CountsReadFaults reads reads') answer
    → OfRun (CountsTakeReads wanted wanted' reads reads') result
ended_reads wanted wanted' reads reads' answer result same (flush_fails o e) h =
    subst (λ r. OfRun (CountsTakeReads wanted wanted' reads reads') r) (sym e)
    (same, inl (subst (λ r. OfRun (CountsReadFaults reads reads') r) o h))
ended_reads wanted wanted' reads reads' answer result same (ends_so e) h =
    subst (λ r. OfRun (CountsTakeReads wanted wanted' reads reads') r) (sym e) (of answer h)
  where
    of : (answer : Result (Unit {0}) ConvertFault) → OfRun (CountsReadFaults reads reads') answer
        → OfRun (CountsTakeReads wanted wanted' reads reads') answer
    of (Ok x) h = (same, h)
    of (Err (stop.Misfits number why)) h = (same, h)
    of (Err (stop.Full why)) h = (same, h)
    of (Err (stop.Clash c)) h = (same, h)
    of (Err (stop.Run (fault.Refused R))) h = (same, h)
    of (Err (stop.Run (fault.Wanted R))) h = (same, h)
    of (Err (stop.Run fault.NoWantedType)) h = (same, h)
    of (Err (stop.Run (fault.Clash path why))) h = (same, h)
    of (Err (stop.Run (fault.LeftOut path number))) h = (same, h)
    of (Err (stop.Run fault.Read)) h = inr (same, h)
    of (Err (stop.Run fault.Write)) h = (same, h)
    of (Err (stop.Run fault.Memory)) h = (same, h)

-- ---- what stops no run before the input is read
pub ended_own : (P : ConvertFault → Type 0) (answer result : Result (Unit {0}) ConvertFault)
    → EndsConversion answer result → IfErr answer (λ f. IsBefore f → ⊥)
    → ((f : ConvertFault) → (IsBefore f → ⊥) → P f) → IfErr result P
ended_own P answer result (flush_fails o e) own tells = subst (λ r. IfErr r P) (sym e) (tells (stop.Run fault.Write) (λ
    b. b))
ended_own P answer result (ends_so e) own tells = subst (λ r. IfErr r P) (sym e) (of answer own)
  where
    of : (answer : Result (Unit {0}) ConvertFault) → IfErr answer (λ f. IsBefore f → ⊥) → IfErr answer P
    of (Ok x) own = tt
    of (Err f) own = tells f own

pub among_any : (renames : ℕ) (f : ConvertFault) → (IsBefore f → ⊥) → IsAmongRenames renames f
among_any renames (stop.Misfits number why) own = absurd (own tt)
among_any renames (stop.Full why) own = tt
among_any renames (stop.Clash c) own = tt
among_any renames (stop.Run f) own = tt
