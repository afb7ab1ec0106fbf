-- How runs end.
use Rattle.std.proofs.Common.{◌≡◌, ℕ, Bool, false, List, Option, [], IfErr, MatchResult, Result, Ok, Err, ◌∙◌, ◌-◌}
use Rattle.std.proofs.Common.{append-nil}
use Rattle.std.proofs.Common.{◌^◌, ◌<◌, ◌⊎◌, arith, ap, sym, subst, refl, inl, inr}
use Rattle.std.proofs.Math.Nat.{eq-or-lt_of_le}
use Rattle.std.specs.Result.{IsErrAnd}
use Rattle.std.specs.Io.KnownBytes.{Appends, Keeps}
use Rattle.std.proofs.KnownBytes.{Appends-kept}
use Rattle.gob_stream.specs.Calls.Writing.{CountsWriterFaults, SentPrefix}
use Rattle.gob_stream.specs.Devices.{counts_up, FlushCounted, Rose}
use Rattle.gob_stream.specs.Reading.{CountsReads}
use Rattle.gob_stream.specs.declared.fault.Fault.{Fault}
use Rattle.gob_stream.specs.declared.fault.Fault.TheVariants as reading
use Rattle.gob_stream.specs.declared.fault.WriteFault.{WriteFault}
use Rattle.gob_stream.specs.declared.fault.WriteFault.TheVariants as writing
use Rattle.gob_tool.specs.declared.fault.ToolFault.{ToolFault}
use Rattle.gob_tool.specs.declared.fault.ToolFault.TheVariants as fault
use Rattle.gob_tool.specs.Ending.{CountsOnlyWrites, EndsRun, ends_so, flush_fails}
use Rattle.gob_tool.specs.Fault.{IsOfWanted, reading_fault, writing_fault}
use Rattle.gob_tool.specs.Showing.{AppendsPrefix, CountsReadFaults}

-- what holds of the error holds of the answer that a `?` returns with it
pub at_error : {A E : Type 0} (P : Result A E → Type 0) (r : Result A E) (f : E) → IsErrAnd r (λ e. e ≡ f) → P (Err f)
    → P r
at_error P (Ok u) f e h = absurd e
at_error P (Err g) f e h = subst (λ f. P (Err f)) (sym e) h

pub fault_at : {A E : Type 0} (P : E → Type 0) (r : Result A E) (e : E) → IsErrAnd r (λ x. x ≡ e) → P e → IfErr r P
fault_at P (Ok a) e is h = tt
fault_at P (Err f) e is h = subst P (sym is) h

-- ---- what is counted
pub prefix_kept : (old mid new : Option (List ℕ)) (all : List ℕ) → AppendsPrefix old mid all → Keeps mid new
    → AppendsPrefix old new all
prefix_kept old mid new all f k = record
    { prefix = f.prefix; rest = f.rest; whole = f.whole; out = Appends-kept old mid new f.prefix f.out k }

-- all of it is a prefix
pub all_kept : (old mid new : Option (List ℕ)) (all : List ℕ) → Appends old mid all → Keeps mid new
    → AppendsPrefix old new all
all_kept old mid new all a k = record
    { prefix = all; rest = []; whole = sym (append-nil all); out = Appends-kept old mid new all a k }

-- a read failed in no other call than the reader's
pub reading_unread : (e : Fault) → (e ≡ reading.Read → ⊥) → reading_fault e ≡ fault.Read → ⊥
reading_unread (reading.Refused R) other is = cc
reading_unread reading.Read other is = other refl
reading_unread reading.Memory other is = cc
reading_unread reading.Failed other is = cc

pub writing_unread : (e : WriteFault) → writing_fault e ≡ fault.Read → ⊥
writing_unread (writing.Refused r) is = cc
writing_unread writing.Write is = cc
writing_unread writing.Memory is = cc
writing_unread writing.Failed is = cc

pub reads_unread : (old new : ℕ) (r : Result (Unit {0}) ToolFault) → new ≡ old → IfErr r (λ f. f ≡ fault.Read → ⊥)
    → CountsReadFaults old new r
reads_unread old new (Ok u) same other = same
reads_unread old new (Err (fault.Refused R)) same other = same
reads_unread old new (Err (fault.Wanted R)) same other = same
reads_unread old new (Err fault.NoWantedType) same other = same
reads_unread old new (Err (fault.Clash path why)) same other = same
reads_unread old new (Err (fault.LeftOut path number)) same other = same
reads_unread old new (Err fault.Read) same other = absurd (other refl)
reads_unread old new (Err fault.Write) same other = inl same
reads_unread old new (Err fault.Memory) same other = same

-- where a write or a flush failed
pub write_counts : (old mid new : ℕ) (e : WriteFault) → e ≡ writing.Write → mid ≡ old
    → CountsWriterFaults mid new (Err e) → CountsOnlyWrites {A = Unit {0}} old new (Err (writing_fault e))
write_counts old mid new (writing.Refused r) is same h = cc
write_counts old mid new writing.Write is same h = h ∙ ap (λ n. counts_up n 1) same
write_counts old mid new writing.Memory is same h = cc
write_counts old mid new writing.Failed is same h = cc

-- ---- what is flushed
rose_up : (old new : ℕ) → new ≡ counts_up old 1 → Rose old new
rose_up old new e = by_place (eq-or-lt_of_le (omega (arith, e)))
  where
    by_place : (new ≡ 2 ^ 64 - 1) ⊎ (new < 2 ^ 64 - 1) → Rose old new
    by_place (inl top) = inr top
    by_place (inr less) = inl (omega (arith, e, less))

-- a write failed
pub write_rose : (old new : ℕ) (r : Result (Unit {0}) ToolFault) → r ≡ Err fault.Write → CountsOnlyWrites old new r
    → Rose old new
write_rose old new r is h = rose_up old new (subst (λ r. CountsOnlyWrites old new r) is h)

-- none did
no_write : (old new : ℕ) (r : Result (Unit {0}) ToolFault) → (r ≡ Err fault.Write → ⊥) → CountsOnlyWrites old new r
    → new ≡ old
no_write old new (Ok u) other h = h
no_write old new (Err (fault.Refused R)) other h = h
no_write old new (Err (fault.Wanted R)) other h = h
no_write old new (Err fault.NoWantedType) other h = h
no_write old new (Err (fault.Clash path why)) other h = h
no_write old new (Err (fault.LeftOut path number)) other h = h
no_write old new (Err fault.Read) other h = h
no_write old new (Err fault.Write) other h = absurd (other refl)
no_write old new (Err fault.Memory) other h = h

pub flushed_so : {E : Type 0} (res : Result (Unit {0}) E) (answer : Result (Unit {0}) ToolFault) (failures old new : ℕ)
    (was is : Bool) → MatchResult res (λ _. is ≡ false) (λ _. is ≡ was) → FlushCounted old new res
    → (answer ≡ Err fault.Write → ⊥) → CountsOnlyWrites failures old answer → (is ≡ false) ⊎ Rose failures new
flushed_so (Ok u) answer failures old new was is noted counted other h = inl noted
flushed_so (Err e) answer failures old new was is noted counted other h =
    inr (rose_up failures new (counted ∙ ap (λ n. counts_up n 1) (no_write failures old answer other h)))

pub sent_prefix : (old new : Option (List ℕ)) (bytes : List ℕ) → SentPrefix bytes old new → AppendsPrefix old new bytes
sent_prefix old new bytes s = record { prefix = s.prefix; rest = s.rest; whole = s.whole; out = s.out }

-- ---- what only the stream that has the wanted type can show
-- the flush at the end isn't that
pub ended_wanted : (P : Type 0) {answer result : Result (Unit {0}) ToolFault} → EndsRun answer result
    → IfErr answer (λ f. IsOfWanted f → P) → IfErr result (λ f. IsOfWanted f → P)
ended_wanted P (ends_so e) h = subst (λ (r : Result (Unit {0}) ToolFault). IfErr r (λ f. IsOfWanted f → P)) (sym e) h
ended_wanted P (flush_fails a e) h =
    subst (λ (r : Result (Unit {0}) ToolFault). IfErr r (λ f. IsOfWanted f → P)) (sym e) (λ w. absurd w)

-- ---- what a read counts
pub stop_faults : (A : Type 0) (old mid new : ℕ) (e : Fault) → mid ≡ old → CountsReads {A = A} mid new (Err e)
    → CountsReadFaults old new (Err (reading_fault e))
stop_faults A old mid new (reading.Refused R) same h = h ∙ same
stop_faults A old mid new reading.Read same h = h.0 ∙ ap (λ n. counts_up n 1) same
stop_faults A old mid new reading.Memory same h = h ∙ same
stop_faults A old mid new reading.Failed same h = h ∙ same
