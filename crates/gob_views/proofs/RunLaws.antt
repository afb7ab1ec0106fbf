-- The limits of a view, and runs over what is kept of an input.
use Rattle.std.proofs.Common.{◌≡◌, ℕ, true, false, List, [], Option, Result, Ok, Err, ap, sym, subst, inl, min}
use Rattle.std.proofs.Common.{arith}
use Rattle.std.specs.Io.KnownBytes.{Appends, Keeps}
use Rattle.std.proofs.KnownBytes.{Appends-kept, Appends-nil}
use Rattle.gob_stream.specs.Bounds.{greatest_depth, within_trees}
use Rattle.gob_tool.specs.Ending.{EndsRun, ends_so, flush_fails}
use Rattle.gob_tool.specs.Showing.{CountsReadFaults, CountsWriteFaults}
use Rattle.gob_tool.specs.declared.fault.ToolFault.{ToolFault}
use Rattle.gob_tool.specs.declared.fault.ToolFault.TheVariants as fault
use Rattle.gob_words.specs.declared.view.View.{View}
use Rattle.gob_views.specs.Running.{in_memory, view_limits}

-- a reader that takes what the command allows keeps to the view's limits
pub within_view : (view : View) → within_trees (view_limits view) ≡ view_limits view
within_view view =
    let least : min view.depth greatest_depth ≡ view.depth = omega (arith, view.most) in
    ap (λ depth. record (view_limits view) { depth = depth }) least

pub not_both : false ≡ true → ⊥
not_both e = cc

-- ---- a run over bytes in memory
-- no read of the input was counted
reads_of : (failures failures' : ℕ) (answer : Result (Unit {0}) ToolFault) → failures' ≡ failures
    → CountsReadFaults failures failures' (in_memory answer)
reads_of failures failures' (Ok u) e = e
reads_of failures failures' (Err (fault.Refused R)) e = e
reads_of failures failures' (Err fault.Write) e = inl e
reads_of failures failures' (Err fault.Read) e = e
reads_of failures failures' (Err fault.Memory) e = e
reads_of failures failures' (Err (fault.Wanted R)) e = e
reads_of failures failures' (Err fault.NoWantedType) e = e
reads_of failures failures' (Err (fault.Clash path reason)) e = e
reads_of failures failures' (Err (fault.LeftOut path number)) e = e

pub reads_in_memory : (failures failures' : ℕ) (answer result : Result (Unit {0}) ToolFault)
    → result ≡ in_memory answer → failures' ≡ failures → CountsReadFaults failures failures' result
reads_in_memory failures failures' answer result is e =
    subst (λ r. CountsReadFaults failures failures' r) (sym is) (reads_of failures failures' answer e)

-- and the writes are those of the run
writes_of : (failures failures' : ℕ) (answer : Result (Unit {0}) ToolFault)
    → CountsWriteFaults failures failures' answer → CountsWriteFaults failures failures' (in_memory answer)
writes_of failures failures' (Ok u) h = h
writes_of failures failures' (Err (fault.Refused R)) h = h
writes_of failures failures' (Err fault.Write) h = h
writes_of failures failures' (Err fault.Read) h = h
writes_of failures failures' (Err fault.Memory) h = h
writes_of failures failures' (Err (fault.Wanted R)) h = h
writes_of failures failures' (Err fault.NoWantedType) h = h
writes_of failures failures' (Err (fault.Clash path reason)) h = h
writes_of failures failures' (Err (fault.LeftOut path number)) h = h

pub writes_in_memory : (failures failures' : ℕ) (answer result : Result (Unit {0}) ToolFault)
    → result ≡ in_memory answer → CountsWriteFaults failures failures' answer
    → CountsWriteFaults failures failures' result
writes_in_memory failures failures' answer result is h =
    subst (λ r. CountsWriteFaults failures failures' r) (sym is) (writes_of failures failures' answer h)

-- ---- a run that has met a fault
-- the flush behind it changes no fault
pub fault_ended : (f : ToolFault) (result : Result (Unit {0}) ToolFault) → EndsRun (Err f) result → result ≡ Err f
fault_ended f result (ends_so e) = e
fault_ended f result (flush_fails o e) = absurd (cc)

-- and nothing went out
pub nothing_sent : (old new : Option (List ℕ)) → Keeps old new → Appends old new []
nothing_sent old new k = Appends-kept old old new [] (Appends-nil old) k
