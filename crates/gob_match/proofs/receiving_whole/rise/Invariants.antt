use Rattle.std.proofs.Common.{drop}
use Rattle.gob_match.specs.Machine.ReceivingWhole.{RiseFrom}
use Rattle.gob_match.proofs.receiving_whole.rise.Given as goal

abbrev pub invariant-loop-field : goal.invariant-loop-field
invariant-loop-field l = RiseFrom l.next (drop l.field-index l.common) → RiseFrom 0 l.common
