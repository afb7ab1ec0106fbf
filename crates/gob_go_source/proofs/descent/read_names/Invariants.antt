use Rattle.std.proofs.Common.{length}
use Rattle.gob_go_source.specs.Grammar.{SaysNames}
use Rattle.gob_go_source.specs.Left.{left}
use Rattle.gob_go_source.proofs.descent.read_names.Given as goal

abbrev pub invariant-commas : goal.invariant-commas
invariant-commas l = SaysNames l.names.items (left l.fn.tokens) (left l.tokens)

abbrev pub decreases-commas : goal.decreases-commas
decreases-commas l = length (left l.tokens)
