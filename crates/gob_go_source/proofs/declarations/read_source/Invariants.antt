use Rattle.std.proofs.Common.{length}
use Rattle.gob_go_source.specs.Declarations.{SaysSource}
use Rattle.gob_go_source.specs.Left.{left}
use Rattle.gob_go_source.proofs.declarations.read_source.Given as goal

abbrev pub invariant-tops : goal.invariant-tops
invariant-tops l = SaysSource l.types.items l.declarations.items (left l.fn.tokens) (left l.tokens)

abbrev pub decreases-tops : goal.decreases-tops
decreases-tops l = length (left l.tokens)
