use Rattle.std.proofs.Common.{length}
use Rattle.gob_go_source.specs.Declarations.{Declares, SaysGroup}
use Rattle.gob_go_source.specs.Grown.{Grown}
use Rattle.gob_go_source.specs.Left.{left}
use Rattle.gob_go_source.proofs.declarations.read_group.Given as goal

abbrev pub invariant-group : goal.invariant-group
invariant-group l = record {
  says : Declares (λ ds. SaysGroup l.types.items ds (left l.fn.tokens) (left l.tokens)) l.fn.declarations.items
      l.declarations.items;
  grown : Grown l.fn.types.items l.types.items;
}

abbrev pub decreases-group : goal.decreases-group
decreases-group l = length (left l.tokens)
