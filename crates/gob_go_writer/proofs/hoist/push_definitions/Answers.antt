use Rattle.std.proofs.Common.{List, subst, sym, ◌∙◌}
use Rattle.gob_go_writer.specs.Machine.Hoisted.{Defines}
use Rattle.gob_go.specs.declared.filled.Definition.{Definition}
use Rattle.gob_go_writer.proofs.HoistSteps.{one_defined, all_defined, one_gone}
use Rattle.gob_go_writer.proofs.hoist.push_definitions.Goals as goal

pub loop-definition-preserved : goal.loop-definition-preserved
loop-definition-preserved c =
    let s = c.in-Some.ensures.steps in (
      one_defined c.in-Some.definition c.loop-definition.invariant.0 s.0 c.in_ok-push.ensures.items,
      one_gone c.loop-definition.invariant.1 s.0 s.1,
    )

pub returns : goal.returns
returns c =
    let none = c.in-None.ensures.steps in
    subst (λ (l : List Definition). Defines l c.args.out.now.items c.loop-definition.out.items)
    c.into_iter-definition-iterator.ensures.into_iter_gives.0
    (all_defined c.loop-definition.invariant.0 (sym c.loop-definition.invariant.1 ∙ none.0))
