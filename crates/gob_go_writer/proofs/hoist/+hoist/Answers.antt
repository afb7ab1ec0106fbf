use Rattle.std.proofs.Common.{List, rules, subst, sym, ◌∙◌}
use Rattle.std.specs.Vec.Iter.{into_iter_items}
use Rattle.gob_go.specs.declared.filled.Filled.{the_lemmas}
use Rattle.gob_go.specs.declared.filled.Filling.{Filling}
use Rattle.gob_go_writer.proofs.HoistSteps.{FillSo, one_filled, value_hoisted, filling_hoisted, one_gone}
use Rattle.gob_go_writer.proofs.hoist.+hoist.Goals as goal

pub hoist_value-loop-filling-preserved : goal.hoist_value-loop-filling-preserved
hoist_value-loop-filling-preserved t c =
    let s = c.in-Some.ensures.steps in (
      one_filled c.in_ok-hoist_filling.field-0 c.loop-filling.invariant.0 s.0 c.in_ok-hoist_filling.ensures
          c.in_ok-push.ensures.items,
      one_gone c.loop-filling.invariant.1 s.0 s.1,
    )

pub hoist_value-returns : goal.hoist_value-returns
hoist_value-returns t c =
    let none = c.in-None.ensures.steps in
    value_hoisted
    (subst (λ (l : List Filling). FillSo l (into_iter_items c.loop-filling.filling-iterator)
    c.loop-filling.hoisted.items c.args.out.now.items c.loop-filling.out.items)
    c.into_iter-filling-iterator.ensures.into_iter_gives.0 c.loop-filling.invariant.0)
    (sym c.loop-filling.invariant.1 ∙ none.0) (search (rules, the_lemmas)) (search (rules, the_lemmas))

pub hoist_filling-returns : goal.hoist_filling-returns
hoist_filling-returns t c =
    filling_hoisted c.in_ok-push_definitions.ensures (search (rules, the_lemmas, c.in_ok-value.ensures))
    (search (rules, the_lemmas)) (search (rules, the_lemmas)) (search (rules, the_lemmas))
    (search (rules, the_lemmas, c.new.ensures.items))
