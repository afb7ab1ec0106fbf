use Rattle.std.proofs.Common.{List, rules, subst, sym, ◌∙◌}
use Rattle.std.specs.Vec.Iter.{into_iter_items}
use Rattle.gob_go.specs.declared.filled.Filled.{the_lemmas}
use Rattle.gob_go.specs.declared.filled.Filling.{Filling}
use Rattle.gob_go_writer.proofs.HoistSteps.{one_gone}
use Rattle.gob_join.specs.Renaming.{among}
use Rattle.gob_join.proofs.ValueLaws.{RenamesSo, filling_renamed, one_renamed_more, value_renamed}
use Rattle.gob_join.proofs.value.+value.Goals as goal

pub renamed_value-loop-filling-preserved : goal.renamed_value-loop-filling-preserved
renamed_value-loop-filling-preserved t c =
    let s = c.in-Some.ensures.steps in (
      one_renamed_more c.in_ok-renamed_filling.field-0 c.loop-filling.invariant.0 s.0 c.in_ok-renamed_filling.ensures
          c.in_ok-push.ensures.items,
      one_gone c.loop-filling.invariant.1 s.0 s.1,
    )

pub renamed_value-returns : goal.renamed_value-returns
renamed_value-returns t c =
    let none = c.in-None.ensures.steps in
    value_renamed
    (subst (λ (l : List Filling). RenamesSo (among c.args.ids.now) l (into_iter_items c.loop-filling.filling-iterator)
    c.loop-filling.renamed.items)
    c.into_iter-filling-iterator.ensures.into_iter_gives.0 c.loop-filling.invariant.0)
    (sym c.loop-filling.invariant.1 ∙ none.0) (search (rules, the_lemmas)) (search (rules, the_lemmas))

pub renamed_filling-returns : goal.renamed_filling-returns
renamed_filling-returns t c =
    filling_renamed (search (rules, the_lemmas, c.in_ok-value.ensures)) (search (rules, the_lemmas, c.in_ok-id.ensures))
    (search (rules, the_lemmas)) (search (rules, the_lemmas)) (search (rules, the_lemmas, c.new.ensures.items))
