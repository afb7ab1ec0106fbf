use Rattle.std.proofs.Common.{arith, refl, sym, subst, Contains, ◌∙◌}
use Rattle.std.proofs.lemmas.List.{take_all}
use Rattle.gob_join.proofs.TakingLaws.{more_defined, no_type, none_defined, one_more_type, some_defined}
use Rattle.gob_join.proofs.taking.define_all.Goals as goal

pub loop-id-init : goal.loop-id-init
loop-id-init c = (refl, λ items bytes h. none_defined c.args.text.now.items h no_type)

pub loop-id-preserved : goal.loop-id-preserved
loop-id-preserved c =
    let i = c.loop-id.invariant in (
      c.define.ensures.limits ∙ i.0,
      λ items bytes h.
          let d = i.1 items bytes h in
          more_defined (λ t k. one_more_type c.args.ids.now c.loop-id.id-index t _ c.loop-id-test.true k) d
          (c.in_ok-define.ensures.defined _ _ d.on.put),
    )

pub returns-clause-defined : goal.returns-clause-defined
returns-clause-defined c = λ items bytes h.
    some_defined (λ t k. subst (λ l. Contains l t) (sym (take_all c.loop-id.id-index c.args.ids.now (omega arith))) k)
    (c.loop-id.invariant.1 items bytes h)

pub returns-clause-limits : goal.returns-clause-limits
returns-clause-limits c = c.loop-id.invariant.0

pub returns-in_err-define-clause-limits : goal.returns-in_err-define-clause-limits
returns-in_err-define-clause-limits c = c.define.ensures.limits ∙ c.loop-id.invariant.0
