-- Each step leads to one pair.
use Rattle.std.proofs.Common.{arith, length, refl, subst}
use Rattle.std.proofs.lemmas.Option.{slice_get_read}
use Rattle.gob_types.specs.Defined.{types}
use Rattle.gob_match.specs.Clashing.{LeadsBySteps}
use Rattle.gob_match.proofs.Loops.{drop_all, drop_at}
use Rattle.gob_convert.proofs.ClashingLaws.{leads_behind, leads_nowhere}
use Rattle.gob_convert.proofs.clashing.pair_at.Goals as goal

pub loop-step-preserved : goal.loop-step-preserved
loop-step-preserved c = λ last l.
    let path = c.args.path.now in
    let i = c.loop-step.step-index in
    leads_behind (subst (λ steps. LeadsBySteps (types c.args.stream.now) (types c.args.wanted.now) steps
    c.loop-step.pair last) (drop_at path i c.step-item.result
    (slice_get_read path (length path) i c.step-item.result refl c.loop-step-test.true c.step-item.is))
    (c.loop-step.invariant last l)) c.pair_behind-pair.ensures

pub returns : goal.returns
returns c = λ last l.
    let path = c.args.path.now in
    leads_nowhere (subst (λ steps. LeadsBySteps (types c.args.stream.now) (types c.args.wanted.now) steps
    c.loop-step.pair last) (drop_all c.loop-step.step-index path (omega (arith, c.loop-step-test.false)))
    (c.loop-step.invariant last l))
