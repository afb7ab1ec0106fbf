use Rattle.std.proofs.Common.{◌∙◌, ◌∷◌, ◌++◌, [], Err, ap, refl, rules, sym}
use Rattle.std.proofs.lemmas.List.{append-nil}
use Rattle.gob_stream.specs.Feeding.{TakesBy, had_failed}
use Rattle.gob_stream.proofs.Reader.FeedingSteps.{fed_further, fed_item, fed_nothing, feeds_all, stops_at_item}
use Rattle.gob_stream.proofs.Reader.FeedingSteps.{stops_at_step}
use Rattle.gob_stream.proofs.feeding.feed.Given as given
use Rattle.gob_stream.proofs.feeding.feed.Goals.{In_ok-step}
use Rattle.gob_stream.proofs.feeding.feed.Goals as goal

takes : (g : given.Over) (c : In_ok-step g)
    → TakesBy g.S.Steps.stepping c.steps.session c.step.new.self c.steps.rest.now c.in_ok-step.step
takes g c = record {
  answers = c.in_ok-step.ensures.answers;
  between = c.in_ok-step.ensures.between;
  limits = c.in_ok-step.ensures.limits;
}

pub returns-then-has_failed-clause-fed : goal.returns-then-has_failed-clause-fed
returns-then-has_failed-clause-fed g c = record {
  given = [];
  appended = sym (append-nil c.args.out.now.items);
  holds = had_failed c.if-has_failed.ensures.failed;
}

pub steps-init : goal.steps-init
steps-init g c = (fed_nothing g.S.Steps.stepping _ _ _, c.if-has_failed.ensures.failed)

pub returns-in_err-step-clause-fed : goal.returns-in_err-step-clause-fed
returns-in_err-step-clause-fed g c =
    stops_at_step g.S.Steps.stepping c.from_residual.result c.in_err-step.field-0.0 c.from_residual.ensures.1
    c.steps.invariant.0 c.in_err-step.ensures.answers

pub returns-in-Err-clause-fed : goal.returns-in-Err-clause-fed
returns-in-Err-clause-fed g c =
    stops_at_item g.S.Steps.stepping (Err c.in-Err.fault) c.in-Err.fault refl c.in-Err.ensures.memory
    c.steps.invariant.0 (takes g (goal.at.returns-in-Err-clause-fed g c).In_ok-step) c.in-Some.is
    c.push_item.ensures.types c.push_item.ensures.taken c.in-Err.ensures.as_before

pub steps-preserved : goal.steps-preserved
steps-preserved g c = (
  fed_further g.S.Steps.stepping c.steps.invariant.0 (takes g (goal.at.steps-preserved g c).In_ok-step) c.in_default.is,
  c.steps.invariant.1,
)

pub steps-preserved-in_default-push_item : goal.steps-preserved-in_default-push_item
steps-preserved-in_default-push_item g c = (
  fed_item g.S.Steps.stepping c.steps.invariant.0
      (takes g (goal.at.steps-preserved-in_default-push_item g c).In_ok-step) c.in-Some.is
      c.in_default-push_item.ensures.kept (c.in_default-push_item.ensures.given
      ∙ ap (λ x. c.steps.out.items ++ x ∷ []) c.in-Some.item-is),
  c.steps.invariant.1,
)

pub returns-clause-fed : goal.returns-clause-fed
returns-clause-fed g c = feeds_all g.S.Steps.stepping c.steps.invariant.0 (search rules)
