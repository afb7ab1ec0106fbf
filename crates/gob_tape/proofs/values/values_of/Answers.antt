use Rattle.std.proofs.Common.{arith, refl, ap, ◌≡◌, ◌∙◌, ◌+◌, ◌-◌, ◌∷◌, ◌++◌, [], length, subst}
use Rattle.std.proofs.lemmas.Option.{slice_get_read}
use Rattle.gob_value.specs.View.{view}
use Rattle.std.proofs.lemmas.Result.{IfOk-from_err}
use Rattle.gob_tape.specs.Machine.Values.{parts_on, TakesValue}
use Rattle.gob_tape.proofs.ValueLaws.{Stacked, stacked_start, stacked_on}
use Rattle.gob_tape.proofs.values.values_of.Goals as goal

pub nodes-init : goal.nodes-init
nodes-init c = stacked_start (omega arith) c.new-parts.ensures.items

pub nodes-preserved : goal.nodes-preserved
nodes-preserved c =
    let nodes = c.args.nodes.now in
    let pool = c.args.pool.now in
    let place = length nodes - 1 - c.nodes.done in
    let behind : length nodes - c.nodes.done ≡ place + 1 = omega arith in
    let here : place ≡ length nodes - (c.nodes.done + 1) = omega arith in
    subst (λ i. Stacked nodes pool i c.push.new.self.items) here
    (stacked_on place c.nodes.parts.items c.take_value.new.parts.items c.in_ok-value.value _
    (slice_get_read nodes _ place _ refl (omega arith) c.index-nodes-nodes.is) (omega arith)
    (subst (λ i. Stacked nodes pool i c.nodes.parts.items) behind c.nodes.invariant)
    (subst (λ x. TakesValue pool x (view c.in_ok-value.value) (parts_on c.nodes.parts.items)
    (parts_on c.take_value.new.parts.items)) c.content.ensures c.in_ok-value.ensures)
    (c.in_ok-push.ensures.items ∙ ap (λ f. c.take_value.new.parts.items ++ (f, c.in_ok-value.value) ∷ [])
    c.field.ensures))

pub returns-in_err-value : goal.returns-in_err-value
returns-in_err-value c = IfOk-from_err c.from_residual.result _ c.from_residual.ensures.0

pub returns-in_err-push : goal.returns-in_err-push
returns-in_err-push c = IfOk-from_err c.from_residual-in_err-push.result _ c.from_residual-in_err-push.ensures.0
