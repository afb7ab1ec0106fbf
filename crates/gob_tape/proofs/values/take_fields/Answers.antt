use Rattle.std.proofs.Common.{arith, ap, ◌∙◌}
use Rattle.std.specs.Option.{unwrap_or}
use Rattle.std.proofs.lemmas.Result.{IfOk-from_err}
use Rattle.gob_tape.proofs.ValueLaws.{fields_start, fields_on, fields_end}
use Rattle.gob_tape.proofs.values.take_fields.Goals as goal

pub fields-init : goal.fields-init
fields-init c = fields_start c.new-values.ensures.items

pub fields-preserved : goal.fields-preserved
fields-preserved c = fields_on c.take_part-number.result c.fields.invariant (omega arith) c.take_part-number.ensures
    (λ f e. c.unwrap_or.ensures ∙ ap (λ n. unwrap_or n 0) e) c.in_ok-push.ensures.items

pub returns : goal.returns
returns c = fields_end (omega arith) c.fields.invariant

pub returns-in_err-push : goal.returns-in_err-push
returns-in_err-push c = IfOk-from_err c.from_residual.result _ c.from_residual.ensures.0
