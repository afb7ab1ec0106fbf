use Rattle.std.proofs.Common.{refl}
use Rattle.std.proofs.lemmas.Result.{on_ok_weaker, IfErr-weaker}
use Rattle.gob_stream.proofs.DenialLaws.{denial_weaker}
use Rattle.gob_go_writer.proofs.ItemSteps.{definition_taken, no_definition, no_number, no_value, value_taken}
use Rattle.gob_go_writer.proofs.item.put_item.Goals as goal

pub returns-in-Define-clause-ok : goal.returns-in-Define-clause-ok
returns-in-Define-clause-ok c = on_ok_weaker c.put_definition.result (definition_taken c.in-Define.is)
    c.put_definition.ensures.ok

pub returns-in-Define-clause-refused : goal.returns-in-Define-clause-refused
returns-in-Define-clause-refused c = IfErr-weaker c.put_definition.result _ _ (λ d. denial_weaker d (λ r unfit.
    (unfit.0, no_definition c.in-Define.is unfit.1))) c.put_definition.ensures.refused

pub returns-then-not-has_number-clause-refused : goal.returns-then-not-has_number-clause-refused
returns-then-not-has_number-clause-refused c = (refl, no_number c.in-Put.is c.if-not-has_number.ensures)

pub returns-in_ok-put_int-in-Put-clause-ok : goal.returns-in_ok-put_int-in-Put-clause-ok
returns-in_ok-put_int-in-Put-clause-ok c = on_ok_weaker c.put_value.result
    (value_taken c.in-Put.is c.if-not-has_number.ensures c.in_ok-put_int-in-Put.ensures) c.put_value.ensures.ok

pub returns-in_ok-put_int-in-Put-clause-refused : goal.returns-in_ok-put_int-in-Put-clause-refused
returns-in_ok-put_int-in-Put-clause-refused c = IfErr-weaker c.put_value.result _ _ (λ d. denial_weaker d (λ r unfit.
    (unfit.0, no_value c.in-Put.is unfit.1))) c.put_value.ensures.refused
