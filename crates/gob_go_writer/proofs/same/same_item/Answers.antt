use Rattle.std.proofs.lemmas.Result.{on_ok_weaker}
use Rattle.gob_stream.proofs.PublicLaws.{same_id}
use Rattle.gob_go_writer.proofs.SameSteps.{defines_as, puts_as}
use Rattle.gob_go_writer.proofs.same.same_item.Goals as goal

pub returns-else-id-due_id-clause-ok : goal.returns-else-id-due_id-clause-ok
returns-else-id-due_id-clause-ok c = on_ok_weaker c.same_description.result
    (λ e. defines_as c.in-Define.is c.in-Define-item.is (same_id c.if-id-due_id.false) e) c.same_description.ensures.ok

pub returns-else-id-due_id-2-clause-ok : goal.returns-else-id-due_id-2-clause-ok
returns-else-id-due_id-2-clause-ok c = on_ok_weaker c.same_value.result
    (λ f. puts_as c.in-Put.is c.in-Put-item.is (same_id c.if-id-due_id-2.false) f) c.same_value.ensures.ok
