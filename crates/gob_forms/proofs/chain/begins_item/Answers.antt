-- The head that stands there says whether.
use Rattle.gob_forms.proofs.HeadLaws.{same_may}
use Rattle.gob_forms.proofs.chain.begins_item.Goals as goal

pub returns : goal.returns
returns c = (
  λ t. record { head = c.in-Some.head; is = c.in-Some.ensures.found; may = c.may_come.ensures.0 t },
  λ b. c.may_come.ensures.1 (same_may c.in-Some.ensures.found b.is b.may),
)
