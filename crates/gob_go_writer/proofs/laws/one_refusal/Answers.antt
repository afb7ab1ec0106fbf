use Rattle.gob_go_writer.proofs.WriterSteps.{one_reason}
use Rattle.gob_go_writer.proofs.laws.one_refusal.Goals as goal

pub returns : goal.returns
returns c L T stream kept r s p q = one_reason p q
