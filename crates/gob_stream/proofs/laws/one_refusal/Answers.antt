use Rattle.gob_stream.proofs.Stream.RefusalLaws.{one_reason, not_counted}
use Rattle.gob_stream.proofs.laws.one_refusal.Goals as goal

pub returns-clause-reason : goal.returns-clause-reason
returns-clause-reason c = λ base L T offset i r s. one_reason

pub returns-clause-not_counted : goal.returns-clause-not_counted
returns-clause-not_counted c = λ base L T U offset i r b. not_counted
