use Rattle.gob_stream.proofs.Stream.OutcomeLaws.{outcome_once}
use Rattle.gob_stream.proofs.Stream.SomeOutcome.{outcome_somehow}
use Rattle.gob_stream.proofs.laws.bytes_have_one_outcome.Goals as goal

pub returns-clause-one : goal.returns-clause-one
returns-clause-one c = outcome_once

pub returns-clause-some : goal.returns-clause-some
returns-clause-some c = outcome_somehow
