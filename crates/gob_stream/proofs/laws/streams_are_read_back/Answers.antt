use Rattle.gob_stream.proofs.ReadBackLaws.{read_back, shows_no_refusal}
use Rattle.gob_stream.proofs.laws.streams_are_read_back.Goals as goal

pub returns-clause-whole : goal.returns-clause-whole
returns-clause-whole c = read_back

pub returns-clause-prefixes : goal.returns-clause-prefixes
returns-clause-prefixes c = shows_no_refusal
