use Rattle.gob_source_back.proofs.DifferLaws.{names_differ}
use Rattle.gob_source_back.proofs.laws.source_names_differ.Goals as goal

pub returns : goal.returns
returns c = names_differ
