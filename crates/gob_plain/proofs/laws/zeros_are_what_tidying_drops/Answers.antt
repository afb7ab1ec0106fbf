use Rattle.gob_plain.proofs.FilledTidy.{tidied, refilled}
use Rattle.gob_plain.proofs.laws.zeros_are_what_tidying_drops.Goals as goal

pub returns : goal.returns
returns c T t v w = (tidied v, refilled v)
