use Rattle.gob_value.proofs.DefinableLaws.{definable}
use Rattle.gob_value.proofs.laws.described_shapes_are_definable.Goals as goal

pub returns : goal.returns
returns c = definable
