use Rattle.gob_stream.proofs.Stream.OutcomeLaws.{refused_no_item}
use Rattle.gob_stream.proofs.laws.refused_bytes_are_no_item.Goals as goal

pub returns : goal.returns
returns c = refused_no_item
