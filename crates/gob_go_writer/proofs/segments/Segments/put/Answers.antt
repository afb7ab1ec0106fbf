use Rattle.std.proofs.Common.{refl}
use Rattle.gob_go_writer.proofs.LetterLaws.{puts}
use Rattle.gob_go_writer.proofs.segments.Segments.put.Goals as goal

pub returns : goal.returns
returns c = puts refl c.in_ok-extend_from_slice.ensures.items
