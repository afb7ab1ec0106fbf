use Rattle.std.proofs.Common.{refl}
use Rattle.gob_go_writer.proofs.LetterLaws.{puts_name}
use Rattle.gob_go_writer.proofs.segments.Segments.put_name.Goals as goal

pub returns : goal.returns
returns c = puts_name refl c.in_ok-write_uint.ensures.ok c.in_ok-extend_from_slice.ensures.items
