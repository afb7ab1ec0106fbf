use Rattle.gob_stream.proofs.ReadBackLaws.{read_back_in_pieces}
use Rattle.gob_stream.proofs.laws.streams_are_read_back_in_pieces.Goals as goal

pub returns : goal.returns
returns g c = read_back_in_pieces _
