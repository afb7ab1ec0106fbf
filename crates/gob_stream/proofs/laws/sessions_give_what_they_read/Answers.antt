use Rattle.gob_stream.proofs.Reader.HasReadLaws.{gives_what_stands}
use Rattle.gob_stream.proofs.laws.sessions_give_what_they_read.Goals as goal

pub returns : goal.returns
returns g c = gives_what_stands _
