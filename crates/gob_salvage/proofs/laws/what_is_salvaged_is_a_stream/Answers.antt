use Rattle.gob_salvage.proofs.StreamsLaws.{salvaged_front, salvaged_stream, salvaged_whole}
use Rattle.gob_salvage.proofs.laws.what_is_salvaged_is_a_stream.Goals as goal

pub returns-clause-stream : goal.returns-clause-stream
returns-clause-stream c L bytes out count gaps s = salvaged_stream s

pub returns-clause-whole : goal.returns-clause-whole
returns-clause-whole c L bytes out items count gaps T a s = salvaged_whole a s

pub returns-clause-front : goal.returns-clause-front
returns-clause-front c L front z out items count gaps T a s = salvaged_front z a s
