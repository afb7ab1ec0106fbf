use Rattle.gob_stream.proofs.Stream.StreamLaws.{begin_one_another, give_one_list}
use Rattle.gob_stream.proofs.laws.bytes_give_one_list.Goals as goal

pub returns : goal.returns
returns c = record { begin = begin_one_another; give = give_one_list }
