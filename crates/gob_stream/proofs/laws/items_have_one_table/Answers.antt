use Rattle.gob_stream.proofs.Reader.HasReadLaws.{one_table}
use Rattle.gob_stream.proofs.laws.items_have_one_table.Goals as goal

pub returns : goal.returns
returns c = one_table
