use Rattle.gob_read.proofs.Grammar.ArrayLengths.{table_counted}
use Rattle.gob_read.proofs.laws.tables_count_arrays.Goals as goal

pub returns : goal.returns
returns c = λ T h. table_counted h
