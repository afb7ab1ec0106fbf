use Rattle.gob_filled.proofs.CountsLeftOut.{spelled_so}
use Rattle.gob_filled.proofs.CountsPutBack.{counts_put_back}
use Rattle.gob_filled.proofs.laws.counts_can_be_left_out.Goals as goal

pub returns-clause-uncounted : goal.returns-clause-uncounted
returns-clause-uncounted c base L T U t limit v b p = spelled_so p

pub returns-clause-counted : goal.returns-clause-counted
returns-clause-counted c base L T U t limit d v b p o few low = counts_put_back p o few low
