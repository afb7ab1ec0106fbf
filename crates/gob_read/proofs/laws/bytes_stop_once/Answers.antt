use Rattle.gob_read.proofs.Grammar.Compare.{expects_once}
use Rattle.gob_read.proofs.Grammar.Honest.{expects_once_in}
use Rattle.gob_read.proofs.laws.bytes_stop_once.Goals as goal

pub returns-clause-value : goal.returns-clause-value
returns-clause-value c T t p w u d e a b = expects_once_in a b

pub returns-clause-top : goal.returns-clause-top
returns-clause-top c T t p w u d e a b = expects_once a b
