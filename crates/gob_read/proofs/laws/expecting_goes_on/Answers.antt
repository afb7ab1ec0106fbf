use Rattle.gob_read.proofs.Grammar.Complete.{expects_proper}
use Rattle.gob_read.proofs.laws.expecting_goes_on.Goals as goal

pub returns : goal.returns
returns c = λ T t p w d l r a. expects_proper l r a
