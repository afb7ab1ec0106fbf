use Rattle.gob_read.proofs.Grammar.Seen.{given_once}
use Rattle.gob_read.proofs.laws.one_refusal_is_given.Goals as goal

pub returns : goal.returns
returns c = λ T t limit announced z R S h k. given_once h k
