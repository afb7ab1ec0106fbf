use Rattle.gob_filled.proofs.Contained.{item_stays, refusal_stays}
use Rattle.gob_filled.proofs.laws.profile_contains_the_format.Goals as goal

pub returns-clause-items : goal.returns-clause-items
returns-clause-items c base L T U offset i b o p = item_stays o p

pub returns-clause-refusals : goal.returns-clause-refusals
returns-clause-refusals c base L T offset z R k p n w = refusal_stays k p n w
