use Rattle.gob_read.proofs.Grammar.Onward.{nothing_yet}
use Rattle.gob_read.proofs.Grammar.Seen.{stood_not_whole}
use Rattle.gob_read.proofs.laws.refusals_are_prompt.Goals as goal

pub returns-clause-prompt : goal.returns-clause-prompt
returns-clause-prompt c T t limit announced z x S i k = nothing_yet x i k

pub returns-clause-not_whole : goal.returns-clause-not_whole
returns-clause-not_whole c T t limit announced z b r v i s e = stood_not_whole r i s e
