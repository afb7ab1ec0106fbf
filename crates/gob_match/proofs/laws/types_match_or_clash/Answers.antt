use Rattle.gob_match.proofs.ChoiceLaws.{ready_match_or_clash, has_least}
use Rattle.gob_match.proofs.ClashLaws.{types_match_or_clash}
use Rattle.gob_match.proofs.laws.types_match_or_clash.Goals as goal

pub returns-clause-either : goal.returns-clause-either
returns-clause-either c T U t u = ready_match_or_clash T U t u

pub returns-clause-not_both : goal.returns-clause-not_both
returns-clause-not_both c T U t u path reason = types_match_or_clash

pub returns-clause-least : goal.returns-clause-least
returns-clause-least c T U t u path reason = has_least T U
