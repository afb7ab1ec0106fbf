use Rattle.gob_views.proofs.ReachLaws.{added}
use Rattle.gob_views.proofs.each.meet.Goals as goal

pub returns : goal.returns
returns c = added c.in_ok-insert_full.ensures.keys
