use Rattle.gob_walk.proofs.PublicLaws.{if_ok}
use Rattle.gob_handed.proofs.GatheredLaws.{seen_or_known}
use Rattle.gob_handed.proofs.flat_visitor.FlatVisitorVisitor.ints.Goals as goal

pub returns-clause-stands : goal.returns-clause-stands
returns-clause-stands c =
    if_ok c.push_ints.result (λ end s T e is. seen_or_known (s T e is)) c.push_ints.ensures.stands
