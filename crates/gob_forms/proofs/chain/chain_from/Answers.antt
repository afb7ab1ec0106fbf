-- The items that may stand, one more each time.
use Rattle.std.proofs.Common.{refl, inr, arith}
use Rattle.gob_forms.specs.Heads.{no_item, one_more}
use Rattle.gob_forms.proofs.HeadLaws.{chain_is}
use Rattle.gob_forms.proofs.chain.chain_from.Goals as goal

pub loop-items-init : goal.loop-items-init
loop-items-init c = no_item

pub returns-in-None : goal.returns-in-None
returns-in-None c = chain_is c.ending.result c.ending.ensures.items c.ending.ensures.end c.loop-items.invariant
    (omega arith) (inr (c.in-None.ensures.none refl))

pub loop-items-preserved : goal.loop-items-preserved
loop-items-preserved c = one_more c.loop-items.invariant c.in-Some.ensures.stands refl
