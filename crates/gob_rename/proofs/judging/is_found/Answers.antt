-- The loop looks for a type of which it tells.
use Rattle.std.proofs.Common.{refl}
use Rattle.gob_types.proofs.FirstLaws.{none_first}
use Rattle.gob_rename.proofs.EntryLaws.{defined_within, none_more_of, none_of, one_of}
use Rattle.gob_rename.proofs.judging.is_found.Goals as goal

pub loop-id-init : goal.loop-id-init
loop-id-init c = none_first

pub loop-id-preserved : goal.loop-id-preserved
loop-id-preserved c = none_more_of c.loop-id.invariant
    (defined_within _ c.count-known.ensures.known c.requires c.loop-id-test.true) c.tells_at.ensures c.if-tells_at.false

pub returns : goal.returns
returns c = none_of _ c.loop-id.invariant c.requires c.loop-id-test.false refl

pub returns-then-tells_at : goal.returns-then-tells_at
returns-then-tells_at c = one_of c.loop-id.id-index
    (defined_within _ c.count-known.ensures.known c.requires c.loop-id-test.true)
    c.tells_at.ensures c.if-tells_at.true refl
