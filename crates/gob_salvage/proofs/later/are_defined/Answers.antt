use Rattle.std.proofs.lemmas.Option.{slice_get-get_or}
use Rattle.gob_types.proofs.FirstLaws.{all_first, more_first, none_first}
use Rattle.gob_types.proofs.WalkLaws.{told_some}
use Rattle.gob_salvage.proofs.later.are_defined.Goals as goal

pub loop-id-init : goal.loop-id-init
loop-id-init c = none_first

pub loop-id-preserved : goal.loop-id-preserved
loop-id-preserved c = more_first c.loop-id.invariant
    (slice_get-get_or c.args.ids.now c.loop-id.id-index 0 c.loop-id-test.true)
    (told_some c.shape_of.result _ c.shape_of.ensures c.if-is_none.ensures)

pub returns : goal.returns
returns c = λ yes id there. all_first c.loop-id.invariant c.loop-id-test.false there
