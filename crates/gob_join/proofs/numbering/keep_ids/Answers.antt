use Rattle.std.proofs.lemmas.Option.{slice_get-get_or}
use Rattle.gob_types.proofs.PublicLaws.{contains_read}
use Rattle.gob_join.proofs.NumberLaws.{none_numbered, numbered_among, numbered_on}
use Rattle.gob_join.proofs.numbering.keep_ids.Goals as goal

pub loop-id-init : goal.loop-id-init
loop-id-init c = none_numbered

pub loop-id-preserved : goal.loop-id-preserved
loop-id-preserved c = numbered_on c.loop-id.invariant
    (numbered_among _ (contains_read c.args.ids.now c.loop-id.id-index _
    (slice_get-get_or c.args.ids.now c.loop-id.id-index _ c.loop-id-test.true)) c.in_ok-keep_id.ensures)
