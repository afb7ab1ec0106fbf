use Rattle.gob_value.proofs.KeptLaws.{kept_at}
use Rattle.gob_value.proofs.PublicLaws.{seen}
use Rattle.gob_tidy.proofs.DroppedLaws.{slice_dropped}
use Rattle.gob_tidy.proofs.WholeTidied.{if_some}
use Rattle.gob_tidy.proofs.dropped.dropped_end.Goals as goal

pub returns-in-Slice-clause-dropped : goal.returns-in-Slice-clause-dropped
returns-in-Slice-clause-dropped c =
    rw c.in-Slice.is (if_some c.zero_end.result (λ end s T. seen s (slice_dropped T c.in-Slice.elem))
    c.zero_end.ensures.stands)

pub returns-in-Slice-clause-kept : goal.returns-in-Slice-clause-kept
returns-in-Slice-clause-kept c = λ none.
    kept_at c.args.kind.now c.args.body.now c.args.at (c.zero_end.ensures.none none)

pub returns-in-Basic-clause-dropped : goal.returns-in-Basic-clause-dropped
returns-in-Basic-clause-dropped c = rw c.in-Basic.is c.basic_dropped_end.ensures.dropped
