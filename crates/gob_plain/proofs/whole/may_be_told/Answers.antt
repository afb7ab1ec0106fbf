-- The style has no map as an array, or the type has none.
use Rattle.gob_plain.proofs.ListedLaws.{as_ever, no_map, no_true}
use Rattle.gob_plain.proofs.whole.may_be_told.Goals as goal

pub returns-then-not-style-clause-listed : goal.returns-then-not-style-clause-listed
returns-then-not-style-clause-listed g c = λ e. as_ever c.args.style c.if-not-style.true

pub returns-else-not-style-clause-listed : goal.returns-else-not-style-clause-listed
returns-else-not-style-clause-listed g c = λ e.
    no_map c.args.style (rw c.shape_of.ensures at (c.is_map.ensures (no_true c.is_map.result e)))
