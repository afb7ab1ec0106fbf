use Rattle.gob_plain.proofs.HeldPlainLaws.{unfilled_says, says_unfilled}
use Rattle.gob_plain.proofs.laws.values_that_hold_nothing_are_plain.Goals as goal

pub returns : goal.returns
returns c = λ tagged style T t v b j spells.
    (unfilled_says tagged style T t v j, says_unfilled tagged style T t v b j spells)
