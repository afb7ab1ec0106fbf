use Rattle.gob_num.proofs.PlaceLaws.{passes_none, passes_both}
use Rattle.gob_num.proofs.place.Counted.pass_next.Goals as goal

pub returns-then-self-lt-LEAST_HEAD : goal.returns-then-self-lt-LEAST_HEAD
returns-then-self-lt-LEAST_HEAD c = passes_none

pub returns : goal.returns
returns c = passes_both c.pass_alike-at.ensures.passed c.pass_mixed.ensures
