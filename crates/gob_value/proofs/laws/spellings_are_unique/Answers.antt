use Rattle.gob_value.proofs.UniqueLaws.{one_spelling, one_top}
use Rattle.gob_value.proofs.laws.spellings_are_unique.Goals as goal

pub returns-clause-value : goal.returns-clause-value
returns-clause-value c T t v b d p q = one_spelling p q

pub returns-clause-top : goal.returns-clause-top
returns-clause-top c T t v b d p q = one_top p q
