use Rattle.gob_value.proofs.PrefixLaws.{same_spelling, same_top}
use Rattle.gob_value.proofs.laws.spellings_begin_no_other.Goals as goal

pub returns-clause-value : goal.returns-clause-value
returns-clause-value c T t v w b d x y p q e = same_spelling x y p q e

pub returns-clause-top : goal.returns-clause-top
returns-clause-top c T t v w b d x y p q e = same_top x y p q e
