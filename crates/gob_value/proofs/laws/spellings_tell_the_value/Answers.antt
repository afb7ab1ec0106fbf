use Rattle.std.proofs.Common.{[], refl}
use Rattle.gob_value.proofs.PrefixLaws.{same_spelling, same_top}
use Rattle.gob_value.proofs.laws.spellings_tell_the_value.Goals as goal

pub returns-clause-value : goal.returns-clause-value
returns-clause-value c T t v w b p q = (same_spelling [] [] p q refl).value

pub returns-clause-top : goal.returns-clause-top
returns-clause-top c T t v w b p q = (same_top [] [] p q refl).value
