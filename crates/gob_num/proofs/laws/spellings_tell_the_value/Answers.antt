use Rattle.gob_num.proofs.UnsignedLaws.{unsigned_value}
use Rattle.gob_num.proofs.SignedLaws.{signed_value}
use Rattle.gob_num.proofs.PatternLaws.{pattern_value}
use Rattle.gob_num.proofs.laws.spellings_tell_the_value.Goals as goal

pub returns-clause-unsigned : goal.returns-clause-unsigned
returns-clause-unsigned c v w b p q = unsigned_value p q

pub returns-clause-signed : goal.returns-clause-signed
returns-clause-signed c v w b p q = signed_value p q

pub returns-clause-pattern : goal.returns-clause-pattern
returns-clause-pattern c v w b p q = pattern_value p q
