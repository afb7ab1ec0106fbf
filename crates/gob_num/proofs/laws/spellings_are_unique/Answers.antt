use Rattle.gob_num.proofs.UnsignedLaws.{unsigned_unique}
use Rattle.gob_num.proofs.SignedLaws.{signed_unique}
use Rattle.gob_num.proofs.PatternLaws.{pattern_unique}
use Rattle.gob_num.proofs.laws.spellings_are_unique.Goals as goal

pub returns-clause-unsigned : goal.returns-clause-unsigned
returns-clause-unsigned c v b d p q = unsigned_unique p q

pub returns-clause-signed : goal.returns-clause-signed
returns-clause-signed c v b d p q = signed_unique p q

pub returns-clause-pattern : goal.returns-clause-pattern
returns-clause-pattern c v b d p q = pattern_unique p q
