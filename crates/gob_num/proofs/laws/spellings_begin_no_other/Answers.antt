use Rattle.gob_num.proofs.UnsignedLaws.{unsigned_prefix}
use Rattle.gob_num.proofs.SignedLaws.{signed_prefix}
use Rattle.gob_num.proofs.PatternLaws.{pattern_prefix}
use Rattle.gob_num.proofs.laws.spellings_begin_no_other.Goals as goal

pub returns-clause-unsigned : goal.returns-clause-unsigned
returns-clause-unsigned c v w b d x y p q e = unsigned_prefix x y p q e

pub returns-clause-signed : goal.returns-clause-signed
returns-clause-signed c v w b d x y p q e = signed_prefix x y p q e

pub returns-clause-pattern : goal.returns-clause-pattern
returns-clause-pattern c v w b d x y p q e = pattern_prefix x y p q e
