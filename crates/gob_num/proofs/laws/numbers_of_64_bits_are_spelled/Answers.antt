use Rattle.gob_num.proofs.UnsignedLaws.{unsigned_spelled, unsigned_fits}
use Rattle.gob_num.proofs.SignedLaws.{signed_spelled, signed_fits}
use Rattle.gob_num.proofs.PatternLaws.{pattern_spelled, pattern_fits}
use Rattle.gob_num.proofs.laws.numbers_of_64_bits_are_spelled.Goals as goal

pub returns-clause-unsigned : goal.returns-clause-unsigned
returns-clause-unsigned c n = (unsigned_spelled n, λ s. unsigned_fits s.spelled)

pub returns-clause-signed : goal.returns-clause-signed
returns-clause-signed c i = (signed_spelled i, λ s. signed_fits s.spelled)

pub returns-clause-pattern : goal.returns-clause-pattern
returns-clause-pattern c p = (pattern_spelled p, λ s. pattern_fits s.spelled)
