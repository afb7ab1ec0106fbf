use Rattle.std.proofs.Common.{rules, refl}
use Rattle.gob_handed.proofs.reader.Reader.shape.Goals as goal

pub returns-clause-known : goal.returns-clause-known
returns-clause-known g c = λ some. (refl, search rules, search rules)
