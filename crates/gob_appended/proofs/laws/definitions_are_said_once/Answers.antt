use Rattle.std.proofs.Common.{arith, length}
use Rattle.gob_appended.proofs.OnceItems.{by_length, only}
use Rattle.gob_appended.proofs.laws.definitions_are_said_once.Goals as goal

pub returns : goal.returns
returns c = record { some = λ met i xs. by_length (length xs) met i xs (omega arith); one = only }
