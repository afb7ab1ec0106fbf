use Rattle.std.proofs.Common.{[]}
use Rattle.gob_appended.proofs.OnceItems.{unchanged}
use Rattle.gob_appended.proofs.laws.nothing_else_is_lost.Goals as goal

pub returns : goal.returns
returns c = λ xs. unchanged [] 0 xs
