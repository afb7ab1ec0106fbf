use Rattle.std.proofs.Common.{subst, sym, None}
use Rattle.gob_json_writer.specs.Nils.{HeldShows, holds_none}
use Rattle.gob_json_writer.proofs.nils.EmptyNils.pass.Goals as goal

pub returns-clause-shown : goal.returns-clause-shown
returns-clause-shown c = λ T N n s. (subst (HeldShows _ T None) (sym (s n)) holds_none, s)
