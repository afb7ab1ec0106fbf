use Rattle.std.proofs.Common.{◌≡◌, Bool, sym, subst}
use Rattle.gob_handed.specs.AnyReader.{IsExactly}
use Rattle.gob_handed.specs.declared.any_reader.AnyReader.{AnyReader}
use Rattle.gob_handed.proofs.any_reader.AnyReader.new.Goals as goal

exactly : {exact told : Bool} (reader : AnyReader) → exact ≡ told → IsExactly told reader → IsExactly exact reader
exactly reader same is = subst (λ b. IsExactly b reader) (sym same) is

pub returns-clause-exact : goal.returns-clause-exact
returns-clause-exact c = exactly _ c.if-exact.false tt
