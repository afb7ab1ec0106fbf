-- The basic type is the one of the name.
use Rattle.std.proofs.Common.{◌∙◌, refl, sym}
use Rattle.gob_go_types.specs.Sight.{a_basic_name}
use Rattle.gob_go_types.proofs.sight.end_of_name.Goals as goal

pub returns-in-Some : goal.returns-in-Some
returns-in-Some c = a_basic_name {t = c.in-Some.id} (sym c.basic_named.ensures ∙ c.in-Some.is) refl
