use Rattle.std.proofs.Common.{refl}
use Rattle.gob_go_source.specs.Declarations.{says_declaration}
use Rattle.gob_go_source.proofs.DeclarationLaws.{aliased}
use Rattle.gob_go_source.proofs.declarations.read_declaration.Goals as goal

pub returns-clause-says : goal.returns-clause-says
returns-clause-says c =
    says_declaration refl c.in_ok-name.ensures
    (aliased c.takes-is_alias.result _ _ c.takes-is_alias.ensures.taken c.takes-is_alias.ensures.stays)
    c.in_ok-of.ensures.says c.in_ok-take_stop.ensures
