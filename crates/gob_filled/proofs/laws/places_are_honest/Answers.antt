use Rattle.gob_filled.proofs.Honest.{value_honest, definition_honest}
use Rattle.gob_filled.proofs.WholeHonest.{whole_honest}
use Rattle.gob_filled.proofs.laws.places_are_honest.Goals as goal

pub returns-clause-values : goal.returns-clause-values
returns-clause-values c L items f y w T U lv levels left at R S s e p h k = value_honest s p h k

pub returns-clause-definitions : goal.returns-clause-definitions
returns-clause-definitions c L items f y q a z T U levels next left at m n R s p h e sg l =
    definition_honest s p h e sg l

pub returns-clause-whole : goal.returns-clause-whole
returns-clause-whole c L items f y w T U lv levels left at R S s e p h k = whole_honest s p h k
