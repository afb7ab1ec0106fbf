use Rattle.gob_write.specs.Types.{basic_types, ids_of}
use Rattle.gob_write.proofs.TypesLaws.{finds_behind, finds_front}
use Rattle.gob_write.proofs.types.type_named.Goals as goal

pub returns-in-Some : goal.returns-in-Some
returns-in-Some c = finds_front (ids_of c.args.definitions.now) basic_types c.in-Some.ensures

pub returns-in-None : goal.returns-in-None
returns-in-None c = finds_behind (ids_of c.args.definitions.now) basic_types c.in-None.ensures c.first_named.ensures
