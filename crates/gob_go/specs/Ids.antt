-- The types that items define, in the order of the stream. (docs/FORMAT.md, Fillings and segments.)
use Rattle.std.specs.Prelude.{List, [], ◌∷◌, ◌++◌}
use Rattle.gob_types.specs.declared.id.TypeId.{TypeId}
use Rattle.gob_filled.specs.Filled.{Definitions, no_definitions, definition, Filled, filled, Fillings, no_filling}
use Rattle.gob_filled.specs.Filled.{filling}
use Rattle.gob_filled.specs.Stream.{FilledItem, defining, putting}

abbrev pub definition_ids : Definitions → List TypeId
definition_ids no_definitions = []
definition_ids (definition id v ds) = id ∷ definition_ids ds

abbrev mutual
  -- those of the definitions that a value holds
  pub inner_ids : Filled → List TypeId
  inner_ids (filled v fs) = filling_ids fs

  -- those of a filling, in front of those of the value that it holds, filling by filling
  pub filling_ids : Fillings → List TypeId
  filling_ids no_filling = []
  filling_ids (filling place name ds u w fs) = definition_ids ds ++ (inner_ids w ++ filling_ids fs)

abbrev pub item_ids : FilledItem → List TypeId
item_ids (defining id v) = id ∷ []
item_ids (putting id w) = inner_ids w

abbrev pub defined_ids : List FilledItem → List TypeId
defined_ids [] = []
defined_ids (i ∷ items) = item_ids i ++ defined_ids items
