-- What a file of source is made of: the names under which types fill interfaces, and the types of the values.
-- (docs/FORMAT.md, Fillings and segments; Types as source: this project's own.)
use Rattle.std.specs.Prelude.{List, [], ◌∷◌, ◌++◌, if◌then◌else◌}
use Rattle.std.specs.List.{list_any}
use Rattle.gob_types.specs.declared.id.TypeId.{TypeId}
use Rattle.gob_types.specs.Machine.Entered.{same_id}
use Rattle.gob_source.specs.Registered.{Naming, each_once}
use Rattle.gob_filled.specs.Filled.{Filled, filled, Fillings, no_filling, filling}
use Rattle.gob_filled.specs.Stream.{FilledItem, defining, putting}

abbrev mutual
  -- the types that fill the interfaces of a value, each under its name, in the order of the stream
  pub inner_namings : Filled → List Naming
  inner_namings (filled v fs) = filling_namings fs

  pub filling_namings : Fillings → List Naming
  filling_namings no_filling = []
  filling_namings (filling place name ds u w fs) = (u, name) ∷ (inner_namings w ++ filling_namings fs)

abbrev pub item_namings : FilledItem → List Naming
item_namings (defining id v) = []
item_namings (putting id w) = inner_namings w

-- those of all items, each once, behind those that are known
abbrev pub namings_behind : (known : List Naming) → List FilledItem → List Naming
namings_behind known [] = known
namings_behind known (i ∷ items) = namings_behind (each_once known (item_namings i)) items

abbrev pub registered_names : List FilledItem → List Naming
registered_names items = namings_behind [] items

-- the types of the values, each once, in the order of the stream
abbrev pub with_type : List TypeId → TypeId → List TypeId
with_type ts t = if list_any (same_id t) ts then ts else ts ++ t ∷ []

abbrev pub with_item : List TypeId → FilledItem → List TypeId
with_item ts (defining id v) = ts
with_item ts (putting id w) = with_type ts id

abbrev pub types_behind : (known : List TypeId) → List FilledItem → List TypeId
types_behind known [] = known
types_behind known (i ∷ items) = types_behind (with_item known i) items

abbrev pub value_types : List FilledItem → List TypeId
value_types items = types_behind [] items
