-- The items that come of an item when each definition that stands in its value stands in an item of its own before it,
-- in the order of the stream.
-- (docs/FORMAT.md, Fillings and segments.)
use Rattle.std.specs.Prelude.{◌≡◌, List, [], ◌∷◌, ◌++◌}
use Rattle.gob_types.specs.Table.{Table}
use Rattle.gob_filled.specs.Filled.{Definitions, no_definitions, definition, Filled, filled, Fillings, no_filling}
use Rattle.gob_filled.specs.Filled.{filling}
use Rattle.gob_filled.specs.Stream.{FilledItem, defining, putting}
use Rattle.gob_go.specs.Meaning.{ItemMeans, ItemsMean}
use Rattle.gob_go.specs.declared.item.GoItem.{GoItem}

-- definitions as items
abbrev pub defining_items : Definitions → List FilledItem
defining_items no_definitions = []
defining_items (definition id v ds) = defining id v ∷ defining_items ds

abbrev mutual
  -- those of the definitions in a value
  pub inner_items : Filled → List FilledItem
  inner_items (filled v fs) = filling_items fs

  -- those of a filling, in front of those in the value that it holds, filling by filling
  pub filling_items : Fillings → List FilledItem
  filling_items no_filling = []
  filling_items (filling place s ds u w fs) = defining_items ds ++ (inner_items w ++ filling_items fs)

abbrev mutual
  -- the value without them
  pub without_definitions : Filled → Filled
  without_definitions (filled v fs) = filled v (fillings_without fs)

  pub fillings_without : Fillings → Fillings
  fillings_without no_filling = no_filling
  fillings_without (filling place s ds u w fs) =
      filling place s no_definitions u (without_definitions w) (fillings_without fs)

abbrev pub hoisted : FilledItem → List FilledItem
hoisted (defining id v) = defining id v ∷ []
hoisted (putting t w) = inner_items w ++ putting t (without_definitions w) ∷ []

-- behind the old items stand those that come of the one that is kept
pub record IsHoisted (kept : GoItem) (old new : List GoItem) : Type 0 where
  pub given : List GoItem
  pub appended : new ≡ old ++ given
  pub mean : (T : Table) (i : FilledItem) → ItemMeans T kept i → ItemsMean T given (hoisted i)
