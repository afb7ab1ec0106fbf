-- What is hoisted of the parts of an item. For private clauses.
use Rattle.std.specs.Prelude.{◌≡◌, List, [], ◌∷◌, ◌++◌}
use Rattle.gob_types.specs.Table.{Table}
use Rattle.gob_types.specs.declared.id.TypeId.{TypeId}
use Rattle.gob_filled.specs.Filled.{Fillings}
use Rattle.gob_filled.specs.Filled as spelled
use Rattle.gob_go.specs.Meaning.{AreFillings, IsFilled, ItemsMean, definitions_of}
use Rattle.gob_go.specs.declared.filled.Definition.{Definition}
use Rattle.gob_go.specs.declared.filled.Filled.{Filled}
use Rattle.gob_go.specs.declared.filled.Filling.{Filling}
use Rattle.gob_go.specs.declared.item.GoItem.{GoItem}
use Rattle.gob_go_writer.specs.Hoisting.{defining_items, inner_items, filling_items, without_definitions}
use Rattle.gob_go_writer.specs.Hoisting.{fillings_without}

-- behind the old items stand those of the definitions
pub record Defines (kept : List Definition) (old new : List GoItem) : Type 0 where
  pub given : List GoItem
  pub appended : new ≡ old ++ given
  pub mean : (T : Table) → ItemsMean T given (defining_items (definitions_of kept))

-- behind the old items stand those of the definitions in a value, and the other value is made of it
pub record Hoists (kept made : Filled) (old new : List GoItem) : Type 0 where
  pub given : List GoItem
  pub appended : new ≡ old ++ given
  pub made_is : (T : Table) (t : TypeId) (w : spelled.Filled) → IsFilled T t kept w
      → IsFilled T t made (without_definitions w)
  pub mean : (T : Table) (t : TypeId) (w : spelled.Filled) → IsFilled T t kept w → ItemsMean T given (inner_items w)

-- so of what fills nils
pub record FillWithout (kept made : List Filling) (given : List GoItem) : Type 0 where
  pub made_are : (T : Table) (fs : Fillings) → AreFillings T kept fs → AreFillings T made (fillings_without fs)
  pub mean : (T : Table) (fs : Fillings) → AreFillings T kept fs → ItemsMean T given (filling_items fs)

pub record HoistsFilling (kept made : Filling) (old new : List GoItem) : Type 0 where
  pub given : List GoItem
  pub appended : new ≡ old ++ given
  pub without : FillWithout (kept ∷ []) (made ∷ []) given
