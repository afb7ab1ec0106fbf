-- What an item of the program stands for. Its skeletons spell trees of their types, as the table behind it has them,
-- which says of each type what the table in front of it said.
use Rattle.std.specs.Prelude.{List, [], ◌∷◌}
use Rattle.gob_types.specs.declared.id.TypeId.{TypeId}
use Rattle.gob_types.specs.Table.{Table}
use Rattle.gob_value.specs.Tree.{Tree}
use Rattle.gob_value.specs.Top.{SpellsTop}
use Rattle.gob_value.specs.View.{view}
use Rattle.gob_value.specs.declared.value.Value.{Value}
use Rattle.gob_filled.specs.Filled.{Definitions, no_definitions, definition, Fillings, no_filling, filling}
use Rattle.gob_filled.specs.Filled as spelled
use Rattle.gob_filled.specs.Stream.{FilledItem, defining, putting}
use Rattle.gob_go.specs.declared.filled.Definition.{Definition}
use Rattle.gob_go.specs.declared.filled.Filled.{Filled, out-Filled}
use Rattle.gob_go.specs.declared.filled.Filling.{Filling, out-Filling}
use Rattle.gob_go.specs.declared.item.GoItem.{GoItem}
use Rattle.gob_go.specs.declared.item.GoItem.TheVariants as item

-- definitions as they are kept
abbrev pub definitions_of : List Definition → Definitions
definitions_of [] = no_definitions
definitions_of (d ∷ ds) = definition d.id (view d.described) (definitions_of ds)

mutual
  -- what is kept of a value of the type stands for this one
  pub data IsFilled (T : Table) : TypeId → Filled → spelled.Filled → Type 0 where
    is_filled : {t : TypeId} {kept : Filled} {v : Tree} {fs : Fillings}
        → SpellsTop T t v (out-Filled kept).skeleton.items → AreFillings T (out-Filled kept).fillings.items fs
        → IsFilled T t kept (spelled.filled v fs)

  -- and what is kept of what fills its nils
  pub data AreFillings (T : Table) : List Filling → Fillings → Type 0 where
    no_fillings : AreFillings T [] no_filling
    filling_then : {kept : Filling} {all : List Filling} {w : spelled.Filled} {fs : Fillings}
        → IsFilled T (out-Filling kept).id (out-Filling kept).value w → AreFillings T all fs
        → AreFillings T (kept ∷ all) (filling (out-Filling kept).place (out-Filling kept).name.items
        (definitions_of (out-Filling kept).definitions.items) (out-Filling kept).id w fs)

-- what was given of an item stands for it
pub data ItemMeans (T : Table) : GoItem → FilledItem → Type 0 where
  means_definition : {id : TypeId} {described : Value} → ItemMeans T (item.Define id described)
      (defining id (view described))
  means_value : {id : TypeId} {kept : Filled} {w : spelled.Filled} → IsFilled T id kept w
      → ItemMeans T (item.Put id kept) (putting id w)

-- what was given of the items of a list stands for them, one by one
pub data ItemsMean (T : Table) : List GoItem → List FilledItem → Type 0 where
  mean_none : ItemsMean T [] []
  mean_more : {given : GoItem} {i : FilledItem} {all : List GoItem} {items : List FilledItem} → ItemMeans T given i
      → ItemsMean T all items → ItemsMean T (given ∷ all) (i ∷ items)
