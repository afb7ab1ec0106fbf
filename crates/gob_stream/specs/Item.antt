-- The items of a stream: definitions of types, and values. (docs/FORMAT.md, Items and streams.)
use Rattle.std.specs.Prelude.{List, [], ◌∷◌, map}
use Rattle.gob_types.specs.declared.id.TypeId.{TypeId}
use Rattle.gob_value.specs.Tree.{Tree}
use Rattle.gob_value.specs.View.{view}
use Rattle.gob_value.specs.declared.value.Value.{Value}
use Rattle.gob_stream.specs.declared.item.Item as declared
use Rattle.gob_stream.specs.declared.item.Item.TheVariants as variant

pub data StreamItem : Type 0 where
  -- a type, by its description
  defines : TypeId → Tree → StreamItem
  -- a value of a type
  puts : TypeId → Tree → StreamItem

-- an item of the program as an item of a stream
abbrev pub item_view : declared.Item Value → StreamItem
item_view (variant.Define id described) = defines id (view described)
item_view (variant.Put id value) = puts id (view value)

abbrev pub item_views : List (declared.Item Value) → List StreamItem
item_views items = map item_view items

-- what was made of an item stands for it, where `means` tells it of a value
pub data ItemMeans {O : Type 0} (means : O → Tree → Type 0) : declared.Item O → StreamItem → Type 0 where
  means_definition : {id : TypeId} {described : Value} → ItemMeans means (variant.Define id described)
      (defines id (view described))
  means_value : {id : TypeId} {out : O} {v : Tree} → means out v → ItemMeans means (variant.Put id out) (puts id v)

-- what was made of the items of a list stands for them, one by one
pub data ItemsMean {O : Type 0} (means : O → Tree → Type 0) : List (declared.Item O) → List StreamItem → Type 0 where
  mean_none : ItemsMean means [] []
  mean_more : {given : declared.Item O} {i : StreamItem} {all : List (declared.Item O)} {items : List StreamItem}
      → ItemMeans means given i → ItemsMean means all items
      → ItemsMean means (given ∷ all) (i ∷ items)
