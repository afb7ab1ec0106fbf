-- The tidy form of items of Go's encoder: each skeleton and each description in its tidy form, and each nil of a
-- skeleton filled with the tidy form of what filled the same nil. Names, ids and types stay.
-- (Go's encoding/gob documentation, Encoding Details, on omitted zero values; docs/FORMAT.md, Tidy form; Fillings and
-- segments.)
use Rattle.std.specs.Prelude.{ℕ, ◌≤◌, List, length}
use Rattle.gob_types.specs.Base.{base_table, wire_type}
use Rattle.gob_types.specs.declared.id.TypeId.{TypeId}
use Rattle.gob_types.specs.Table.{Table}
use Rattle.gob_value.specs.Tidy.{Tidies}
use Rattle.gob_value.specs.Top.{SpellsTop}
use Rattle.gob_value.specs.Tree.{Tree}
use Rattle.gob_tidy.specs.SameNil.{IsSameNil}
use Rattle.gob_stream.specs.Bounds.{Bounds}
use Rattle.gob_filled.specs.Filled.{Definitions, no_definitions, definition, Filled, filled, Fillings, no_filling}
use Rattle.gob_filled.specs.Filled.{filling}
use Rattle.gob_filled.specs.Stream.{FilledItem, defining, putting, IsFilledItem}
use Rattle.gob_go.specs.Meaning.{ItemMeans}
use Rattle.gob_go.specs.declared.item.GoItem.{GoItem}
use Rattle.gob_go_writer.specs.Item.{IsGrown}

-- the second definitions are the first ones, each with the tidy form of its description, a value of type 16
pub data TidiesDefinitions (T : Table) : Definitions → Definitions → Type 0 where
  tidies_none_defined : TidiesDefinitions T no_definitions no_definitions
  tidies_one_defined : {id : TypeId} {v w : Tree} {ds es : Definitions} → Tidies T wire_type v w
      → TidiesDefinitions T ds es → TidiesDefinitions T (definition id v ds) (definition id w es)

mutual
  -- the second value is the tidy form of the first, a value of the type
  pub data TidiesFilled (T : Table) : TypeId → Filled → Filled → Type 0 where
    tidies_filled : {t : TypeId} {v w : Tree} {fs gs : Fillings} {b c : List ℕ} → SpellsTop T t v b → SpellsTop T t w c
        → Tidies T t v w → TidiesFillings T t b c fs gs → TidiesFilled T t (filled v fs) (filled w gs)

  -- where these bytes spell the one skeleton and the others the other
  pub data TidiesFillings (T : Table) : TypeId → (b c : List ℕ) → Fillings → Fillings → Type 0 where
    tidies_none : {t : TypeId} {b c : List ℕ} → TidiesFillings T t b c no_filling no_filling
    tidies_filling : {t u : TypeId} {b c s : List ℕ} {p q : ℕ} {ds es : Definitions} {v w : Filled} {fs gs : Fillings}
        → IsSameNil T t b c p q → TidiesDefinitions T ds es → TidiesFilled T u v w → TidiesFillings T t b c fs gs
        → TidiesFillings T t b c (filling p s ds u v fs) (filling q s es u w gs)

-- the second item is the tidy form of the first
pub data TidiesItem (T : Table) : FilledItem → FilledItem → Type 0 where
  tidies_definition : {id : TypeId} {v w : Tree} → Tidies T wire_type v w → TidiesItem T (defining id v) (defining id w)
  tidies_value : {t : TypeId} {v w : Filled} → TidiesFilled T t v w → TidiesItem T (putting t v) (putting t w)

-- at any offset that isn't higher some bytes, no more than so many, are the item, and lead from the one table to the
-- other
pub record FitsAgain (L : Bounds) (before : Table) (offset size : ℕ) (item : FilledItem) (behind : Table) (lower : ℕ)
    : Type 0 where
  pub bytes : List ℕ
  pub is : IsFilledItem base_table L before lower item bytes behind
  pub shorter : length bytes ≤ size

-- what is kept of an item stands for its tidy form, which fits where the item did
pub record IsTidyForm (now : Table) (item : FilledItem) (kept : GoItem) : Type 0 where
  pub form : FilledItem
  pub tidies : TidiesItem now item form
  pub means : ItemMeans now kept form
  pub fits : (L : Bounds) (before behind : Table) (offset lower : ℕ) (bytes : List ℕ)
      → IsFilledItem base_table L before offset item bytes behind → IsGrown behind now → lower ≤ offset
      → FitsAgain L before offset (length bytes) form behind lower

-- whatever item is kept in the first, its tidy form is in the second
abbrev pub BecomesTidy : Table → GoItem → GoItem → Type 0
BecomesTidy now old new = (item : FilledItem) → ItemMeans now old item → IsTidyForm now item new
