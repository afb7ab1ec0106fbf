-- When what is kept stands for the same: items, values, what fills their nils, definitions, descriptions.
use Rattle.std.specs.Prelude.{◌≡◌, List, [], ◌∷◌}
use Rattle.gob_types.specs.declared.id.TypeId.{TypeId}
use Rattle.gob_types.specs.Base.{wire_type}
use Rattle.gob_types.specs.Table.{Table}
use Rattle.gob_value.specs.Tree.{Tree}
use Rattle.gob_value.specs.Within.{FitsWithin}
use Rattle.gob_stream.specs.Bounds.{greatest_depth}
use Rattle.gob_filled.specs.Filled.{Definitions, no_definitions, definition, Fillings, no_filling, filling, filled}
use Rattle.gob_filled.specs.Filled as spelled
use Rattle.gob_filled.specs.Stream.{FilledItem, defining, putting}
use Rattle.gob_go.specs.Meaning.{ItemMeans, IsFilled, AreFillings, definitions_of}
use Rattle.gob_go.specs.declared.filled.Definition.{Definition}
use Rattle.gob_go.specs.declared.filled.Filled.{Filled}
use Rattle.gob_go.specs.declared.filled.Filling.{Filling}
use Rattle.gob_go.specs.declared.item.GoItem.{GoItem}

-- ---- descriptions that can be spelled

abbrev pub IsDescribed : Table → Tree → Type 0
IsDescribed T v = FitsWithin T wire_type greatest_depth v

-- of definitions
abbrev pub AreDescribed : Table → Definitions → Type 0
AreDescribed T no_definitions = Unit {0}
AreDescribed T (definition id v ds) = IsDescribed T v × AreDescribed T ds

abbrev mutual
  -- of those in a value
  pub ValueDescribed : Table → spelled.Filled → Type 0
  ValueDescribed T (filled v fs) = FillingsDescribed T fs

  pub FillingsDescribed : Table → Fillings → Type 0
  FillingsDescribed T no_filling = Unit {0}
  FillingsDescribed T (filling place name ds u w fs) =
      AreDescribed T ds × (ValueDescribed T w × FillingsDescribed T fs)

abbrev pub ItemDescribed : Table → FilledItem → Type 0
ItemDescribed T (defining id v) = IsDescribed T v
ItemDescribed T (putting t w) = ValueDescribed T w

-- ---- what stands for the same

pub record AreAlikeDescribed (T : Table) (v w : Tree) : Type 0 where
  pub described : IsDescribed T v
  pub same : v ≡ w

pub record AreDefinedAlike (T : Table) (given due : List Definition) : Type 0 where
  pub described : AreDescribed T (definitions_of given)
  pub same : definitions_of given ≡ definitions_of due

pub record AreFilledAlike (T : Table) (given due : Filled) : Type 0 where
  pub now : Table
  pub type : TypeId
  pub value : spelled.Filled
  pub given_is : IsFilled now type given value
  pub due_is : IsFilled now type due value
  pub described : ValueDescribed T value

pub record AllFillAlike (T : Table) (given due : List Filling) : Type 0 where
  pub now : Table
  pub fillings : Fillings
  pub given_are : AreFillings now given fillings
  pub due_are : AreFillings now due fillings
  pub described : FillingsDescribed T fillings

abbrev pub FillAlike : Table → (given due : Filling) → Type 0
FillAlike T given due = AllFillAlike T (given ∷ []) (due ∷ [])

pub record AreAlike (T : Table) (given due : GoItem) : Type 0 where
  pub now : Table
  pub item : FilledItem
  pub given_means : ItemMeans now given item
  pub due_means : ItemMeans now due item
  pub described : ItemDescribed T item

-- whatever the first one stands for, so does the second one
abbrev pub MeansAs : (given due : GoItem) → Type 0
MeansAs given due = (T : Table) (i : FilledItem) → ItemMeans T given i → ItemMeans T due i

abbrev pub FilledAs : (given due : Filled) → Type 0
FilledAs given due = (T : Table) (t : TypeId) (w : spelled.Filled) → IsFilled T t given w → IsFilled T t due w

abbrev pub AllFillAs : (given due : List Filling) → Type 0
AllFillAs given due = (T : Table) (fs : Fillings) → AreFillings T given fs → AreFillings T due fs

abbrev pub FillsAs : (given due : Filling) → Type 0
FillsAs given due = (all others : List Filling) → AllFillAs all others → AllFillAs (given ∷ all) (due ∷ others)
