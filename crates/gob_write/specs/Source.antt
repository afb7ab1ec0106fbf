-- Which types Go source gives under which plain JSON is read. (docs/FORMAT.md, Types from source.)
use Rattle.std.specs.Prelude.{◌≡◌, ◌<◌, ◌^◌, ℕ, List, Bool, Option, Some, None, map, slice_get}
use Rattle.gob_types.specs.Definable.{IsDefinable}
use Rattle.gob_value.specs.Described.{described}
use Rattle.gob_go_source.specs.Source.{SaysText}
use Rattle.gob_go_source.specs.declared.declarations.GoSource.{GoSource}
use Rattle.gob_go_source.specs.declared.go_type.Declaration.{Declaration}
use Rattle.gob_go_source.specs.declared.source.SourceFault.{SourceFault}
use Rattle.gob_go_source.specs.declared.source.SourceFault.TheVariants as source
use Rattle.gob_go_types.specs.Types.{AreTypesOf}
use Rattle.gob_go_types.specs.declared.numbers.Defined.{Defined}
use Rattle.gob_stream.specs.Item.{StreamItem, defines}
use Rattle.gob_words.specs.Words.{IsNumber}
use Rattle.gob_write.specs.Making.{definitions_of}
use Rattle.gob_write.specs.declared.source.SourceTypesFault.{SourceTypesFault}
use Rattle.gob_write.specs.declared.source.SourceTypesFault.TheVariants as fault
use Rattle.gob_write.specs.declared.types.Types.{Types}

-- the name of the type that a word asks for: the word itself, or that of a declaration with the id that it writes
pub data IsAsked (ds : List Declaration) (word : List ℕ) : List ℕ → Type 0 where
  by_name : IsAsked ds word word
  by_id : (k n : ℕ) (d : Declaration) → slice_get ds k ≡ Some d → d.note.id ≡ Some n → IsNumber (Some word) 0 n
      → IsAsked ds word d.name.now

-- without a word no name is asked for
abbrev pub Asks : List Declaration → (named name : Option (List ℕ)) → Type 0
Asks ds None name = name ≡ None
Asks ds (Some word) (Some name) = IsAsked ds word name
Asks ds (Some word) None = ⊥

-- the definition with the description that a writer makes of its shape
abbrev pub defines_one : Defined → StreamItem
defines_one d = defines d.id (described d.id d.shape)

abbrev pub defines_each : List Defined → List StreamItem
defines_each ds = map defines_one ds

-- it has such a description
pub record IsDescribable (d : Defined) : Type 0 where
  pub small : d.id.0 < 2 ^ 63
  pub definable : IsDefinable d.shape

-- the text declares types, and these are the definitions of the one that is asked for and of all that it leads to
pub record IsOfSource (text : List ℕ) (named : Option (List ℕ)) (lenient : Bool) (types : Types) : Type 0 where
  pub source : GoSource
  pub name : Option (List ℕ)
  pub given : List Defined
  pub says : SaysText text source.types.items source.declarations.items
  pub asked : Asks source.declarations.items named name
  pub are : AreTypesOf source name given types.id
  pub definitions : definitions_of types.definitions.items ≡ defines_each given
  pub leniency : types.lenient ≡ lenient

-- the fault of source that isn't read
abbrev pub source_fault : SourceFault → SourceTypesFault
source_fault source.Memory = fault.Memory
source_fault given = fault.Source given
