-- Which types a stream gives under which plain JSON is read. (docs/FORMAT.md, Plain JSON as input.)
use Rattle.std.specs.Prelude.{◌≡◌, ◌⊎◌, ◌∷◌, ℕ, List, [], Bool, Option, Some, None, Result, Ok, Err}
use Rattle.gob_types.specs.Base.{base_table}
use Rattle.gob_types.specs.Base as base
use Rattle.gob_types.specs.Table.{Table, shape_of}
use Rattle.gob_types.specs.declared.id.TypeId.{TypeId}
use Rattle.gob_types.specs.declared.kind.Shape.{Shape}
use Rattle.gob_stream.specs.Bounds.{Bounds}
use Rattle.gob_stream.specs.Devices.{counts_up}
use Rattle.gob_stream.specs.Item.{StreamItem, defines, puts}
use Rattle.gob_stream.specs.Outcome.{LongestStream, Outcome, refused}
use Rattle.gob_stream.specs.Reading.{SomeTaken}
use Rattle.gob_stream.specs.Stream.{Stream}
use Rattle.gob_stream.specs.declared.fault.Fault.{Fault}
use Rattle.gob_stream.specs.declared.fault.Fault.TheVariants as reading
use Rattle.gob_words.specs.Words.{IsNumber}
use Rattle.gob_write.specs.Making.{definitions_of}
use Rattle.gob_write.specs.declared.types.Definition.{Definition}
use Rattle.gob_write.specs.declared.types.Types.{Types}
use Rattle.gob_write.specs.declared.types.TypesFault.{TypesFault}
use Rattle.gob_write.specs.declared.types.TypesFault.TheVariants as fault

-- the definitions among the items, in order
abbrev pub defined_in : List StreamItem → List StreamItem
defined_in [] = []
defined_in (defines id v ∷ items) = defines id v ∷ defined_in items
defined_in (puts id v ∷ items) = defined_in items

-- the type of the first value among them
abbrev pub first_type : List StreamItem → Option TypeId
first_type [] = None
first_type (defines id v ∷ items) = first_type items
first_type (puts id v ∷ items) = Some id

-- the types that need no definition: bool, int, uint, float, []byte, string, complex and interface
abbrev pub basic_types : List TypeId
basic_types = base.id 1 ∷ base.id 2 ∷ base.id 3 ∷ base.id 4 ∷ base.id 5 ∷ base.id 6 ∷ base.id 7 ∷ base.id 8 ∷ []

-- the types that a word may name: those that the items define, in order, and behind them the basic ones
abbrev pub nameable : List StreamItem → List TypeId
nameable [] = basic_types
nameable (defines id v ∷ items) = id ∷ nameable items
nameable (puts id v ∷ items) = nameable items

-- the type has this name
pub record HasName (T : Table) (word : List ℕ) (id : TypeId) : Type 0 where
  pub shape : Shape
  pub known : shape_of T id ≡ Some shape
  pub name : shape.name ≡ word

-- the word is the name of the type, or writes its id
abbrev pub Names : Table → (word : List ℕ) → TypeId → Type 0
Names T word id = HasName T word id ⊎ IsNumber (Some word) 0 id.0

-- the first of the types that the word names, if it names one
pub data FindsNamed (T : Table) (word : List ℕ) : List TypeId → Option TypeId → Type 0 where
  finds_none : FindsNamed T word [] None
  finds_here : {id : TypeId} {ids : List TypeId} → Names T word id → FindsNamed T word (id ∷ ids) (Some id)
  finds_further : {id : TypeId} {ids : List TypeId} {found : Option TypeId} → ¬ Names T word id
      → FindsNamed T word ids found → FindsNamed T word (id ∷ ids) found

-- the type of the values, if there is one: that which the word names, or without a word that of the first value
abbrev pub IsWanted : Option (List ℕ) → Table → List StreamItem → Option TypeId → Type 0
IsWanted None T items found = found ≡ first_type items
IsWanted (Some word) T items found = FindsNamed T word (nameable items) found

-- the bytes are a stream, all of them were read, and this holds of its items and of the types behind it
pub record IsRead (L : Bounds) (bytes : List ℕ) (now : Option (List ℕ)) (P : List StreamItem → Table → Type 0) : Type
    0 where
  pub items : List StreamItem
  pub table : Table
  pub stream : Stream base_table L items bytes table
  pub end : now ≡ Some []
  pub holds : P items table

-- these are all definitions of the stream, and the wanted type
pub record AreTypes (named : Option (List ℕ)) (lenient : Bool) (types : Types) (items : List StreamItem) (T : Table)
    : Type 0 where
  pub definitions : definitions_of types.definitions.items ≡ defined_in items
  pub wanted : IsWanted named T items (Some types.id)
  pub as_asked : types.lenient ≡ lenient

-- what reading the types answers, of an input with these bytes left
abbrev pub ReadsTypes : Bounds → (bytes : List ℕ) → (now : Option (List ℕ)) → (named : Option (List ℕ)) → Bool
    → Result Types TypesFault → Type 0
ReadsTypes L bytes now named lenient (Ok types) = IsRead L bytes now (AreTypes named lenient types)
ReadsTypes L bytes now named lenient (Err fault.NoType) = IsRead L bytes now (λ items T. IsWanted named T items None)
ReadsTypes L bytes now named lenient (Err (fault.Refused R)) =
    (items : List StreamItem) × Outcome base_table L bytes items (refused R)
ReadsTypes L bytes now named lenient (Err fault.Read) =
    SomeTaken bytes now (λ taken. (items : List StreamItem) × LongestStream base_table L taken items)
ReadsTypes L bytes now named lenient (Err fault.Memory) = Unit {0}

-- a read failed exactly where the fault says so
abbrev pub CountsTypesReads : {A : Type 0} → (failures failures' : ℕ) → Result A TypesFault → Type 0
CountsTypesReads failures failures' (Err fault.Read) = failures' ≡ counts_up failures 1
CountsTypesReads failures failures' _ = failures' ≡ failures

-- the fault of reading the types where reading the stream answered so
abbrev pub types_fault : Fault → TypesFault
types_fault (reading.Refused R) = fault.Refused R
types_fault reading.Read = fault.Read
types_fault reading.Memory = fault.Memory
types_fault reading.Failed = fault.Memory

-- ---- for private clauses
-- the ids of definitions
abbrev pub ids_of : List Definition → List TypeId
ids_of [] = []
ids_of (d ∷ ds) = d.id ∷ ids_of ds

-- the type that is known, or else the other
abbrev pub or_else : Option TypeId → Option TypeId → Option TypeId
or_else None other = other
or_else (Some id) other = Some id

-- what reading the definitions of the stream gives: them, and the type of its first value
abbrev pub ReadsDefinitions : Bounds → (bytes : List ℕ) → (now : Option (List ℕ)) → Table → List Definition
    → Result (Option TypeId) Fault → Type 0
ReadsDefinitions L bytes now U ds (Ok first) = IsRead L bytes now (λ items T. (U ≡ T)
    × (definitions_of ds ≡ defined_in items) × (first ≡ first_type items))
ReadsDefinitions L bytes now U ds (Err (reading.Refused R)) =
    (items : List StreamItem) × Outcome base_table L bytes items (refused R)
ReadsDefinitions L bytes now U ds (Err reading.Read) =
    SomeTaken bytes now (λ taken. (items : List StreamItem) × LongestStream base_table L taken items)
ReadsDefinitions L bytes now U ds (Err _) = Unit {0}
