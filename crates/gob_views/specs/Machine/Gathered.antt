-- Where a run stands that gathers the types of a stream. For private clauses.
use Rattle.std.specs.Prelude.{◌≡◌, ℕ, ◌<◌, List, [], ◌++◌, Option, Some, None, Result, Ok, Err}
use Rattle.gob_types.specs.Table.{Table}
use Rattle.gob_types.specs.declared.id.TypeId.{TypeId}
use Rattle.gob_value.specs.Tree.{Tree}
use Rattle.gob_stream.specs.Bounds.{Bounds, within_trees}
use Rattle.gob_tool.specs.RunningGo.{EndsWholeGo, IsRefusedGo}
use Rattle.gob_tool.specs.Texts.{IsNextWhole}
use Rattle.gob_filled.specs.Filled.{filled, no_filling}
use Rattle.gob_filled.specs.Stream.{putting}
use Rattle.gob_go.specs.GoStepping.{go_stepping}
use Rattle.gob_stream.specs.Reading.{SomeTaken}
use Rattle.gob_stream.specs.declared.fault.Fault.{Fault}
use Rattle.gob_stream.specs.declared.fault.Fault.TheVariants as reading
use Rattle.gob_filled.specs.Stream.{FilledItem}
use Rattle.gob_go.specs.Calls.Reader.{HasReadFrom, session_of}
use Rattle.gob_go.specs.Calls.Session.{limits_of, taken_of, types_of}
use Rattle.gob_go.specs.Meaning.{ItemMeans}
use Rattle.gob_go.specs.Reading.{LeadsBehind}
use Rattle.gob_go.specs.declared.item.GoItem.{GoItem}
use Rattle.gob_go.specs.Calls.Reader.{GoReader}
use Rattle.gob_go.specs.Ids.{defined_ids, item_ids}
use Rattle.gob_source.specs.Registered.{each_once}
use Rattle.gob_views.specs.Gathering.{item_namings, registered_names, value_types, with_item, with_type}
use Rattle.gob_views.specs.Types.{source_text}
use Rattle.gob_views.specs.declared.gathered.Gathered.{Gathered}
use Rattle.gob_views.specs.declared.types.SourceForm.{SourceForm}

-- a file of this form of what was gathered, where the types are those of the table
abbrev pub gathered_text : SourceForm → Table → Gathered → List ℕ
gathered_text form T g = source_text form T g.ids.items g.names g.values.keys

-- nothing was gathered
abbrev pub IsEmpty : Gathered → Type 0
IsEmpty g = (g.ids.items ≡ []) × (g.names ≡ []) × (g.values.keys ≡ [])

-- the type of a value was gathered
abbrev pub TypeGathered : TypeId → (old new : Gathered) → Type 0
TypeGathered t old new = (new.ids.items ≡ old.ids.items) × (new.names ≡ old.names)
    × (new.values.keys ≡ with_type old.values.keys t)

-- what this item says was gathered
abbrev pub ItemGathered : GoItem → (old new : Gathered) → Type 0
ItemGathered given old new = (T : Table) (i : FilledItem) → ItemMeans T given i
    → (new.ids.items ≡ old.ids.items ++ item_ids i) × (new.names ≡ each_once old.names (item_namings i))
    × (new.values.keys ≡ with_item old.values.keys i)

-- and what a step gave
abbrev pub ItemGiven : Option GoItem → (old new : Gathered) → Type 0
ItemGiven None old new = new ≡ old
ItemGiven (Some given) old new = ItemGathered given old new

-- the first bytes that wait are an item of a value of the type, in which no interface holds another
abbrev pub WaitsWhole : GoReader → TypeId → (used : ℕ) → Type 0
WaitsWhole r id used = (v : Tree) × IsNextWhole go_stepping r (putting id (filled v no_filling)) used

-- what was gathered is what these items say
pub record IsGathered (g : Gathered) (items : List FilledItem) : Type 0 where
  pub ids : g.ids.items ≡ defined_ids items
  pub names : g.names ≡ registered_names items
  pub values : g.values.keys ≡ value_types items

-- it is what the items say that were read
pub record GathersSo (r : GoReader) (read now : Option (List ℕ)) (g : Gathered) : Type 0 where
  pub given : List FilledItem
  pub has : HasReadFrom r read now given
  pub gathered : IsGathered g given

-- what was gathered is what the items say, and the reader's types are those where the bytes lead that were read
pub record TellsTypes (L : Bounds) (r : GoReader) (bytes : List ℕ) (now : Option (List ℕ)) (g : Gathered)
    (items : List FilledItem) : Type 0 where
  pub gathered : IsGathered g items
  pub known : SomeTaken bytes now (λ came. LeadsBehind L came items (types_of (session_of r)))

-- of a whole stream, or of the items before a refusal; behind another fault nothing is made of what was gathered
abbrev pub GathersAll : Bounds → GoReader → (bytes : List ℕ) → (now : Option (List ℕ)) → Gathered
    → Result (Unit {0}) Fault → Type 0
GathersAll L r bytes now g (Ok _) = EndsWholeGo L bytes now (TellsTypes L r bytes now g)
GathersAll L r bytes now g (Err (reading.Refused R)) = IsRefusedGo L bytes R (TellsTypes L r bytes now g)
GathersAll L r bytes now g (Err _) = Unit {0}

-- some of what waited was taken, and what it defines was gathered
abbrev pub GathersNext : (r r' : GoReader) → (read now : Option (List ℕ)) → Gathered → Result (Unit {0}) Fault
    → Type 0
GathersNext r r' read now g (Ok _) =
    GathersSo r' read now g × (taken_of (session_of r) < taken_of (session_of r'))
GathersNext r r' read now g (Err e) = (bytes : List ℕ) → read ≡ Some bytes
    → GathersAll (within_trees (limits_of (session_of r))) r' bytes now g (Err e)
