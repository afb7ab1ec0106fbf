-- Where a run stands that receives the values of what it reads, or looks for their wanted type. For private clauses.
use Rattle.std.specs.Prelude.{◌≡◌, ℕ, ◌<◌, ◌^◌, List, [], ◌∷◌, Option, Some, None, Result, Ok, Err}
use Rattle.gob_types.specs.Ready.{IsReady}
use Rattle.gob_types.specs.Table.{Table}
use Rattle.gob_types.specs.declared.id.TypeId.{TypeId}
use Rattle.gob_read.specs.Calls.Builders.{tree_building}
use Rattle.gob_value.specs.Tree.{Tree}
use Rattle.gob_value.specs.Within.{FitsWithin}
use Rattle.gob_value.specs.View.{view}
use Rattle.gob_value.specs.declared.value.Value.{Value}
use Rattle.gob_stream.specs.Bounds.{Bounds}
use Rattle.gob_stream.specs.Devices.{counts_up}
use Rattle.gob_stream.specs.Item.{StreamItem, defines, item_view, puts}
use Rattle.gob_stream.specs.declared.fault.Fault.{Fault}
use Rattle.gob_stream.specs.declared.fault.Fault.TheVariants as reading
use Rattle.gob_stream.specs.declared.item.Item as declared
use Rattle.gob_stream.specs.declared.item.Item.TheVariants as variant
use Rattle.gob_num.specs.Spelled.{Appends as Grows}
use Rattle.gob_types.specs.Base.{base_table}
use Rattle.gob_stream.specs.Calls.Reader.{HasReadFrom}
use Rattle.gob_tool.specs.declared.fault.ToolFault.{ToolFault}
use Rattle.gob_tool.specs.declared.fault.ToolFault.TheVariants as fault
use Rattle.gob_tool.specs.Converting.{in_front}
use Rattle.gob_tool.specs.Fault.{wanted_fault}
use Rattle.gob_tool.specs.Machine.Received.{AreSpelled}
use Rattle.gob_tool.specs.Machine.Rewritten.{SpellsItem}
use Rattle.gob_tool.specs.Machine.Lines.{Trees}
use Rattle.gob_tool.specs.Taking.{HasWanted, LacksWanted, first_type}

-- the items of what a step gave
abbrev pub views_given : Option (declared.Item Value) → List StreamItem
views_given None = []
views_given (Some given) = item_view given ∷ []

-- each value among the items is of a type that is ready and has a type number, and fits it
pub data AreSent (T : Table) : List StreamItem → Type 0 where
  none_sent : AreSent T []
  defined : {id : TypeId} {described : Tree} {items : List StreamItem} → AreSent T items
      → AreSent T (defines id described ∷ items)
  sent : {t : TypeId} {v : Tree} {items : List StreamItem} → IsReady T t → t.0 < 2 ^ 63 → FitsWithin T t 1000 v
      → AreSent T items
      → AreSent T (puts t v ∷ items)

-- ---- the wanted stream
-- what was read of it, the type of its first value so far, and the definitions in front of that
pub record FindsSo (r : Trees) (read now : Option (List ℕ)) (first : Option TypeId) (definitions : List ℕ) : Type
    0 where
  pub given : List StreamItem
  pub has : HasReadFrom tree_building r read now given
  pub is : first ≡ first_type given
  pub are : AreSpelled (in_front given) definitions

-- the type that is known, or else that of what a step gave
abbrev pub first_type_of : Option TypeId → Option TypeId → Option TypeId
first_type_of None other = other
first_type_of (Some id) other = Some id

-- of an item of it: a definition in front of its first value is appended
abbrev pub Notes : (known : Option TypeId) → Option (declared.Item Value) → (old new : List ℕ) → Type 0
Notes None (Some (variant.Define id described)) old new =
    Grows (SpellsItem base_table (defines id (view described))) old new
Notes known given old new = new ≡ old

-- the wanted type and the types of its stream are these, and so are the definitions in front of its first value
abbrev pub IsWantedOf : Table → TypeId → (definitions : List ℕ) → List StreamItem → Table → TypeId → Type 0
IsWantedOf T id definitions given U u = (U ≡ T) × (u ≡ id) × AreSpelled (in_front given) definitions

abbrev pub FindsWanted : Bounds → (bytes : List ℕ) → (now : Option (List ℕ)) → Table → (definitions : List ℕ)
    → Result TypeId ToolFault → Type 0
FindsWanted L bytes now T definitions (Ok id) = HasWanted L bytes now (IsWantedOf T id definitions)
FindsWanted L bytes now T definitions (Err f) = LacksWanted L bytes now f

-- what reading the wanted stream gives: the type of its first value
abbrev pub ReadsWanted : Bounds → (bytes : List ℕ) → (now : Option (List ℕ)) → Table → (definitions : List ℕ)
    → Result (Option TypeId) Fault → Type 0
ReadsWanted L bytes now T definitions (Ok (Some id)) = HasWanted L bytes now (IsWantedOf T id definitions)
ReadsWanted L bytes now T definitions (Ok None) = LacksWanted L bytes now fault.NoWantedType
ReadsWanted L bytes now T definitions (Err e) = LacksWanted L bytes now (wanted_fault e)

abbrev pub FirstIsReady : Table → Result (Option TypeId) Fault → Type 0
FirstIsReady T (Ok (Some id)) = IsReady T id × (id.0 < 2 ^ 63)
FirstIsReady T _ = Unit {0}

-- a read failed exactly where the fault says so
abbrev pub CountsPiece : {A : Type 0} → (failures failures' : ℕ) → Result A Fault → Type 0
CountsPiece failures failures' (Err reading.Read) = failures' ≡ counts_up failures 1
CountsPiece failures failures' _ = failures' ≡ failures
