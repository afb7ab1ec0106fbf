-- What was found of the wanted stream. For private clauses.
use Rattle.std.specs.Prelude.{◌≡◌, ℕ, ◌<◌, List, [], ◌∷◌, ◌++◌, map, Option, None, Some, Result, Ok, Err, IfSome}
use Rattle.gob_types.specs.declared.id.TypeId.{TypeId}
use Rattle.gob_types.specs.Base.{base_table}
use Rattle.gob_types.specs.Defined.{types}
use Rattle.gob_types.specs.Ready.{IsReady}
use Rattle.gob_types.specs.Table.{Table}
use Rattle.gob_rename.specs.Fitting.{AllFit, Misfits}
use Rattle.gob_rename.specs.Renaming.{renamed}
use Rattle.gob_rename.specs.declared.rename.Rename.{Rename}
use Rattle.gob_stream.specs.Bounds.{Bounds, within_trees}
use Rattle.gob_stream.specs.Devices.{counts_up}
use Rattle.gob_filled.specs.Stream.{FilledItem, defining, putting, FilledStream}
use Rattle.gob_go.specs.Calls.Reader.{GoReader, HasReadFrom, session_of}
use Rattle.gob_go.specs.Calls.Session.{limits_of, taken_of}
use Rattle.gob_go_writer.specs.Calls.Writer.{HasPut, types_of}
use Rattle.gob_go_writer.specs.Calls.Writer as writer
use Rattle.gob_tool.specs.declared.fault.ToolFault.TheVariants as fault
use Rattle.gob_convert.specs.Converting.{first_type, in_front}
use Rattle.gob_convert.specs.Running.{HasWanted, LacksWanted}
use Rattle.gob_convert.specs.Machine.Converting.{AreValues}
use Rattle.gob_convert.specs.declared.fault.ConvertFault.{ConvertFault}
use Rattle.gob_convert.specs.declared.fault.ConvertFault.TheVariants as stop
use Rattle.gob_convert.specs.declared.wanted.Front.{Front}
use Rattle.gob_convert.specs.declared.wanted.Target.{Target}

-- these items were put, and the ids are those of the types that they define
pub record IsFront (items : List FilledItem) (f : Front) : Type 0 where
  pub put : HasPut f.writer items f.bytes.items
  pub more : Table
  pub types_are : types_of f.writer ≡ base_table ++ more
  pub ids_are : f.ids.items ≡ map (λ entry. entry.0) more

-- what an item adds to this, where the type of the first value is known or not
abbrev pub NotesItem : Option TypeId → Option TypeId → FilledItem → (f f' : Front) → Type 0
NotesItem (Some t) first i f f' = (first ≡ Some t) × (f' ≡ f)
NotesItem None first (putting t w) f f' = (first ≡ Some t) × (f' ≡ f)
NotesItem None first (defining id v) f f' = (first ≡ None)
    × ((items : List FilledItem) → IsFront items f → IsFront (items ++ defining id v ∷ []) f')

-- no more goes into a stream, or no memory was had
abbrev pub StopsPutting : ConvertFault → Type 0
StopsPutting (stop.Full why) = Unit {0}
StopsPutting (stop.Run fault.Memory) = Unit {0}
StopsPutting _ = ⊥

-- of the items that were read those in front of the first value were put
pub record FrontSo (r : GoReader) (read now : Option (List ℕ)) (first : Option TypeId) (f : Front) : Type 0 where
  pub given : List FilledItem
  pub has : HasReadFrom r read now given
  pub first_is : first ≡ first_type given
  pub puts : IsFront (in_front given) f
  pub ready : IfSome first (IsReady (types_of f.writer))
  pub limits : writer.limits_of f.writer ≡ limits_of (session_of r)

-- and some bytes more were taken
pub record FrontOn (r r' : GoReader) (read now : Option (List ℕ)) (first : Option TypeId) (f : Front) : Type 0 where
  pub so : FrontSo r' read now first f
  pub onward : taken_of (session_of r) < taken_of (session_of r')

-- why no type was found
abbrev pub FindsNone : Bounds → (bytes : List ℕ) → (now : Option (List ℕ)) → ConvertFault → Type 0
FindsNone L bytes now (stop.Run f) = LacksWanted L bytes now f
FindsNone L bytes now (stop.Full why) = Unit {0}
FindsNone L bytes now (stop.Clash c) = ⊥
FindsNone L bytes now (stop.Misfits number why) = ⊥

abbrev pub FrontNext : (r r' : GoReader) → (read now : Option (List ℕ)) → Front → Result (Option TypeId) ConvertFault
    → Type 0
FrontNext r r' read now f (Ok first) = FrontOn r r' read now first f
FrontNext r r' read now f (Err e) = (bytes : List ℕ) → read ≡ Some bytes
    → FindsNone (within_trees (limits_of (session_of r))) bytes now e

-- all of the stream was read
pub record FrontWhole (L : Bounds) (bytes : List ℕ) (now : Option (List ℕ)) (first : Option TypeId) (f : Front) : Type
    0 where
  pub given : List FilledItem
  pub table : Table
  pub stream : FilledStream base_table L given bytes table
  pub end : now ≡ Some []
  pub first_is : first ≡ first_type given
  pub puts : IsFront (in_front given) f

abbrev pub FindsFront : Bounds → (bytes : List ℕ) → (now : Option (List ℕ)) → Front
    → Result (Option TypeId) ConvertFault → Type 0
FindsFront L bytes now f (Ok first) = FrontWhole L bytes now first f
FindsFront L bytes now f (Err e) = FindsNone L bytes now e

-- whatever was read, some items were put
pub record IsSomeFront (first : Option TypeId) (f : Front) : Type 0 where
  pub items : List FilledItem
  pub puts : IsFront items f
  pub ready : IfSome first (IsReady (types_of f.writer))

-- values of the target are values of the type in front
pub record IsTarget (f : Front) (t : Target) : Type 0 where
  pub ready : IsReady (types t.table) t.id
  pub fits : AreValues (types t.table) t.id (types_of f.writer)

-- it is the wanted type of this stream, by the types with the fields renamed
pub record IsFound (rs : List Rename) (f : Front) (t : Target) (given : List FilledItem) (F : Table) (u : TypeId)
    : Type 0 where
  pub fit : AllFit rs F
  pub types_are : types t.table ≡ renamed rs F
  pub id : u ≡ t.id
  pub put : HasPut f.writer (in_front given) f.bytes.items

abbrev pub FindsTarget : List Rename → Bounds → (bytes : List ℕ) → (now : Option (List ℕ)) → Front
    → Result Target ConvertFault → Type 0
FindsTarget rs L bytes now f (Ok t) = HasWanted L bytes now (λ given F u. IsFound rs f t given F u)
FindsTarget rs L bytes now f (Err (stop.Run e)) = LacksWanted L bytes now e
FindsTarget rs L bytes now f (Err (stop.Full why)) = Unit {0}
FindsTarget rs L bytes now f (Err (stop.Clash c)) = ⊥
FindsTarget rs L bytes now f (Err (stop.Misfits number why)) =
    HasWanted L bytes now (λ given F u. Misfits rs F number why)

-- a read failed exactly where the fault says so
abbrev pub CountsWanted : {A : Type 0} → (failures failures' : ℕ) → Result A ConvertFault → Type 0
CountsWanted failures failures' (Err (stop.Run fault.Read)) = failures' ≡ counts_up failures 1
CountsWanted failures failures' _ = failures' ≡ failures

-- what stops the run in the wanted stream
abbrev pub IsWantedStop : ConvertFault → Type 0
IsWantedStop (stop.Full why) = Unit {0}
IsWantedStop (stop.Run (fault.Wanted R)) = Unit {0}
IsWantedStop (stop.Run fault.NoWantedType) = Unit {0}
IsWantedStop (stop.Run fault.Read) = Unit {0}
IsWantedStop (stop.Run fault.Memory) = Unit {0}
IsWantedStop _ = ⊥

-- or at a rename
abbrev pub IsTargetStop : ConvertFault → Type 0
IsTargetStop (stop.Misfits number why) = Unit {0}
IsTargetStop e = IsWantedStop e
