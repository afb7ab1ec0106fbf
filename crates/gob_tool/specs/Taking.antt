-- What a run answers that receives the values of a stream as values of a wanted type, and what it has written then.
-- (docs/LIBRARY.md, Matching and receiving; docs/FORMAT.md, The program: this project's own.)
use Rattle.std.specs.Global.{Global}
use Rattle.std.specs.Prelude.{◌≡◌, ℕ, ◌⊎◌, List, [], ◌∷◌, ◌++◌, Option, Some, None, Result, Err, Vec}
use Rattle.std.specs.Io.KnownBytes.{Appends}
use Rattle.gob_types.specs.declared.id.TypeId.{TypeId}
use Rattle.gob_types.specs.Base.{base_table}
use Rattle.gob_types.specs.Table.{Table}
use Rattle.gob_value.specs.Tree.{Tree}
use Rattle.gob_match.specs.declared.reason.ClashReason.{ClashReason}
use Rattle.gob_match.specs.declared.step.TypeStep.{TypeStep}
use Rattle.gob_match.specs.Clashing.{IsLeastClash}
use Rattle.gob_match.specs.Matching.{Match}
use Rattle.gob_match.specs.Received.{Receives}
use Rattle.gob_stream.specs.Bounds.{Bounds}
use Rattle.gob_stream.specs.Devices.{counts_up}
use Rattle.gob_stream.specs.Item.{StreamItem, defines, puts}
use Rattle.gob_stream.specs.Outcome.{BeginsWithStream, LongestStream, Outcome, refused, strict}
use Rattle.gob_stream.specs.Reading.{SomeTaken}
use Rattle.gob_stream.specs.Stream.{Stream}
use Rattle.gob_tool.specs.declared.fault.ToolFault.{ToolFault}
use Rattle.gob_tool.specs.declared.fault.ToolFault.TheVariants as fault
use Rattle.gob_tool.specs.Answering.{AppendsPrefix, RunAnswersIn}
use Rattle.gob_tool.specs.Line.{line}
use Rattle.gob_tool.specs.Showing.{MayCount}

-- the type of the first value among the items
abbrev pub first_type : List StreamItem → Option TypeId
first_type [] = None
first_type (defines id described ∷ items) = first_type items
first_type (puts id value ∷ items) = Some id

-- the bytes are a stream, all of them were read, and this holds of its items, of the types behind it and of the type of
-- its first value
pub record HasWanted (L : Bounds) (bytes : List ℕ) (now : Option (List ℕ))
    (P : List StreamItem → Table → TypeId → Type 0) : Type 0 where
  pub items : List StreamItem
  pub table : Table
  pub stream : Stream base_table L items bytes table
  pub end : now ≡ Some []
  pub id : TypeId
  pub first : first_type items ≡ Some id
  pub holds : P items table id

-- T has the types of the stream, and u is the wanted type, one of U: each value among the items is of a type that
-- matches it, and these are the lines of what is received of them
pub data AreReceived (T U : Table) (u : TypeId) : List StreamItem → List ℕ → Type 0 where
  no_item : AreReceived T U u [] []
  definition : {id : TypeId} {described : Tree} {items : List StreamItem} {lines : List ℕ}
      → AreReceived T U u items lines → AreReceived T U u (defines id described ∷ items) lines
  value : {t : TypeId} {v w : Tree} {items : List StreamItem} {lines : List ℕ} → Match T U t u → Receives T U t u v w
      → AreReceived T U u items lines
      → AreReceived T U u (puts t v ∷ items) (line U (puts u w) ++ lines)

-- they are, and this holds of the lines
pub record HasTakenItems (T U : Table) (u : TypeId) (items : List StreamItem) (P : List ℕ → Type 0) : Type 0 where
  pub lines : List ℕ
  pub received : AreReceived T U u items lines
  pub holds : P lines

-- the bytes begin with the stream of some items and of a value whose type clashes with the wanted one, on this path
-- of the fewest steps and for this reason, and this holds of the items before it
pub record ClashesBehind (L : Bounds) (bytes : List ℕ) (U : Table) (u : TypeId) (path : List TypeStep)
    (reason : ClashReason) (P : Table → List StreamItem → Type 0) : Type 0 where
  pub items : List StreamItem
  pub id : TypeId
  pub value : Tree
  pub begins : BeginsWithStream base_table L bytes (items ++ puts id value ∷ [])
  pub received : P begins.table items
  pub clash : IsLeastClash begins.table U id u path reason

-- how the part of the run behind the wanted stream ends, over an input with these bytes left, where `Whole` holds of
-- the items if all went out that was to be written of them, or `Cut` after a failed write: as any run, or at a value
-- whose type clashes
pub data Receiving (L : Bounds) (bytes : List ℕ) (now : Option (List ℕ)) (U : Table) (u : TypeId)
    (Whole Cut : Table → List StreamItem → Type 0) : Result (Unit {0}) ToolFault → Type 0 where
  receives : {r : Result (Unit {0}) ToolFault} → RunAnswersIn strict L bytes now Whole Cut r
      → Receiving L bytes now U u Whole Cut r
  clashes : {path : Vec TypeStep Global} {reason : ClashReason} → ClashesBehind L bytes U u path.items reason Whole
      → Receiving L bytes now U u Whole Cut (Err (fault.Clash path reason))

-- nothing was written, and nothing was read of the input with these bytes left
pub record Untouched (bytes : List ℕ) (now old new : Option (List ℕ)) : Type 0 where
  pub unread : now ≡ Some bytes
  pub unwritten : Appends old new []

-- why there is no wanted type, where these bytes were left of the wanted stream
abbrev pub LacksWanted : Bounds → (bytes : List ℕ) → (now : Option (List ℕ)) → ToolFault → Type 0
LacksWanted L bytes now (fault.Wanted R) = (items : List StreamItem) × Outcome base_table L bytes items (refused R)
LacksWanted L bytes now fault.NoWantedType = (items : List StreamItem) × (T : Table) × Stream base_table L items bytes T
    × (now ≡ Some []) × (first_type items ≡ None)
LacksWanted L bytes now fault.Read = SomeTaken bytes now
    (λ taken. (items : List StreamItem) × LongestStream base_table L taken items)
LacksWanted L bytes now fault.Memory = Unit {0}
LacksWanted L bytes now (fault.Refused R) = ⊥
LacksWanted L bytes now (fault.Clash path reason) = ⊥
LacksWanted L bytes now (fault.LeftOut path number) = ⊥
LacksWanted L bytes now fault.Write = ⊥

-- how a run that receives values ends, over a wanted stream and an input with these bytes left, and an output with the
-- old bytes: the wanted stream has no wanted type, and nothing else is done; or what is written of the values that are
-- received went out, and nothing else, or after a failed write a prefix of it. `Has` says what is written: for the
-- items of the wanted stream, its types and the wanted one, a property of the bytes, the types of the input and its
-- items.
pub data WantedAnswers (Has : List StreamItem → Table → TypeId → (List ℕ → Type 0) → Table → List StreamItem → Type 0)
    (L : Bounds) (wanted bytes : List ℕ) (wanted_now now old new : Option (List ℕ)) : Result (Unit {0}) ToolFault → Type
    0 where
  stops_at_wanted : {f : ToolFault} → LacksWanted L wanted wanted_now f → Untouched bytes now old new
      → WantedAnswers Has L wanted bytes wanted_now now old new (Err f)
  takes_behind : {r : Result (Unit {0}) ToolFault}
      → HasWanted L wanted wanted_now (λ given U u. Receiving L bytes now U u (Has given U u (Appends old new))
      (Has given U u (AppendsPrefix old new)) r)
      → WantedAnswers Has L wanted bytes wanted_now now old new r

-- the lines of what is received go out
abbrev pub TakeAnswers : Bounds → (wanted bytes : List ℕ) → (wanted_now now old new : Option (List ℕ))
    → Result (Unit {0}) ToolFault → Type 0
TakeAnswers L wanted bytes wanted_now now old new result =
    WantedAnswers (λ given U u P T items. HasTakenItems T U u items P) L wanted bytes wanted_now now old new result

-- a read of the one input or of the other failed where the fault is `Read`, and else only before a failed write
abbrev pub CountsTakeReads : (wanted wanted' failures failures' : ℕ) → Result (Unit {0}) ToolFault → Type 0
CountsTakeReads wanted wanted' failures failures' (Err fault.Read) =
    ((wanted' ≡ counts_up wanted 1) × (failures' ≡ failures)) ⊎
    ((wanted' ≡ wanted) × (failures' ≡ counts_up failures 1))
CountsTakeReads wanted wanted' failures failures' (Err fault.Write) = (wanted' ≡ wanted) × MayCount failures failures'
CountsTakeReads wanted wanted' failures failures' _ = (wanted' ≡ wanted) × (failures' ≡ failures)
