-- What a run answers that writes the stream of the values of another, received as values of a wanted type, and what it
-- has written then. (docs/LIBRARY.md, Matching and receiving; docs/FORMAT.md, The program: this project's own.)
use Rattle.std.specs.Global.{Global}
use Rattle.std.specs.Prelude.{◌≡◌, ℕ, Bool, IsTrue, List, [], ◌∷◌, ◌++◌, Option, Some, None, Result, Err, Vec}
use Rattle.std.specs.Io.KnownBytes.{Appends}
use Rattle.gob_types.specs.declared.id.TypeId.{TypeId}
use Rattle.gob_types.specs.declared.reason.Reason.{Reason}
use Rattle.gob_types.specs.Base.{base_table}
use Rattle.gob_types.specs.Table.{Table}
use Rattle.gob_left_out.specs.LeftOut.{LeavesOut, Row}
use Rattle.gob_left_out.specs.Tally.{tally_of, TallyRow}
use Rattle.gob_left_out.specs.declared.field.UnwantedField.{UnwantedField}
use Rattle.gob_match.specs.declared.step.TypeStep.{TypeStep}
use Rattle.gob_match.specs.Pairs.{of_types}
use Rattle.gob_rename.specs.declared.fault.Misfit.{Misfit}
use Rattle.gob_rename.specs.declared.rename.Rename.{Rename}
use Rattle.gob_rename.specs.Fitting.{AllFit, Misfits}
use Rattle.gob_rename.specs.Renaming.{renamed}
use Rattle.gob_stream.specs.Bounds.{Bounds}
use Rattle.gob_stream.specs.Reading.{SomeTaken}
use Rattle.gob_filled.specs.Filled.{Filled}
use Rattle.gob_filled.specs.Outcome.{BeginsFilled, FilledOutcome, LongestFilled, profile, refused}
use Rattle.gob_filled.specs.Stream.{FilledItem, putting, FilledStream}
use Rattle.gob_tool.specs.Answering.{AppendsPrefix, BeginsOutcome, RunAnswersIn}
use Rattle.gob_tool.specs.Taking.{Untouched}
use Rattle.gob_tool.specs.declared.fault.ToolFault.{ToolFault}
use Rattle.gob_tool.specs.declared.fault.ToolFault.TheVariants as fault
use Rattle.gob_convert.specs.Clashing.{TellsClash}
use Rattle.gob_convert.specs.Converting.{first_type, HasConverted, in_front, skeleton_of}
use Rattle.gob_convert.specs.Faults.{run_answer}
use Rattle.gob_convert.specs.declared.clash.Clash.{Clash}
use Rattle.gob_convert.specs.declared.fault.ConvertFault.{ConvertFault}
use Rattle.gob_convert.specs.declared.fault.ConvertFault.TheVariants as stop

-- ---- the wanted stream
-- the bytes are a stream, all of them were read, and this holds of its items, of the types that those in front of its
-- first value define, and of the type of that value
pub record HasWanted (L : Bounds) (bytes : List ℕ) (now : Option (List ℕ))
    (P : List FilledItem → Table → TypeId → Type 0) : Type 0 where
  pub items : List FilledItem
  pub behind : Table
  pub stream : FilledStream base_table L items bytes behind
  pub end : now ≡ Some []
  pub front : List ℕ
  pub table : Table
  pub in_front : FilledStream base_table L (in_front items) front table
  pub id : TypeId
  pub first : first_type items ≡ Some id
  pub holds : P items table id

-- why there is no wanted type, where these bytes were left of the wanted stream
abbrev pub LacksWanted : Bounds → (bytes : List ℕ) → (now : Option (List ℕ)) → ToolFault → Type 0
LacksWanted L bytes now (fault.Wanted R) =
    (items : List FilledItem) × FilledOutcome base_table L bytes items (refused R)
LacksWanted L bytes now fault.NoWantedType = (items : List FilledItem) × (T : Table)
    × FilledStream base_table L items bytes T × (now ≡ Some []) × (first_type items ≡ None)
LacksWanted L bytes now fault.Read = SomeTaken bytes now
    (λ taken. (items : List FilledItem) × LongestFilled base_table L taken items)
LacksWanted L bytes now fault.Memory = Unit {0}
LacksWanted L bytes now (fault.Refused R) = ⊥
LacksWanted L bytes now (fault.Clash path reason) = ⊥
LacksWanted L bytes now (fault.LeftOut path number) = ⊥
LacksWanted L bytes now fault.Write = ⊥

-- ---- the values
-- the bytes begin with the stream of some items and of a value of which the second property holds, by the types behind
-- it, and the first one of the items before it
pub record StopsAtValue (L : Bounds) (bytes : List ℕ) (P : Table → List FilledItem → Type 0)
    (Q : Table → TypeId → Filled → Type 0) : Type 0 where
  pub items : List FilledItem
  pub id : TypeId
  pub value : Filled
  pub begins : BeginsFilled base_table L bytes (items ++ putting id value ∷ [])
  pub holds : P begins.table items
  pub stops : Q begins.table id value

-- a field that the value leaves out, to which the path leads
pub record LeavesField (W : Table) (u : TypeId) (path : List TypeStep) (T : Table) (t : TypeId) (w : Filled) : Type
    0 where
  pub field : UnwantedField
  pub left : LeavesOut T W (of_types t u) (skeleton_of w) path field

-- how the part of the run behind the wanted stream ends, over an input with these bytes left, where `Whole` holds of
-- the items if all went out that was to be written of them, or `Cut` after a failed write: as any run; at a value whose
-- type clashes with u, one of W, on a path of the fewest steps; where no field may be left out, at a value that leaves
-- out one; or where the stream that is written takes no more
pub data Converting (all : Bool) (L : Bounds) (bytes : List ℕ) (now : Option (List ℕ)) (W : Table) (u : TypeId)
    (Whole Cut : Table → List FilledItem → Type 0) : Result (Unit {0}) ConvertFault → Type 0 where
  converts : (r : Result (Unit {0}) ToolFault) → RunAnswersIn profile L bytes now Whole Cut r
      → Converting all L bytes now W u Whole Cut (run_answer r)
  clashes : {c : Clash} → StopsAtValue L bytes Whole (λ T t w. TellsClash T W t u c)
      → Converting all L bytes now W u Whole Cut (Err (stop.Clash c))
  leaves_out : {path : Vec TypeStep Global} {number : ℕ} → IsTrue all
      → StopsAtValue L bytes Whole (LeavesField W u path.items)
      → Converting all L bytes now W u Whole Cut (Err (stop.Run (fault.LeftOut path number)))
  is_full : {why : Reason} → BeginsOutcome profile L bytes Whole
      → Converting all L bytes now W u Whole Cut (Err (stop.Full why))

-- what the values leave out is told behind what was told of those before them
abbrev pub Tallies : (told telling : List TallyRow) → List (List Row) → Type 0
Tallies told telling left = (before : List (List Row)) → told ≡ tally_of before → telling ≡ tally_of (before ++ left)

-- all of the bytes went out, and it is told what the values leave out
pub record GoesOut (old new : Option (List ℕ)) (told telling : List TallyRow) (out : List ℕ) (left : List (List Row))
    : Type 0 where
  pub sent : Appends old new out
  pub tallies : Tallies told telling left

-- some first bytes went out
pub record GoesOutCut (old new : Option (List ℕ)) (told telling : List TallyRow) (out : List ℕ)
    (left : List (List Row)) : Type 0 where
  pub sent : AppendsPrefix old new out
  pub tallies : Tallies told telling left

-- where the stream of these definitions, and of what is received, is all that goes out, and where the tally of what the
-- values leave out was told and is telling
abbrev pub ConvertsBehind : (all : Bool) → Bounds → (bytes : List ℕ) → (now : Option (List ℕ))
    → (front : List FilledItem) → Table → TypeId → (old new : Option (List ℕ)) → (told telling : List TallyRow)
    → Result (Unit {0}) ConvertFault → Type 0
ConvertsBehind all L bytes now front W u old new told telling result = Converting all L bytes now W u
    (HasConverted all L bytes front W u (GoesOut old new told telling))
    (HasConverted all L bytes front W u (GoesOutCut old new told telling))
    result

-- how the run ends, over a wanted stream and an input with these bytes left, an output with the old bytes, and a tally
-- that told the first rows and is telling the second: there is no wanted type, or one of the renames doesn't fit the
-- types that stand in front of its first value, or a stream of these limits doesn't take the definitions in front of
-- its first value, and nothing else is done; or all fit, and the stream went out of these definitions and of what is
-- received by the types in which the fields are renamed
pub data ConvertAnswers (rs : List Rename) (all : Bool) (L : Bounds) (wanted bytes : List ℕ)
    (wanted_now now old new : Option (List ℕ)) (told telling : List TallyRow) : Result (Unit {0}) ConvertFault → Type
    0 where
  stops_at_wanted : {f : ToolFault} → LacksWanted L wanted wanted_now f → Untouched bytes now old new → telling ≡ told
      → ConvertAnswers rs all L wanted bytes wanted_now now old new told telling (Err (stop.Run f))
  takes_no_front : {why : Reason} → Untouched bytes now old new → telling ≡ told
      → ConvertAnswers rs all L wanted bytes wanted_now now old new told telling (Err (stop.Full why))
  misfits : {number : ℕ} {why : Misfit} → HasWanted L wanted wanted_now (λ given F u. Misfits rs F number why)
      → Untouched bytes now old new → telling ≡ told
      → ConvertAnswers rs all L wanted bytes wanted_now now old new told telling (Err (stop.Misfits number why))
  converts_behind : {r : Result (Unit {0}) ConvertFault}
      → HasWanted L wanted wanted_now (λ given F u. AllFit rs F
      × ConvertsBehind all L bytes now (in_front given) (renamed rs F) u old new told telling r)
      → ConvertAnswers rs all L wanted bytes wanted_now now old new told telling r
