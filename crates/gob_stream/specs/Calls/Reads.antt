-- What the reading calls of a session answer, in the words of streams.
use Rattle.std.specs.Prelude.{◌≡◌, ℕ, ◌+◌, ◌-◌, ◌<◌, ◌≤◌, List, [], ◌∷◌, ◌++◌, length, Option, Some, None, Result, Ok}
use Rattle.std.specs.Prelude.{Err}
use Rattle.gob_types.specs.declared.reason.Reason.TheVariants as reason
use Rattle.gob_types.specs.Base.{base_table}
use Rattle.gob_types.specs.Defined.{types}
use Rattle.gob_read.specs.Building.{Building}
use Rattle.gob_stream.specs.declared.fault.Fault.{Fault}
use Rattle.gob_stream.specs.declared.fault.Fault.TheVariants as fault
use Rattle.gob_stream.specs.declared.item.Item as declared
use Rattle.gob_stream.specs.Machine.SessionState.{SessionState}
use Rattle.gob_stream.specs.Bounds.{no_deeper}
use Rattle.gob_stream.specs.Devices.{counts_up}
use Rattle.gob_stream.specs.Honest.{IsHonest, OfRefusal}
use Rattle.gob_stream.specs.Item.{StreamItem, ItemMeans}
use Rattle.gob_stream.specs.Stream.{Stream}
use Rattle.gob_stream.specs.Outcome.{Outcome, the_end, refused}
use Rattle.gob_stream.specs.Machine.HasRead.{HasRead}
use Rattle.gob_stream.specs.Reading.{SomeTaken, GivesOn, ShowsRefusal, HasTypesBehind, HasTypesBeyond, GivesOfTaken}
use Rattle.gob_stream.specs.Reading.{StopsNext}

-- what feeding a piece answers, where the items were given, to a session that had given the items before, of these
-- bytes
abbrev pub FeedAnswers : {X O : Type 0} {most : ℕ} → Building X O most → (s s' : SessionState X O) → List StreamItem
    → (bytes piece : List ℕ) → List (declared.Item O) → Result (Unit {0}) Fault → Type 0
FeedAnswers building s s' items bytes piece given (Ok _) =
    GivesOn building.means given items (λ all. HasRead building s' all (bytes ++ piece))
FeedAnswers {most = most} building s s' items bytes piece given (Err (fault.Refused R)) =
    GivesOn building.means given items (λ all. ShowsRefusal (no_deeper most s.limits) (bytes ++ piece) all R
    × HasTypesBehind (no_deeper most s.limits) (bytes ++ piece) all (types s'.types)) × (length bytes < R.seen)
FeedAnswers building s s' items bytes piece given (Err fault.Read) = ⊥
FeedAnswers {most = most} building s s' items bytes piece given (Err fault.Memory) =
    GivesOn building.means given items (λ all. GivesOfTaken (no_deeper most s.limits) s'.taken (bytes ++ piece) all
    × HasTypesBeyond (no_deeper most s.limits) (bytes ++ piece) all (types s'.types))
FeedAnswers building s s' items bytes piece given (Err fault.Failed) = ⊥

-- what finishing answers: nothing has changed at the end of a stream, else the bytes end within an item
abbrev pub FinishAnswers : {X O : Type 0} {most : ℕ} → Building X O most → (s s' : SessionState X O) → List StreamItem
    → List ℕ → Result (Unit {0}) Fault → Type 0
FinishAnswers {most = most} building s s' items bytes (Ok _) = Outcome base_table (no_deeper most s.limits) bytes items
    the_end × (s' ≡ s)
FinishAnswers {most = most} building s s' items bytes (Err (fault.Refused R)) = Outcome base_table
    (no_deeper most s.limits) bytes items (refused R) × (R.reason ≡ reason.Ended)
FinishAnswers building s s' items bytes (Err _) = ⊥

-- an item was given with the last of the bytes, which are the stream of this item behind the others
pub record ReadingGivesNext {X O : Type 0} {most : ℕ} (building : Building X O most) (s' : SessionState X O)
    (given : declared.Item O) (items : List StreamItem) (bytes : List ℕ) : Type 0 where
  pub item : StreamItem
  pub meant : ItemMeans building.means given item
  pub after : HasRead building s' (items ++ item ∷ []) bytes
  pub stream : Stream base_table (no_deeper most s'.limits) (items ++ item ∷ []) bytes (types s'.types)

-- what reading the next item answers
abbrev pub ReadItemAnswers : {X O : Type 0} {most : ℕ} → Building X O most → (s s' : SessionState X O) → List StreamItem
    → (bytes rest : List ℕ) → Option (List ℕ) → Result (Option (declared.Item O)) Fault → Type 0
ReadItemAnswers building s s' items bytes rest now (Ok (Some given)) =
    SomeTaken rest now (λ taken. ReadingGivesNext building s' given items (bytes ++ taken))
ReadItemAnswers {most = most} building s s' items bytes rest now (Ok None) = (rest ≡ []) × (now ≡ Some [])
    × Outcome base_table (no_deeper most s.limits) bytes items the_end × (s' ≡ s)
ReadItemAnswers {most = most} building s s' items bytes rest now (Err e) = StopsNext (no_deeper most s.limits) items
    bytes rest now e

-- how many bytes reading an item takes: those up to its end, within the limit, and before a fault no more than the
-- limit leaves and a count
abbrev pub ReadItemTakes : {X O : Type 0} → (s s' : SessionState X O) → (taken taken' : ℕ)
    → Result (Option (declared.Item O)) Fault → Type 0
ReadItemTakes s s' taken taken' (Ok None) = taken' ≡ taken
ReadItemTakes s s' taken taken' (Ok (Some item)) = (taken' ≡ counts_up taken (s'.taken - s.taken))
    × (s.taken < s'.taken) × (s'.taken ≤ s.limits.stream)
ReadItemTakes s s' taken taken' (Err e) = taken' ≤ taken + (s.limits.stream + 9 - s.taken)

-- the place of a refusal is honest: of what a piece is refused for, with which these items were given behind the others
abbrev pub FeedsHonestly : {X O : Type 0} {most : ℕ} → Building X O most → SessionState X O → List StreamItem
    → (bytes : List ℕ) → List (declared.Item O) → Result (Unit {0}) Fault → Type 0
FeedsHonestly {most = most} building s items bytes given result =
    OfRefusal (λ R. GivesOn building.means given items (λ all. IsHonest (no_deeper most s.limits) bytes all R)) result

-- and of what the next item is refused for, some of the rest being taken
abbrev pub ReadsHonestly : {X O A : Type 0} {most : ℕ} → Building X O most → SessionState X O → List StreamItem
    → (bytes rest : List ℕ) → Option (List ℕ) → Result A Fault → Type 0
ReadsHonestly {most = most} building s items bytes rest now result =
    OfRefusal (λ R. SomeTaken rest now (λ taken. IsHonest (no_deeper most s.limits) (bytes ++ taken) items R)) result
