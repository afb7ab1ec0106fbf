-- The laws of what a session has read.
use Rattle.std.specs.Prelude.{◌≡◌, ℕ, ◌+◌, ◌≤◌, ◌⊎◌, List, ◌++◌, length, Result, Ok, Err}
use Rattle.gob_types.specs.Base.{base_table}
use Rattle.gob_types.specs.Defined.{types}
use Rattle.gob_read.specs.Building.{Building}
use Rattle.gob_stream.specs.declared.fault.Refusal.{Refusal}
use Rattle.gob_stream.specs.declared.fault.Fault.{Fault}
use Rattle.gob_stream.specs.declared.fault.Fault.TheVariants as fault
use Rattle.gob_stream.specs.declared.item.Item as declared
use Rattle.gob_stream.specs.Machine.SessionState.{SessionState}
use Rattle.gob_stream.specs.Bounds.{no_deeper}
use Rattle.gob_stream.specs.Item.{StreamItem}
use Rattle.gob_stream.specs.Outcome.{LongestStream}
use Rattle.gob_stream.specs.Reading.{ShowsRefusal, HasTypesBehind}
use Rattle.gob_stream.specs.Calls.Session.{HasRead, FeedAnswers, FinishAnswers}
use Rattle.gob_stream.specs.Laws.{WrittenWithin}

-- in whatever pieces what is written is fed to a session, under limits that are each at least the writer's
pub record AreReadBackInPieces {X O : Type 0} {most : ℕ} (building : Building X O most) : Type 0 where
  -- each feed answers Ok, or wants memory
  pub fed : (s s' : SessionState X O) (items before : List StreamItem) (bytes piece rest : List ℕ)
      (given : List (declared.Item O)) (result : Result (Unit {0}) Fault)
      → WrittenWithin (no_deeper most s.limits) items ((bytes ++ piece) ++ rest)
      → FeedAnswers building s s' before bytes piece given result → (result ≡ Ok tt) ⊎ (result ≡ Err fault.Memory)
  -- behind the last byte those items were given
  pub given : (s : SessionState X O) (items before : List StreamItem) (bytes : List ℕ)
      → WrittenWithin (no_deeper most s.limits) items bytes → HasRead building s before bytes → before ≡ items
  -- and finishing answers Ok
  pub finished : (s s' : SessionState X O) (items before : List StreamItem) (bytes : List ℕ)
      (result : Result (Unit {0}) Fault)
      → WrittenWithin (no_deeper most s.limits) items bytes → FinishAnswers building s s' before bytes result
      → result ≡ Ok tt

-- what a session has read that has given the items, of these bytes, under its limits and no deeper than its builder
-- goes
pub record GivesWhatItRead {X O : Type 0} {most : ℕ} (building : Building X O most) : Type 0 where
  -- the items are those that the grammar finds in the bytes
  pub items : (s : SessionState X O) (items : List StreamItem) (bytes : List ℕ) → HasRead building s items bytes
      → LongestStream base_table (no_deeper most s.limits) bytes items
  -- which show no refusal
  pub unrefused : (s : SessionState X O) (items others : List StreamItem) (bytes : List ℕ) (R : Refusal)
      → HasRead building s items bytes → ¬ ShowsRefusal (no_deeper most s.limits) bytes others R
  -- its types are those behind the items
  pub types_behind : (s : SessionState X O) (items : List StreamItem) (bytes : List ℕ) → HasRead building s items bytes
      → HasTypesBehind (no_deeper most s.limits) bytes items (types s.types)
  -- and a count is the most that it takes beyond the limit for the stream
  pub within : (s : SessionState X O) (items : List StreamItem) (bytes : List ℕ) → HasRead building s items bytes
      → length bytes ≤ s.limits.stream + 9
