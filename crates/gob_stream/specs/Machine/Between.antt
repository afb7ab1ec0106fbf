-- Where a session stands between two items, and behind those that it passes.
use Rattle.std.specs.Prelude.{◌≡◌, ℕ, ◌≤◌, List, ◌++◌, length, take}
use Rattle.gob_read.specs.Building.{Building}
use Rattle.gob_stream.specs.Machine.Stages.{count_at}
use Rattle.gob_stream.specs.Machine.SessionState.{SessionState}
use Rattle.gob_stream.specs.Item.{StreamItem}
use Rattle.gob_stream.specs.Machine.HasRead.{HasRead}

-- no byte of the next item was taken
pub record IsBetween {X O : Type 0} (s : SessionState X O) : Type 0 where
  pub number : List ℕ
  pub stage : s.stage ≡ count_at s.taken number

-- behind so many items, the first bytes of the piece
pub record ReadsItems {X O : Type 0} {most : ℕ} (building : Building X O most) (s s' : SessionState X O)
    (count used : ℕ) (piece : List ℕ) : Type 0 where
  pub given : List StreamItem
  pub counted : count ≡ length given
  pub within : used ≤ length piece
  pub none : count ≡ 0 → used ≡ 0
  pub passed : (items : List StreamItem) (bytes : List ℕ) → HasRead building s items bytes
      → HasRead building s' (items ++ given) (bytes ++ take used piece)
