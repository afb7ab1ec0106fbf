-- After these bytes something is expected, and nothing that they show is refused.
-- (docs/FORMAT.md, Refusals: a refusal is given as soon as the bytes show it.)
use Rattle.std.specs.Prelude.{◌≡◌, ◌≢◌, ℕ, ◌<◌, ◌≤◌, List, [], ◌++◌, length}
use Rattle.gob_types.specs.declared.id.TypeId.{TypeId}
use Rattle.gob_types.specs.Table.{Table}
use Rattle.gob_read.specs.Expected.{Expected, EndsWithin}
use Rattle.gob_read.specs.Expects.{ExpectsTop}

-- no part that began before the end of the bytes is too deep
pub record IsShallow (T : Table) (t : TypeId) (limit : ℕ) (p : List ℕ) : Type 0 where
  pub each : (q s : List ℕ) (w : Expected) (d : ℕ) → ExpectsTop T t q w d → p ≡ q ++ s → s ≢ [] → d ≤ limit

pub record IsViable (T : Table) (t : TypeId) (limit announced : ℕ) (z : List ℕ) : Type 0 where
  pub before : List ℕ
  pub under_way : List ℕ
  pub expected : Expected
  pub depth : ℕ
  pub expects : ExpectsTop T t before expected depth
  pub whole : z ≡ before ++ under_way
  pub within : EndsWithin expected under_way
  pub not_deep : depth ≤ limit
  pub shallow : IsShallow T t limit before
  pub room : length z < announced
