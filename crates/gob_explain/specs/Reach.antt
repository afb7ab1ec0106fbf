-- How far rows lead: over all the bytes before a place at which something is expected; and that they lead in one way.
-- (docs/FORMAT.md, Refusals, What comes next; Explained bytes: this project's own.)
use Rattle.std.specs.Prelude.{◌≡◌, ℕ, ◌<◌, ◌≤◌, ◌⊎◌, List, [], ◌∷◌, length, take}
use Rattle.gob_types.specs.declared.id.TypeId.{TypeId}
use Rattle.gob_types.specs.Ready.{IsReady}
use Rattle.gob_types.specs.Table.{Table}
use Rattle.gob_read.specs.Expected.{Expected}
use Rattle.gob_read.specs.Expects.{ExpectsTop}
use Rattle.gob_explain.specs.declared.row.Row.{Row}
use Rattle.gob_explain.specs.Body.{begins_value}
use Rattle.gob_explain.specs.Open.{Open}
use Rattle.gob_explain.specs.Walk.{NoneStands, RowsLead, StopsAt}

-- nothing before the end of the bytes lies deeper
abbrev pub HasNoneTooDeep : Table → TypeId → List ℕ → (most : ℕ) → Type 0
HasNoneTooDeep T t body most = (n : ℕ) → n < length body → (w : Expected) (d : ℕ) → ExpectsTop T t (take n body) w d
    → d ≤ most

-- where something is expected behind the bytes of a value in which no interface holds another, rows lead over all of
-- them if none can stand behind them, and if they stop and the type is ready
abbrev pub LeadToThePlace : Type 0
LeadToThePlace = (T : Table) (t : TypeId) (body : List ℕ) (most place : ℕ) (rs : List Row) (opens : List Open)
    (w : Expected) (d : ℕ) → RowsLead T body (begins_value t) 0 rs opens place
    → NoneStands T body most opens place ⊎ (IsReady T t × StopsAt T body most opens place) → ExpectsTop T t body w d
    → HasNoneTooDeep T t body most → place ≡ length body

-- how deep each row lies, and from where to where it stands
abbrev pub places : List Row → List (ℕ × ℕ × ℕ)
places [] = []
places (r ∷ rows) = (r.depth, r.begin, r.end) ∷ places rows

-- rows that lead from one place to another are cut alike, also where interfaces hold others
abbrev pub AreOneRun : Type 0
AreOneRun = (T : Table) (bytes : List ℕ) (opens last other : List Open) (at end : ℕ) (rs ss : List Row)
    → RowsLead T bytes opens at rs last end → RowsLead T bytes opens at ss other end → places rs ≡ places ss
