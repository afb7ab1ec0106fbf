-- Which fillings are due, as the parts of a value are gone over. For private clauses.
use Rattle.std.specs.Prelude.{◌≡◌, ℕ, ◌+◌, ◌<◌, ◌≤◌, List, [], ◌∷◌, Option, Some, None, drop}
use Rattle.serde_json.specs.Data.{Data, null}
use Rattle.gob_types.specs.declared.id.TypeId.{TypeId}
use Rattle.gob_types.specs.Defined.{types}
use Rattle.gob_types.specs.Table.{Table}
use Rattle.gob_value.specs.Tree.{Tree}
use Rattle.gob_tape.specs.Meaning.{Means}
use Rattle.gob_filled.specs.Filled as spelled
use Rattle.gob_go.specs.Meaning.{IsFilled}
use Rattle.gob_go.specs.declared.filled.Filled.{Filled}
use Rattle.gob_go.specs.declared.filled.Filling.{Filling, out-Filling}
use Rattle.gob_json_writer.specs.Nils.{HeldShows}
use Rattle.gob_json_writer.specs.NilsJson.{value_json_with, interface_json}
use Rattle.gob_json_writer.specs.declared.held.Held.{Held}
use Rattle.gob_json_writer.specs.FilledJson.{FilledShows}
use Rattle.gob_json_writer.specs.declared.go.filling_here.Due.{Due}
use Rattle.gob_json_writer.specs.declared.go.holding.Holding.{Holding}
use Rattle.gob_json_writer.specs.declared.go.holding.FilledTape.{FilledTape}

-- a filling shows this
pub data FillingShows (T : Table) (kept : Filling) : Data → Type 0 where
  filling_shows : {w : spelled.Filled} {v : Tree} {M : ℕ → Data}
      → IsFilled T (out-Filling kept).id (out-Filling kept).value w → FilledShows T (out-Filling kept).id w v M
      → FillingShows T kept (interface_json (out-Filling kept).name.items (out-Filling kept).id
      (value_json_with M T (out-Filling kept).id 0 v))

-- from the part of this number on N has null before the nil of each filling, which is so many parts further, and there
-- what it shows
pub data GapsShow (T : Table) : ℕ → List Filling → List ℕ → (ℕ → Data) → Type 0 where
  no_gap : {n : ℕ} {N : ℕ → Data} → ((m : ℕ) → n ≤ m → N m ≡ null) → GapsShow T n [] [] N
  gap_then : {n gap : ℕ} {kept : Filling} {all : List Filling} {gaps : List ℕ} {N : ℕ → Data}
      → ((m : ℕ) → n ≤ m → m < n + gap → N m ≡ null) → FillingShows T kept (N (n + gap))
      → GapsShow T (n + gap + 1) all gaps N → GapsShow T n (kept ∷ all) (gap ∷ gaps) N

-- with another first gap
abbrev pub first_gap : ℕ → List ℕ → List ℕ
first_gap ahead [] = []
first_gap ahead (gap ∷ gaps) = ahead ∷ gaps

-- the fillings that are due are those of nils from this number on
pub record AreDue (T : Table) (due : Due) (N : ℕ → Data) (n : ℕ) : Type 0 where
  pub rest : List Filling
  pub gaps : List ℕ
  pub rest_is : drop due.next due.fillings.now ≡ rest
  pub gaps_are : first_gap due.ahead (drop due.next due.gaps.items) ≡ gaps
  pub shows : GapsShow T n rest gaps N

-- what fills the part of the number, if it is a nil, shows this
pub data Fills (T : Table) : Option Filling → Data → Type 0 where
  fills_none : Fills T None null
  fills_some : {kept : Filling} {json : Data} → FillingShows T kept json → Fills T (Some kept) json

-- the part of the number was gone past
pub record IsPassed (T : Table) (due : Due) (given : Option Filling) (N : ℕ → Data) (n : ℕ) : Type 0 where
  pub fills : Fills T given (N n)
  pub due_then : AreDue T due N (n + 1)

-- what nils hold is what is due, under their own table
pub record Holds (T : Table) (nils : Holding) (N : ℕ → Data) (n : ℕ) : Type 0 where
  pub table : types nils.table.now ≡ T
  pub due : AreDue T nils.due N n

-- each value that what is kept stands for is that of the tape, and shows what the nils hold
pub record IsLevelOf (T : Table) (id : TypeId) (value : Filled) (level : FilledTape) : Type 0 where
  pub each : (w : spelled.Filled) (v : Tree) (N : ℕ → Data) → IsFilled T id value w → FilledShows T id w v N
      → Means level.tape v × Holds T level.nils N 0

-- what is held shows what the filling does
pub record HoldsFilling (T : Table) (kept : Filling) (held : Held Holding) : Type 0 where
  pub each : (json : Data) → FillingShows T kept json → HeldShows Holds T (Some held) json
