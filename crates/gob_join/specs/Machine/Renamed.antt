-- What is kept of a value, renamed. For private clauses.
use Rattle.std.specs.Prelude.{◌≡◌, List, [], ◌∷◌}
use Rattle.gob_types.specs.Table.{Table}
use Rattle.gob_filled.specs.Filled.{Fillings}
use Rattle.gob_go.specs.Meaning.{AreFillings}
use Rattle.gob_go.specs.declared.filled.Filled.{Filled, out-Filled}
use Rattle.gob_go.specs.declared.filled.Filling.{Filling}
use Rattle.gob_join.specs.Renaming.{AreRenamedFillings, IsRenaming, NewId}

-- what is kept stands for what fills nils, renamed
pub record HaveRenamed (R : NewId) (U : Table) (made : List Filling) (fs : Fillings) : Type 0 where
  pub fillings : Fillings
  pub renamed : AreRenamedFillings R fs fillings
  pub mean : AreFillings U made fillings

-- where the ids stand for those of another table, it does so for all that the other one stands for
abbrev pub RenameFillings : NewId → (kept made : List Filling) → Type 0
RenameFillings R kept made = (T U : Table) (fs : Fillings) → IsRenaming R T U → AreFillings T kept fs
    → HaveRenamed R U made fs

abbrev pub RenamesFilling : NewId → (kept made : Filling) → Type 0
RenamesFilling R kept made = RenameFillings R (kept ∷ []) (made ∷ [])

-- so of a value, whose skeleton stays
pub record RenamesKept (R : NewId) (kept made : Filled) : Type 0 where
  pub skeleton : (out-Filled made).skeleton.items ≡ (out-Filled kept).skeleton.items
  pub fillings : RenameFillings R (out-Filled kept).fillings.items (out-Filled made).fillings.items
