-- Which rows a body has behind its type number, and how far they lead. (docs/FORMAT.md, Explained bytes: this
-- project's own.)
use Rattle.std.specs.Prelude.{◌≡◌, ℕ, List, [], ◌∷◌, Bool, true, false, Result, Ok, Err}
use Rattle.gob_types.specs.declared.id.TypeId.{TypeId}
use Rattle.gob_types.specs.Table.{Table}
use Rattle.gob_value.specs.Tree.{Tree}
use Rattle.gob_value.specs.Top.{SpellsTop}
use Rattle.gob_explain.specs.declared.body.Walked.{Walked}
use Rattle.gob_explain.specs.declared.row.Row.{Row}
use Rattle.gob_explain.specs.declared.row.PartStep.{PartStep}
use Rattle.gob_explain.specs.Open.{Open, a_value}
use Rattle.gob_explain.specs.Path.{PathAt}
use Rattle.gob_explain.specs.Walk.{RowsLead, StopsAt}
use Rattle.gob_explain.specs.Machine.Walking.{Tells, Told}

-- a value of the type begins, which is no part of another
abbrev pub begins_value : TypeId → List Open
begins_value t = a_value t 0 [] ∷ []

-- it is whole: its skeleton is
pub record IsWholeValue (T : Table) (t : TypeId) (opens : List Open) : Type 0 where
  pub skeleton : List ℕ
  pub value : Tree
  pub spelled : SpellsTop T t value skeleton
  pub open_ : opens ≡ a_value t 0 skeleton ∷ []

-- it is whole, or what comes next at the place doesn't stand there
abbrev pub EndsSo : Table → TypeId → List ℕ → (most : ℕ) → Bool → List Open → ℕ → Type 0
EndsSo T t body most true opens place = IsWholeValue T t opens
EndsSo T t body most false opens place = StopsAt T body most opens place

-- a sink was told of the rows up to the place, which is as far as they lead, and of the path of what comes next there;
-- or of some of them, and no more
abbrev pub WalksBody : {S E : Type 0} → Tells S E → Table → TypeId → List ℕ → (most : ℕ) → S → S → Result Walked E
    → Type 0
WalksBody tells T t body most old new (Ok walked) = (opens : List Open) × (path : List PartStep)
    × Told tells T body (begins_value t) 0 (old, []) (new, path) (Ok tt) opens walked.place
    × EndsSo T t body most walked.whole opens walked.place × PathAt T walked.whole opens path
WalksBody tells T t body most old new (Err e) = (opens : List Open) × (place : ℕ) × (path : List PartStep)
    × Told tells T body (begins_value t) 0 (old, []) (new, path) (Err e) opens place

-- the path is that of the place in the body of a value of this type where its rows, no deeper than 1000, go no further:
-- before a refused place, where all the bytes have rows, that of their end
pub record IsPathTo (T : Table) (t : TypeId) (body : List ℕ) (path : List PartStep) : Type 0 where
  pub place : ℕ
  pub rows : List Row
  pub opens : List Open
  pub whole : Bool
  pub lead : RowsLead T body (begins_value t) 0 rows opens place
  pub ends : EndsSo T t body 1000 whole opens place
  pub path_is : PathAt T whole opens path
