-- The laws of the tidy form. (They follow from docs/FORMAT.md, Tidy form; Values; Depth.)
use Rattle.std.specs.Prelude.{◌≡◌, ◌↔◌, ℕ, ◌+◌, ◌^◌, ◌<◌, ◌≤◌, List, length}
use Rattle.gob_types.specs.declared.id.TypeId.{TypeId}
use Rattle.gob_types.specs.declared.kind.Shape.{Shape}
use Rattle.gob_types.specs.declared.reason.Reason.{Reason}
use Rattle.gob_types.specs.Base.{base_table, wire_type}
use Rattle.gob_types.specs.Definable.{IsDefinable, IsOwnId}
use Rattle.gob_types.specs.Table.{Table}
use Rattle.gob_value.specs.Tree.{Tree, Trees, no_tree, tree, Pairs, no_pair, pair, Fields, no_field, field, depth}
use Rattle.gob_value.specs.Tree as Value
use Rattle.gob_value.specs.Fits.{Fits}
use Rattle.gob_value.specs.Description.{Describes, Misdescribes}
use Rattle.gob_value.specs.Described.{described}
use Rattle.gob_value.specs.Spelling.{Spells}
use Rattle.gob_value.specs.Tidy.{Tidies, HasTidyForm}

-- a relation of a type's values with others, under a table
abbrev pub Form : Type 1
Form = Table → TypeId → Tree → Tree → Type 0

-- a value has one form at most
abbrev pub IsOneForm : Form → Type 0
IsOneForm F = (T : Table) (t : TypeId) (v w x : Tree) → F T t v w → F T t v x → w ≡ x

-- and each value that fits has one
abbrev pub HaveTidyForm : Type 0
HaveTidyForm = (T : Table) (t : TypeId) (v : Tree) → Fits T t v → HasTidyForm (Tidies T t v)

-- the form of a form is itself
abbrev pub IsItsOwnForm : Form → Type 0
IsItsOwnForm F = (T : Table) (t : TypeId) (v w : Tree) → F T t v w → F T t w w

-- the form is no deeper
abbrev pub IsNoDeeper : Form → Type 0
IsNoDeeper F = (T : Table) (t : TypeId) (v w : Tree) → F T t v w → depth w ≤ depth v

-- nor is its spelling longer
abbrev pub IsNoLonger : Form → Type 0
IsNoLonger F = (T : Table) (t : TypeId) (v w : Tree) (b c : List ℕ) → F T t v w → Spells T t v b → Spells T t w c
    → length c ≤ length b

-- one more than the number of each field in the value has 64 bits: where fields before it are dropped, its delta may be
-- so great
abbrev mutual
  pub HasSmallNumbers : Tree → Type 0
  HasSmallNumbers (Value.many vs) = AllHaveSmallNumbers vs
  HasSmallNumbers (Value.pairs ps) = PairsHaveSmallNumbers ps
  HasSmallNumbers (Value.fields fs) = FieldsHaveSmallNumbers fs
  HasSmallNumbers _ = Unit {0}

  pub AllHaveSmallNumbers : Trees → Type 0
  AllHaveSmallNumbers no_tree = Unit {0}
  AllHaveSmallNumbers (tree v vs) = HasSmallNumbers v × AllHaveSmallNumbers vs

  pub PairsHaveSmallNumbers : Pairs → Type 0
  PairsHaveSmallNumbers no_pair = Unit {0}
  PairsHaveSmallNumbers (pair k e ps) = HasSmallNumbers k × HasSmallNumbers e × PairsHaveSmallNumbers ps

  pub FieldsHaveSmallNumbers : Fields → Type 0
  FieldsHaveSmallNumbers no_field = Unit {0}
  FieldsHaveSmallNumbers (field f v fs) = (f + 1 < 2 ^ 64) × HasSmallNumbers v × FieldsHaveSmallNumbers fs

-- the form of a value that fits its type fits it too
abbrev pub StaysFitting : Form → Type 0
StaysFitting F = (T : Table) (t : TypeId) (v w : Tree) → Fits T t v → HasSmallNumbers v → F T t v w → Fits T t w

-- the form of a description describes what the description does, or fails to for the same reason
abbrev pub KeepsTheShape : Form → Type 0
KeepsTheShape F = (t : TypeId) (v w : Tree) (s : Shape) → Fits base_table wire_type v → F base_table wire_type v w
    → Describes t v s ↔ Describes t w s

abbrev pub KeepsTheReason : Form → Type 0
KeepsTheReason F = (t : TypeId) (v w : Tree) (r : Reason) → Fits base_table wire_type v → F base_table wire_type v w
    → Misdescribes t v r ↔ Misdescribes t w r

-- the description that is made of a shape is its own form, under an id that a definition may give
abbrev pub MadeTidy : Form → Type 0
MadeTidy F = (t : TypeId) (s : Shape) → IsDefinable s → IsOwnId t
    → F base_table wire_type (described t s) (described t s)
