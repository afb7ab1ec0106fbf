-- The laws of filled values and their segments.
-- (They follow from docs/FORMAT.md, Fillings and segments.)
use Rattle.std.specs.Prelude.{◌≡◌, ℕ, ◌+◌, ◌^◌, ◌<◌, ◌≤◌, List, ◌++◌, length, Some}
use Rattle.gob_num.specs.Unsigned.{AreBytes}
use Rattle.gob_types.specs.declared.id.TypeId.{TypeId}
use Rattle.gob_types.specs.declared.kind.Shape.{Shape}
use Rattle.gob_types.specs.declared.reason.Reason.TheVariants as reason
use Rattle.gob_types.specs.Table.{Table, shape_of}
use Rattle.gob_value.specs.Tree.{Tree, depth}
use Rattle.gob_value.specs.Top.{SpellsTop}
use Rattle.gob_read.specs.First.{IsFirst}
use Rattle.gob_read.specs.Refusal.{Refusal}
use Rattle.gob_stream.specs.Bounds.{Bounds}
use Rattle.gob_filled.specs.Filled.{Definitions, Filled, filled, Fillings, no_filling, filling, AreSegments}
use Rattle.gob_filled.specs.Filled.{SpellsFilled}
use Rattle.gob_filled.specs.Uncounted.{SpellsUncounted}

-- two readings are one, and so are the tables behind them
pub record SameEnd {A : Type 0} (v w : A) (b c x y : List ℕ) (U V : Table) : Type 0 where
  pub value : v ≡ w
  pub bytes : b ≡ c
  pub rest : x ≡ y
  pub table : U ≡ V

-- no spelling begins another of its type from the same table, and equal ones have equal values and lead to equal tables
abbrev pub EndByThemselves : Type 0
EndByThemselves = (base : Table) (L : Bounds) (T U V : Table) (t : TypeId) (limit most : ℕ) (v w : Filled)
    (b c x y : List ℕ)
    → SpellsFilled base L T t limit v b U → SpellsFilled base L T t most w c V → b ++ x ≡ c ++ y
    → SameEnd v w b c x y U V

-- no segments of a value's spelling begin those of another of its type from the same table
abbrev pub SegmentsEndByThemselves : Type 0
SegmentsEndByThemselves = (base : Table) (L : Bounds) (T U V : Table) (t : TypeId) (limit most : ℕ) (v w : Filled)
    (ls ms f g x y : List ℕ)
    → SpellsFilled base L T t limit v ls U → AreSegments ls f → SpellsFilled base L T t most w ms V → AreSegments ms g
    → f ++ x ≡ g ++ y → SameEnd v w f g x y U V

-- a value has one spelling from a table, and tells the table behind it
abbrev pub AreUnique : Type 0
AreUnique = (base : Table) (L : Bounds) (T U V : Table) (t : TypeId) (limit most : ℕ) (v : Filled) (b c : List ℕ)
    → SpellsFilled base L T t limit v b U → SpellsFilled base L T t most v c V → (b ≡ c) × (U ≡ V)

-- a value of which no nil is filled is spelled as ever, and leaves the table
abbrev pub ContainStrict : Type 0
ContainStrict = (base : Table) (L : Bounds) (T : Table) (t : TypeId) (limit : ℕ) (v : Tree) (b : List ℕ)
    → SpellsTop T t v b → AreBytes b → depth v ≤ limit → SpellsFilled base L T t limit (filled v no_filling) b T

abbrev pub AreStrictUnfilled : Type 0
AreStrictUnfilled = (base : Table) (L : Bounds) (T U : Table) (t : TypeId) (limit : ℕ) (v : Tree) (b : List ℕ)
    → SpellsFilled base L T t limit (filled v no_filling) b U → SpellsTop T t v b × (U ≡ T)

-- where a nil is filled, the format refuses the value at the first of these places, as an interface value, whatever
-- follows the number there
abbrev pub AreRefusedStrictly : Type 0
AreRefusedStrictly = (base : Table) (L : Bounds) (T U : Table) (t u : TypeId) (limit announced place : ℕ) (v : Tree)
    (s prefix rest : List ℕ)
    (ds : Definitions) (w : Filled) (fs : Fillings) → SpellsFilled base L T t limit
    (filled v (filling place s ds u w fs))
    (prefix ++ rest) U
    → place + 9 ≤ length prefix
    → (R : Refusal) × (R.place ≡ place) × (R.reason ≡ reason.InterfaceValue) × IsFirst T t limit announced prefix R

-- the table behind a spelling says of each type what the one before it says
abbrev pub KeepTheTable : Type 0
KeepTheTable = (base : Table) (L : Bounds) (T U : Table) (t u : TypeId) (limit : ℕ) (v : Filled) (b : List ℕ)
    (s : Shape)
    → SpellsFilled base L T t limit v b U → shape_of T u ≡ Some s → shape_of U u ≡ Some s

-- the value has a spelling without counts, and no part of it is deeper than the limit
pub record IsSpelledUncounted (base : Table) (L : Bounds) (T : Table) (t : TypeId) (limit : ℕ) (v : Filled)
    (U : Table) : Type 0 where
  pub deepest : ℕ
  pub bytes : List ℕ
  pub low : deepest ≤ limit
  pub spelled : SpellsUncounted base L T t v deepest bytes U

-- each value has one
abbrev pub AreSpelledUncounted : Type 0
AreSpelledUncounted = (base : Table) (L : Bounds) (T U : Table) (t : TypeId) (limit : ℕ) (v : Filled) (b : List ℕ)
    → SpellsFilled base L T t limit v b U → IsSpelledUncounted base L T t limit v U

-- the value has a spelling, and this has segments with their counts
pub record IsSpelledCounted (base : Table) (L : Bounds) (T : Table) (t : TypeId) (limit : ℕ) (v : Filled)
    (U : Table) : Type 0 where
  pub letters : List ℕ
  pub bytes : List ℕ
  pub spelled : SpellsFilled base L T t limit v letters U
  pub segments : AreSegments letters bytes

-- what is spelled without counts, in bytes few enough for all counts, is such a value
abbrev pub AreSpelledCounted : Type 0
AreSpelledCounted = (base : Table) (L : Bounds) (T U : Table) (t : TypeId) (limit d : ℕ) (v : Filled) (b : List ℕ)
    → SpellsUncounted base L T t v d b U → AreBytes b → length b < 2 ^ 60 → d ≤ limit
    → IsSpelledCounted base L T t limit v U
