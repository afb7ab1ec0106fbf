-- What is received of a value whose interfaces may hold others. What an interface holds goes along as it is. Which
-- interface of what is received holds it is told by numbers: with the number of its filling in the place of each nil
-- that is filled, the value is received as if interfaces were unsigned numbers.
-- (docs/LIBRARY.md, Matching and receiving: this project's own.)
use Rattle.std.specs.Prelude.{ℕ, suc, List, [], ◌∷◌, ◌++◌, length}
use Rattle.gob_num.specs.Unsigned.{IsUnsigned}
use Rattle.gob_types.specs.declared.id.TypeId.{TypeId}
use Rattle.gob_types.specs.Table.{Table}
use Rattle.gob_value.specs.Tree.{Tree}
use Rattle.gob_value.specs.Top.{SpellsTop}
use Rattle.gob_read.specs.Expected.{a_number, nil}
use Rattle.gob_read.specs.Expects.{ExpectsTop}
use Rattle.gob_match.specs.Received.{Receives}
use Rattle.gob_filled.specs.Filled.{Definitions, Filled, filled, Fillings, no_filling, filling}
use Rattle.gob_filled_match.specs.Numbered.{numbered}

-- the filling of this number, counted from 1: a name, definitions, the concrete type, and its value
pub data HasNumber : Fillings → ℕ → List ℕ → Definitions → TypeId → Filled → Type 0 where
  the_first : {p : ℕ} {s : List ℕ} {ds : Definitions} {u : TypeId} {w : Filled} {fs : Fillings}
      → HasNumber (filling p s ds u w fs) 1 s ds u w
  a_later_one : {p k : ℕ} {s r : List ℕ} {ds es : Definitions} {u t : TypeId} {v w : Filled} {fs : Fillings}
      → HasNumber fs (suc k) s ds u w → HasNumber (filling p r es t v fs) (suc (suc k)) s ds u w

-- behind the bytes `done` of a skeleton, what is left of it is spelled with numbers as the second bytes: in the place
-- of each nil that is filled stands the number that its filling has among all. `Before` holds of what stands before a
-- nil.
pub data IsInNumbers (Before : List ℕ → Type 0) (all : Fillings) : (done left : List ℕ) → Fillings → List ℕ → Type
    0 where
  as_it_stands : {done left : List ℕ} → IsInNumbers Before all done left no_filling left
  number_next : {k : ℕ} {done left s a ms : List ℕ} {ds : Definitions} {u : TypeId} {w : Filled} {fs : Fillings}
      (c : List ℕ) → Before (done ++ c) → HasNumber all k s ds u w → IsUnsigned k a
      → IsInNumbers Before all (done ++ (c ++ 0 ∷ [])) left fs ms
      → IsInNumbers Before all done (c ++ 0 ∷ left) (filling (length (done ++ c)) s ds u w fs) (c ++ (a ++ ms))

-- a nil of a value of the type stands behind these bytes
abbrev pub IsBeforeNil : Table → TypeId → List ℕ → Type 0
IsBeforeNil T t done = (d : ℕ) × ExpectsTop T t done (a_number nil) d

-- the fillings say where they stand
abbrev pub Anywhere : List ℕ → Type 0
Anywhere done = Unit {0}

-- the second value is received of the first, of two types that match. What an interface holds keeps its type, which is
-- one of the stream's.
pub data ReceivesFilled (T U : Table) (t u : TypeId) : Filled → Filled → Type 0 where
  holds_nothing : {v w : Tree} → Receives T U t u v w
      → ReceivesFilled T U t u (filled v no_filling) (filled w no_filling)
  in_numbers : {v w x y : Tree} {fs gs : Fillings} {b c m n : List ℕ}
      → SpellsTop T t v b → IsInNumbers Anywhere fs [] b fs m → SpellsTop (numbered T) t x m
      → Receives (numbered T) (numbered U) t u x y
      → SpellsTop (numbered U) u y n → IsInNumbers (IsBeforeNil U u) fs [] c gs n → SpellsTop U u w c
      → ReceivesFilled T U t u (filled v fs) (filled w gs)
