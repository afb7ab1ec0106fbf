-- Filled values: a value with nil in the places of its interfaces, its skeleton, and what fills these nils. The
-- spelling of a filled value is that of its skeleton, where 00 is replaced at each filled place. It is a list of
-- letters: a letter is a byte, or the cut, which ends a segment behind a definition. It leads from one table to
-- another, since definitions may stand in it.
-- (docs/FORMAT.md, Fillings and segments.)
use Rattle.std.specs.Prelude.{ℕ, pos, ◌-◌, ◌<◌, ◌≤◌, List, [], ◌∷◌, ◌++◌, length}
use Rattle.gob_num.specs.Unsigned.{IsUnsigned, AreBytes}
use Rattle.gob_num.specs.Signed.{IsSigned}
use Rattle.gob_types.specs.declared.id.TypeId.{TypeId}
use Rattle.gob_types.specs.Table.{Table}
use Rattle.gob_value.specs.Tree.{Tree, depth}
use Rattle.gob_value.specs.Top.{SpellsTop}
use Rattle.gob_read.specs.Expected.{a_number, nil}
use Rattle.gob_read.specs.Expects.{ExpectsTop}
use Rattle.gob_stream.specs.Bounds.{Bounds}
use Rattle.gob_stream.specs.Body.{MayPut}
use Rattle.gob_filled.specs.Definition.{Defines}

-- no byte: behind it the next segment begins
abbrev pub cut : ℕ
cut = 256

-- definitions in front of a concrete type: ids and descriptions
pub data Definitions : Type 0 where
  no_definitions : Definitions
  definition : TypeId → Tree → Definitions → Definitions

mutual
  -- a value, and what its nils are filled with
  pub data Filled : Type 0 where
    filled : Tree → Fillings → Filled

  pub data Fillings : Type 0 where
    no_filling : Fillings
    -- the nil behind so many bytes of the skeleton's spelling: a name, definitions, the concrete type, and its value
    filling : ℕ → List ℕ → Definitions → TypeId → Filled → Fillings → Fillings

-- the bytes are the segments of the letters, each behind its count
pub data AreSegments : List ℕ → List ℕ → Type 0 where
  last_segment : {c : List ℕ} (s : List ℕ) → AreBytes s → IsUnsigned (length s) c → AreSegments s (c ++ s)
  next_segment : {c ls f : List ℕ} (s : List ℕ) → AreBytes s → IsUnsigned (length s) c → AreSegments ls f
      → AreSegments (s ++ (cut ∷ ls)) (c ++ (s ++ f))

-- definitions one after another: each is as in an item of its own, and ends its segment
pub data AreDefined (base : Table) (L : Bounds) : Table → Definitions → List ℕ → Table → Type 0 where
  none_defined : {T : Table} → AreDefined base L T no_definitions [] T
  one_defined : {T U V : Table} {id : TypeId} {v : Tree} {ds : Definitions} {b c : List ℕ} → AreBytes b
      → Defines base L T id v b U
      → AreDefined base L U ds c V → AreDefined base L T (definition id v ds) (b ++ (cut ∷ c)) V

mutual
  -- the letters spell the value behind its type number, no part of it being deeper than the limit
  pub data SpellsFilled (base : Table) (L : Bounds) : Table → TypeId → ℕ → Filled → List ℕ → Table → Type 0 where
    with_fillings : {T U : Table} {t : TypeId} {limit : ℕ} {v : Tree} {fs : Fillings} {b ls : List ℕ}
        → SpellsTop T t v b → depth v ≤ limit
        → Fills base L T t limit T [] b fs ls U → SpellsFilled base L T t limit (filled v fs) ls U

  -- behind the bytes `done` of the spelling, what is left of it is these letters, where nils in it are filled
  pub data Fills (base : Table) (L : Bounds) : Table → TypeId → ℕ → Table → (done left : List ℕ) → Fillings → List ℕ
      → Table → Type 0 where
    as_it_stands : {T U : Table} {t : TypeId} {limit : ℕ} {done left : List ℕ} → AreBytes left
        → Fills base L T t limit U done left no_filling left U
    -- up to the next filled nil, whose part has depth d: a name, definitions, the concrete type, and segments of its
    -- value
    next_filled : {T U V W X : Table} {t u : TypeId} {limit d : ℕ} {done left s a e n f ls ms : List ℕ}
        {ds : Definitions}
        {v : Filled} {fs : Fillings}
        (c : List ℕ) → AreBytes c → ExpectsTop T t (done ++ c) (a_number nil) d → 0 < length s → AreBytes s
        → IsUnsigned (length s) a
        → AreDefined base L U ds e V → MayPut V u → IsSigned (pos u.0) n → SpellsFilled base L V u (limit - d) v ls W
        → AreSegments ls f
        → Fills base L T t limit W (done ++ (c ++ 0 ∷ [])) left fs ms X
        → Fills base L T t limit U done (c ++ 0 ∷ left) (filling (length (done ++ c)) s ds u v fs)
        (c ++ ((a ++ (s ++ (e ++ (n ++ f)))) ++ ms)) X
