-- The spelling of a filled value without the counts of its segments, and what the bytes of an item have of it so far.
-- Whether bytes begin a value is asked of such spellings: a count that is read says how many bytes follow, and these
-- may be too few for any value, or too many for the one that has begun.
-- (docs/FORMAT.md, Fillings and segments; Refusals: the place of a refusal is honest.)
use Rattle.std.specs.Prelude.{ℕ, pos, ◌+◌, ◌<◌, max, List, [], ◌∷◌, ◌++◌, length}
use Rattle.gob_num.specs.Unsigned.{IsUnsigned}
use Rattle.gob_num.specs.Signed.{IsSigned}
use Rattle.gob_types.specs.declared.id.TypeId.{TypeId}
use Rattle.gob_types.specs.Table.{Table}
use Rattle.gob_value.specs.Tree.{Tree, depth}
use Rattle.gob_value.specs.Top.{SpellsTop}
use Rattle.gob_read.specs.Expected.{a_number, nil}
use Rattle.gob_read.specs.Expects.{ExpectsTop}
use Rattle.gob_stream.specs.Bounds.{Bounds}
use Rattle.gob_stream.specs.Body.{MayPut}
use Rattle.gob_filled.specs.Definition.{Defines}
use Rattle.gob_filled.specs.Filled.{Definitions, no_definitions, definition, Filled, filled, Fillings, no_filling}
use Rattle.gob_filled.specs.Filled.{filling}
use Rattle.gob_filled.specs.Standing.{Level, Next, Stands, at_value, behind_name, behind_definition, at_inner}
use Rattle.gob_filled.specs.Standing.{behind_inner}

-- definitions one after another
pub data AreDefinedUncounted (base : Table) (L : Bounds) : Table → Definitions → List ℕ → Table → Type 0 where
  none_defined : {T : Table} → AreDefinedUncounted base L T no_definitions [] T
  one_defined : {T U V : Table} {id : TypeId} {v : Tree} {ds : Definitions} {b c : List ℕ} → Defines base L T id v b U
      → AreDefinedUncounted base L U ds c V → AreDefinedUncounted base L T (definition id v ds) (b ++ c) V

mutual
  -- the bytes spell the value behind its type number, and its deepest part has this depth
  pub data SpellsUncounted (base : Table) (L : Bounds) : Table → TypeId → Filled → ℕ → List ℕ → Table → Type 0 where
    with_fillings : {T U : Table} {t : TypeId} {v : Tree} {fs : Fillings} {d : ℕ} {b ls : List ℕ} → SpellsTop T t v b
        → FillsUncounted base L T t T [] b fs d ls U
        → SpellsUncounted base L T t (filled v fs) (max (depth v) d) ls U

  -- behind the bytes `done` of the skeleton's spelling, what is left of it is these bytes, where nils in it are filled;
  -- what fills them is no deeper than this
  pub data FillsUncounted (base : Table) (L : Bounds) : Table → TypeId → Table → (done left : List ℕ) → Fillings → ℕ
      → List ℕ → Table → Type 0 where
    as_it_stands : {T U : Table} {t : TypeId} {done left : List ℕ}
        → FillsUncounted base L T t U done left no_filling 0 left U
    -- what is held stands below the part that holds it
    next_filled : {T U V W X : Table} {t u : TypeId} {d k m : ℕ} {done left s a e n f ms : List ℕ} {ds : Definitions}
        {v : Filled} {fs : Fillings} (c : List ℕ) → ExpectsTop T t (done ++ c) (a_number nil) d → 0 < length s
        → IsUnsigned (length s) a → AreDefinedUncounted base L U ds e V → MayPut V u → IsSigned (pos u.0) n
        → SpellsUncounted base L V u v k f W → FillsUncounted base L T t W (done ++ (c ++ 0 ∷ [])) left fs m ms X
        → FillsUncounted base L T t U done (c ++ 0 ∷ left) (filling (length (done ++ c)) s ds u v fs) (max (d + k) m)
        (c ++ (a ++ (s ++ (e ++ (n ++ (f ++ ms)))))) X

-- the bytes and then the rest spell the value, whatever the limits are
pub record BeginsFilledValue (base T : Table) (t : TypeId) (p : List ℕ) : Type 0 where
  pub bounds : Bounds
  pub value : Filled
  pub deepest : ℕ
  pub rest : List ℕ
  pub behind : Table
  pub spelled : SpellsUncounted base bounds T t value deepest (p ++ rest) behind

-- the type of an item's value
abbrev pub type_of : {base : Table} {L : Bounds} {T : Table} {offset : ℕ} {z : List ℕ} {U : Table} {levels : List Level}
    {next : Next} {left : ℕ} → Stands base L T offset z U levels next left → TypeId
type_of (at_value {t = t} u l e s sg short may k) = t
type_of (behind_name c s p ex dl sh some u fit) = type_of p
type_of (behind_definition p def e k) = type_of p
type_of (at_inner p may sg u e l) = type_of p
type_of (behind_inner b p sp de e) = type_of p

-- what is read of it, without the counts of segments
abbrev pub uncounted : {base : Table} {L : Bounds} {T : Table} {offset : ℕ} {z : List ℕ} {U : Table}
    {levels : List Level} {next : Next} {left : ℕ} → Stands base L T offset z U levels next left → List ℕ
uncounted (at_value u l e s sg short may k) = []
uncounted (behind_name {a = a} c s p ex dl sh some u fit) = uncounted p ++ (c ++ (a ++ s))
uncounted (behind_definition {b = b} p def e k) = uncounted p ++ b
uncounted (at_inner {n = n} p may sg u e l) = uncounted p ++ n
uncounted (behind_inner b p sp de e) = uncounted p ++ b
