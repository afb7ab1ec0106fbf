-- The JSON of a value whose nils may be filled. The parts of a value are numbered in the order of their first bytes,
-- the value itself first. A filling fills the part whose first byte stands behind as many bytes of the spelling as its
-- place says: with these so many parts have begun.
-- (docs/FORMAT.md, The JSON lines: this project's own.)
use Rattle.std.specs.Prelude.{◌≡◌, ℕ, ◌+◌, ◌<◌, ◌≤◌, List, length, take}
use Rattle.serde_json.specs.Data.{Data, null}
use Rattle.gob_types.specs.declared.id.TypeId.{TypeId}
use Rattle.gob_types.specs.Table.{Table}
use Rattle.gob_value.specs.Tree.{Tree}
use Rattle.gob_value.specs.Top.{SpellsTop}
use Rattle.gob_read.specs.Held.{PartialBody}
use Rattle.gob_json_writer.specs.NilsJson.{value_json_with, put_json_with, interface_json}
use Rattle.gob_filled.specs.Filled.{Definitions, Filled, filled, Fillings, no_filling, filling}
use Rattle.gob_go.specs.Meaning.{IsFilled}
use Rattle.gob_go.specs.declared.filled.Filled as kept

mutual
  -- the value of this type, which is spelled so, shows what the tree shows where its nils show what N has
  pub data FilledShows (T : Table) : TypeId → Filled → Tree → (ℕ → Data) → Type 0 where
    filled_shows : {t : TypeId} {v : Tree} {fs : Fillings} {b : List ℕ} {N : ℕ → Data} → SpellsTop T t v b
        → FillingsShow T t b 0 0 fs N → FilledShows T t (filled v fs) v N

  -- behind so many bytes and parts the nils show what N has: each filling its value, and any other nil null
  pub data FillingsShow (T : Table) : TypeId → List ℕ → (from number : ℕ) → Fillings → (ℕ → Data) → Type 0 where
    none_left : {t : TypeId} {b : List ℕ} {from number : ℕ} {N : ℕ → Data}
        → ((n : ℕ) → number ≤ n → N n ≡ null) → FillingsShow T t b from number no_filling N
    then_shown : {t u : TypeId} {b s : List ℕ} {from number place n raws : ℕ} {ds : Definitions} {w : Filled}
        {fs : Fillings} {v : Tree} {M N : ℕ → Data} → from ≤ place → place < length b
        → PartialBody T t (take place b) n raws → number ≤ n → ((m : ℕ) → number ≤ m → m < n → N m ≡ null)
        → FilledShows T u w v M → N n ≡ interface_json s u (value_json_with M T u 0 v)
        → FillingsShow T t b place (n + 1) fs N
        → FillingsShow T t b from number (filling place s ds u w fs) N

-- the JSON of what is kept of a value, with its type: {"type":t,"value":v}
pub data PutShows (T : Table) (id : TypeId) (value : kept.Filled) : Data → Type 0 where
  put_shows : {w : Filled} {v : Tree} {N : ℕ → Data} → IsFilled T id value w → FilledShows T id w v N
      → PutShows T id value (put_json_with N T id v)
