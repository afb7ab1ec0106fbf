-- A value that is kept, as the tape of its skeleton and what is due in its nils.
use Rattle.std.proofs.Common.{◌≡◌, ℕ, List, subst}
use Rattle.serde_json.specs.Data.{Data}
use Rattle.gob_types.specs.declared.id.TypeId.{TypeId}
use Rattle.gob_types.specs.Table.{Table}
use Rattle.gob_value.specs.Tree.{Tree}
use Rattle.gob_value.specs.Top.{SpellsTop}
use Rattle.gob_value.proofs.PublicLaws.{one_top}
use Rattle.gob_tape.specs.Flat.{Flat}
use Rattle.gob_tape.specs.Meaning.{Means}
use Rattle.gob_filled.specs.Filled as spelled
use Rattle.gob_go.specs.Meaning.{IsFilled, is_filled, AreFillings}
use Rattle.gob_go.specs.declared.filled.Filled.{Filled, out-Filled}
use Rattle.gob_go.specs.declared.filled.Filling.{Filling}
use Rattle.gob_json_writer.specs.FilledJson.{FilledShows, filled_shows, FillingsShow}
use Rattle.gob_json_writer.specs.Machine.Holding.{GapsShow}

pub level_each : {T : Table} {id : TypeId} {value : Filled} {tape : Flat} {gaps : List ℕ} {w : spelled.Filled}
    {v : Tree} {N : ℕ → Data} → IsFilled T id value w → FilledShows T id w v N
    → ((v : Tree) → SpellsTop T id v (out-Filled value).skeleton.items → Means tape v)
    → ((fs : spelled.Fillings) (N : ℕ → Data) → AreFillings T (out-Filled value).fillings.items fs
    → FillingsShow T id (out-Filled value).skeleton.items 0 0 fs N
    → GapsShow T 0 (out-Filled value).fillings.items gaps N)
    → Means tape v × GapsShow T 0 (out-Filled value).fillings.items gaps N
level_each {T = T} {id = id} {N = N} (is_filled {v = v} {fs = fs} s a) (filled_shows t f) tape gaps =
    (tape v s, gaps fs N a (subst (λ b. FillingsShow T id b 0 0 fs N) (one_top t s) f))

-- where the slices that were read are those that are kept
pub level_at : {T : Table} {id : TypeId} {value : Filled} {tape : Flat} {gaps : List ℕ} {w : spelled.Filled}
    {v : Tree} {N : ℕ → Data} {skeleton : List ℕ} {fillings : List Filling}
    → skeleton ≡ (out-Filled value).skeleton.items → fillings ≡ (out-Filled value).fillings.items
    → ((v : Tree) → SpellsTop T id v skeleton → Means tape v)
    → ((fs : spelled.Fillings) (N : ℕ → Data) → AreFillings T fillings fs → FillingsShow T id skeleton 0 0 fs N
    → GapsShow T 0 fillings gaps N)
    → IsFilled T id value w → FilledShows T id w v N
    → Means tape v × GapsShow T 0 (out-Filled value).fillings.items gaps N
level_at {T = T} {id = id} {value = value} {tape = tape} {gaps = gaps} {fillings = fillings} e f tapes all i s =
    level_each i s (subst (λ b. (v : Tree) → SpellsTop T id v b → Means tape v) e tapes)
    (subst (λ l. (fs : spelled.Fillings) (N : ℕ → Data) → AreFillings T l fs
    → FillingsShow T id (out-Filled value).skeleton.items 0 0 fs N → GapsShow T 0 l gaps N) f
    (subst (λ b. (fs : spelled.Fillings) (N : ℕ → Data) → AreFillings T fillings fs → FillingsShow T id b 0 0 fs N
    → GapsShow T 0 fillings gaps N) e all))
