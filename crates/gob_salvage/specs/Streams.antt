-- What is kept of bytes in which several encoders' streams may stand one behind another: of each what is kept of it
-- behind the definitions in force, and all of that as one stream, under ids that don't clash. (docs/FORMAT.md, What is
-- kept of damaged bytes: this project's own.)
use Rattle.std.specs.Prelude.{◌≡◌, ℕ, ◌+◌, List, [], ◌∷◌, ◌++◌, length, drop}
use Rattle.gob_types.specs.Base.{base_table}
use Rattle.gob_types.specs.Table.{Table}
use Rattle.gob_stream.specs.Bounds.{Bounds}
use Rattle.gob_stream.specs.Devices.{counts_up}
use Rattle.gob_filled.specs.Stream.{FilledItem, FilledStream}
use Rattle.gob_join.specs.Renaming.{AreRenamed, IsRenaming, NewId, values_of}
use Rattle.gob_salvage.specs.declared.gap.Gap.{Gap}
use Rattle.gob_salvage.specs.Breaks.{Breaks, BreaksAt}
use Rattle.gob_salvage.specs.Salvage.{IsSalvage, IsSalvageBehind}

-- ---- stream by stream
-- the gap, so many bytes further on
abbrev pub moved_gap : ℕ → Gap → Gap
moved_gap n g = record {
  begin = counts_up g.begin n;
  end = counts_up g.end n;
  reason = g.reason;
  place = counts_up g.place n;
  is_repeated = g.is_repeated;
}

abbrev pub moved : ℕ → List Gap → List Gap
moved n [] = []
moved n (g ∷ gaps) = moved_gap n g ∷ moved n gaps

-- from this offset of the bytes on, behind this front: what is kept of each stream as of one stream, up to the next,
-- and what is left out
pub data AreKeptFrom (L : Bounds) (bytes : List ℕ) : (from : ℕ) → (front : List ℕ) → (streams : List (List ℕ))
    → List Gap → Type 0 where
  last : {from count : ℕ} {front out : List ℕ} {gaps : List Gap}
      → IsSalvageBehind L front (drop from bytes) count out gaps
      → AreKeptFrom L bytes from front (out ∷ []) (moved from gaps)
  then_another : {from begin count : ℕ} {front next out : List ℕ} {gaps told : List Gap} {streams : List (List ℕ)}
      → (k : IsSalvageBehind L front (drop from bytes) count out gaps)
      → (b : BreaksAt L k.table begin next gaps (drop from bytes))
      → AreKeptFrom L bytes (from + begin) next streams told
      → AreKeptFrom L bytes from front (out ∷ streams) (moved from b.before ++ told)

-- one stream of these items, which are the bytes: the values are those of the streams, in order, under the ids that
-- stand for theirs, each with the shape of the other
pub data AreJoined (L : Bounds) : (streams : List (List ℕ)) → List FilledItem → (bytes : List ℕ) → Table → Type 0 where
  none_joined : AreJoined L [] [] [] base_table
  one_joined : {streams : List (List ℕ)} {given items : List FilledItem} {z bytes : List ℕ} {T U V : Table}
      {ids : NewId} (more : List FilledItem) (b : List ℕ) → AreJoined L streams items bytes U
      → FilledStream base_table L given z T → FilledStream base_table L (items ++ more) (bytes ++ b) V
      → IsRenaming ids T V → AreRenamed ids (values_of given) (values_of more)
      → AreJoined L (streams ++ z ∷ []) (items ++ more) (bytes ++ b) V

-- ---- all that is kept
-- so many items, which are these bytes, and what is left out: in their own bytes where all goes on as one stream
pub data IsSalvaged (L : Bounds) (bytes : List ℕ) (count : ℕ) (out : List ℕ) (gaps : List Gap) : Type 0 where
  of_one : IsSalvage L bytes count out gaps → IsSalvaged L bytes count out gaps
  of_several : {streams : List (List ℕ)} {items : List FilledItem} {T : Table} → Breaks L bytes
      → AreKeptFrom L bytes 0 [] streams gaps → AreJoined L streams items out T → count ≡ length items
      → IsSalvaged L bytes count out gaps
