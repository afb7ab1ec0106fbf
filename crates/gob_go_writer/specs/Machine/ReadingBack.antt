-- What comes of an item whose bytes are read back. For private clauses.
use Rattle.std.specs.Prelude.{ℕ, pos, List, [], ◌∷◌, ◌++◌, length, Result, Ok, Err}
use Rattle.gob_num.specs.Signed.{IsSigned}
use Rattle.gob_types.specs.Base.{base_table}
use Rattle.gob_types.specs.declared.id.TypeId.{TypeId}
use Rattle.gob_value.specs.Top.{SpellsTop}
use Rattle.gob_value.specs.Tree.{Tree}
use Rattle.gob_stream.specs.Bounds.{within_trees}
use Rattle.gob_stream.specs.Item.{puts}
use Rattle.gob_filled.specs.Filled.{AreSegments}
use Rattle.gob_filled.specs.Stream.{FilledItem, IsFilledItem}
use Rattle.gob_go.specs.Calls.Session.{IsNext, limits_of, types_of}
use Rattle.gob_go.specs.Machine.SessionState.{SessionState}
use Rattle.gob_go.specs.Meaning.{ItemMeans}
use Rattle.gob_go.specs.declared.item.GoItem.{GoItem}
use Rattle.gob_go_writer.specs.Calls.Writer.{HasReadWhole, IsRefused}
use Rattle.gob_go_writer.specs.declared.put_fault.PutFault.{PutFault}
use Rattle.gob_go_writer.specs.declared.put_fault.PutFault.TheVariants as fault

-- behind the items the session has read the one that is kept, as these bytes
pub record ReadsBack (s s' : SessionState) (items : List FilledItem) (z : List ℕ) (kept : GoItem) (bytes : List ℕ) :
    Type 0 where
  pub item : FilledItem
  pub means : ItemMeans (types_of s') kept item
  pub is : IsFilledItem base_table (within_trees (limits_of s)) (types_of s) (length z) item bytes (types_of s')
  pub whole : HasReadWhole s' (items ++ item ∷ []) (z ++ bytes)

abbrev pub ReadBackAnswers : (s s' : SessionState) → List FilledItem → (z : List ℕ) → GoItem → (bytes : List ℕ)
    → Result (Unit {0}) PutFault → Type 0
ReadBackAnswers s s' items z kept bytes (Ok _) = ReadsBack s s' items z kept bytes
ReadBackAnswers s s' items z kept bytes (Err (fault.Refused r)) =
    IsRefused (within_trees (limits_of s)) (types_of s) z kept r
ReadBackAnswers s s' items z kept bytes (Err fault.Memory) = Unit {0}
ReadBackAnswers s s' items z kept bytes (Err fault.Failed) = ⊥

-- ---- a value in which no interface holds anything

-- the bytes are the segments of the number of the type and of the skeleton
pub record IsPlainSpelling (id : TypeId) (skeleton bytes : List ℕ) : Type 0 where
  pub number : List ℕ
  pub names : IsSigned (pos id.0) number
  pub segments : AreSegments (number ++ skeleton) bytes

-- the bytes may come next as the item of a value that the skeleton spells
pub record IsPlainNext (s : SessionState) (id : TypeId) (skeleton bytes : List ℕ) : Type 0 where
  pub value : Tree
  pub spelled : SpellsTop (types_of s) id value skeleton
  pub next : IsNext s (puts id value) bytes
