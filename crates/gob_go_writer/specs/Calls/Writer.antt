-- What contracts see of a writer: the items that it has written, as which bytes, and what its calls answer.
use Rattle.std.specs.Prelude.{◌≡◌, ℕ, List, [], ◌∷◌, ◌++◌, length, true, false, Result, Ok, Err}
use Rattle.gob_types.specs.Base.{base_table}
use Rattle.gob_types.specs.Table.{Table}
use Rattle.gob_types.specs.declared.reason.Reason.{Reason}
use Rattle.gob_stream.specs.Bounds.{Bounds, within_trees}
use Rattle.gob_filled.specs.Stream.{FilledItem, IsFilledItem, FilledStream}
use Rattle.gob_go.specs.Calls.Session.{HasRead}
use Rattle.gob_go.specs.Calls.Session as session
use Rattle.gob_go.specs.Machine.SessionState.{SessionState}
use Rattle.gob_go.specs.Meaning.{ItemMeans}
use Rattle.gob_go.specs.declared.item.GoItem.{GoItem}
use Rattle.gob_go_writer.specs.PutRefusal.{RefusesPut}
use Rattle.gob_go_writer.specs.declared.put_fault.PutFault.{PutFault}
use Rattle.gob_go_writer.specs.declared.put_fault.PutFault.TheVariants as fault
use Rattle.gob_go_writer.specs.declared.writer.GoWriter.{GoWriter}

-- it has met a fault, behind which it writes no more
abbrev pub HasFailed : GoWriter → Type 0
HasFailed w = w.failed ≡ true

-- what it keeps to, and the types of its stream so far
abbrev pub limits_of : GoWriter → Bounds
limits_of w = session.limits_of w.session

abbrev pub types_of : GoWriter → Table
types_of w = session.types_of w.session

-- the session has read the items as these bytes, and nothing of another item
pub record HasReadWhole (s : SessionState) (items : List FilledItem) (bytes : List ℕ) : Type 0 where
  pub read : HasRead s items bytes
  pub stream : FilledStream base_table (within_trees (session.limits_of s)) items bytes (session.types_of s)

-- the writer has written the items: these bytes are the stream of them, and behind it the types are those of the writer
pub record HasPut (w : GoWriter) (items : List FilledItem) (bytes : List ℕ) : Type 0 where
  pub sound : w.failed ≡ false
  pub whole : HasReadWhole w.session items bytes

-- the bytes of the item went out behind those, and the writer has written it too
pub record PutsItem (w w' : GoWriter) (items : List FilledItem) (bytes : List ℕ) (kept : GoItem) (old new : List ℕ) :
    Type 0 where
  pub item : FilledItem
  pub more : List ℕ
  pub means : ItemMeans (types_of w') kept item
  pub is : IsFilledItem base_table (within_trees (limits_of w)) (types_of w) (length bytes) item more (types_of w')
  pub out : new ≡ old ++ more
  pub written : HasPut w' (items ++ item ∷ []) (bytes ++ more)

-- no bytes at this offset are the item
abbrev pub IsNoItem : Bounds → Table → (offset : ℕ) → GoItem → Type 0
IsNoItem L T offset kept = (i : FilledItem) (b : List ℕ) (U : Table) → ItemMeans U kept i
    → ¬ IsFilledItem base_table L T offset i b U

-- and this is the reason for which it isn't put behind the stream of the bytes
pub record IsRefused (L : Bounds) (T : Table) (stream : List ℕ) (kept : GoItem) (r : Reason) : Type 0 where
  pub none : IsNoItem L T (length stream) kept
  pub due : RefusesPut L T stream kept r

-- what putting an item answers, for a writer that has written the items, over a vector with the old bytes
abbrev pub PutAnswers : (w w' : GoWriter) → List FilledItem → List ℕ → GoItem → (old new : List ℕ)
    → Result (Unit {0}) PutFault → Type 0
PutAnswers w w' items bytes kept old new (Ok _) = PutsItem w w' items bytes kept old new
PutAnswers w w' items bytes kept old new (Err (fault.Refused r)) =
    IsRefused (within_trees (limits_of w)) (types_of w) bytes kept r
PutAnswers w w' items bytes kept old new (Err fault.Memory) = Unit {0}
PutAnswers w w' items bytes kept old new (Err fault.Failed) = ⊥
