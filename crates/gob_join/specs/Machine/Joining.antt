-- Where a run stands that takes in the items of a stream. For private clauses.
use Rattle.std.specs.Prelude.{◌≡◌, ℕ, ◌<◌, List, Option, None, Some, Result, Ok, Err}
use Rattle.gob_stream.specs.Bounds.{within_trees}
use Rattle.gob_filled.specs.Stream.{FilledItem}
use Rattle.gob_go.specs.Calls.Reader.{GoReader, HasReadFrom, session_of}
use Rattle.gob_go.specs.Calls.Session.{limits_of, taken_of}
use Rattle.gob_go.specs.Meaning.{ItemMeans}
use Rattle.gob_go.specs.declared.item.GoItem.{GoItem}
use Rattle.gob_types.specs.Table.{Table}
use Rattle.gob_go_writer.specs.Calls.Writer.{HasPut, types_of}
use Rattle.gob_go_writer.specs.declared.writer.GoWriter.{GoWriter}
use Rattle.gob_join.specs.Joining.{JoinAnswers, Joins, JoinsCut, JoinsSome, JoinsWhole}
use Rattle.gob_join.specs.Renaming.{IsRenaming, NewId}
use Rattle.gob_join.specs.Taking.{TakesItem}
use Rattle.gob_join.specs.declared.join_fault.JoinFault.{JoinFault}
use Rattle.gob_join.specs.declared.join_fault.JoinFault.TheVariants as fault

-- the values of the items that were read are taken in
pub record JoinsSo (r : GoReader) (read now : Option (List ℕ)) (w : GoWriter) (before : List FilledItem)
    (out : List ℕ) (ids : NewId) (start sent : Option (List ℕ)) : Type 0 where
  pub given : List FilledItem
  pub has : HasReadFrom r read now given
  pub joins : Joins w before out ids given has.gave.table start sent

-- some items were read
pub record ReadsSo (r : GoReader) (read now : Option (List ℕ)) : Type 0 where
  pub given : List FilledItem
  pub has : HasReadFrom r read now given

-- and some bytes more were taken
pub record ReadsOn (r r' : GoReader) (read now : Option (List ℕ)) : Type 0 where
  pub so : ReadsSo r' read now
  pub onward : taken_of (session_of r) < taken_of (session_of r')

-- why no more come
abbrev pub StopsJoining : GoReader → (read now : Option (List ℕ)) → GoWriter → List FilledItem → (out : List ℕ)
    → (start sent : Option (List ℕ)) → JoinFault → Type 0
StopsJoining r read now w before out start sent (fault.Refused R) = (bytes : List ℕ) → read ≡ Some bytes
    → JoinAnswers (within_trees (limits_of (session_of r))) bytes now w before out start sent (Err (fault.Refused R))
StopsJoining r read now w before out start sent fault.Write = (bytes : List ℕ) → read ≡ Some bytes
    → JoinsCut (within_trees (limits_of (session_of r))) bytes w before out start sent
StopsJoining r read now w before out start sent _ = (bytes : List ℕ) → read ≡ Some bytes
    → JoinsSome (within_trees (limits_of (session_of r))) bytes w before out start sent

abbrev pub JoinsNext : (r r' : GoReader) → (read now : Option (List ℕ)) → GoWriter → List FilledItem → (out : List ℕ)
    → NewId → (start sent : Option (List ℕ)) → Result (Unit {0}) JoinFault → Type 0
JoinsNext r r' read now w before out ids start sent (Ok _) = JoinsSo r' read now w before out ids start sent
JoinsNext r r' read now w before out ids start sent (Err e) = StopsJoining r' read now w before out start sent e

abbrev pub JoinsAll : GoReader → (read now : Option (List ℕ)) → GoWriter → List FilledItem → (out : List ℕ)
    → (start sent : Option (List ℕ)) → Result (Unit {0}) JoinFault → Type 0
JoinsAll r read now w before out start sent (Ok _) = (bytes : List ℕ) → read ≡ Some bytes
    → JoinsWhole (within_trees (limits_of (session_of r))) bytes now w before out start sent
JoinsAll r read now w before out start sent (Err e) = StopsJoining r read now w before out start sent e

-- what a step gave is taken in, for whichever items were put before
abbrev pub TakesStep : Option GoItem → (w w' : GoWriter) → (old new : List ℕ) → Table → (ids now_ids : NewId) → Type 0
TakesStep None w w' old new T ids now_ids = (w' ≡ w) × (new ≡ old) × (now_ids ≡ ids)
TakesStep (Some given) w w' old new T ids now_ids = (i : FilledItem) (items : List FilledItem) (bytes : List ℕ)
    → HasPut w items bytes → IsRenaming ids T (types_of w) → ItemMeans T given i
    → TakesItem w w' items bytes old new T ids now_ids i
