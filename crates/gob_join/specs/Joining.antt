-- What taking a stream into another one answers, and what is written then.
-- (docs/FORMAT.md, Streams joined.)
use Rattle.std.specs.Prelude.{◌≡◌, ℕ, List, [], ◌++◌, Option, Some, Result, Ok, Err}
use Rattle.std.specs.Io.KnownBytes.{Appends}
use Rattle.gob_types.specs.Base.{base_table}
use Rattle.gob_types.specs.Table.{Table}
use Rattle.gob_stream.specs.Bounds.{Bounds}
use Rattle.gob_stream.specs.Calls.Writing.{SentPrefix}
use Rattle.gob_filled.specs.Outcome.{BeginsFilled, FilledOutcome, refused}
use Rattle.gob_filled.specs.Stream.{FilledItem, FilledStream}
use Rattle.gob_go_writer.specs.Calls.Writer.{HasPut, limits_of, types_of}
use Rattle.gob_go_writer.specs.declared.writer.GoWriter.{GoWriter}
use Rattle.gob_join.specs.Renaming.{AreRenamed, IsRenaming, NewId, values_of}
use Rattle.gob_join.specs.declared.join_fault.JoinFault.{JoinFault}
use Rattle.gob_join.specs.declared.join_fault.JoinFault.TheVariants as fault

-- behind the items before, which are those bytes, the writer has put more, and these bytes went out: the values of
-- these are those of the given items, in order, under the ids that stand for theirs, each with the shape of the other
pub record Joins (w : GoWriter) (before : List FilledItem) (out : List ℕ) (ids : NewId) (given : List FilledItem)
    (T : Table) (old new : Option (List ℕ)) : Type 0 where
  pub items : List FilledItem
  pub more : List ℕ
  pub put : HasPut w (before ++ items) (out ++ more)
  pub sent : Appends old new more
  pub renaming : IsRenaming ids T (types_of w)
  pub values : AreRenamed ids (values_of given) (values_of items)

-- so of a whole stream
pub record JoinsWhole (L : Bounds) (bytes : List ℕ) (now : Option (List ℕ)) (w : GoWriter) (before : List FilledItem)
    (out : List ℕ) (old new : Option (List ℕ)) : Type 0 where
  pub given : List FilledItem
  pub table : Table
  pub stream : FilledStream base_table L given bytes table
  pub end : now ≡ Some []
  pub ids : NewId
  pub joins : Joins w before out ids given table old new

-- of the items before a refusal
pub record JoinsRefused (L : Bounds) (bytes : List ℕ) (w : GoWriter) (before : List FilledItem) (out : List ℕ)
    (old new : Option (List ℕ)) (given : List FilledItem) : Type 0 where
  pub prefix : List ℕ
  pub table : Table
  pub stream : FilledStream base_table L given prefix table
  pub ids : NewId
  pub joins : Joins w before out ids given table old new

-- of some first items of the file: no more went out than what a writer of those limits had put for them
pub record JoinsSome (L : Bounds) (bytes : List ℕ) (w : GoWriter) (before : List FilledItem) (out : List ℕ)
    (old new : Option (List ℕ)) : Type 0 where
  pub given : List FilledItem
  pub begins : BeginsFilled base_table L bytes given
  pub writer : GoWriter
  pub limits : limits_of writer ≡ limits_of w
  pub ids : NewId
  pub joins : Joins writer before out ids given begins.table old new

-- or, behind a failed write, a prefix of that
pub record JoinsCut (L : Bounds) (bytes : List ℕ) (w : GoWriter) (before : List FilledItem) (out : List ℕ)
    (old new : Option (List ℕ)) : Type 0 where
  pub made : Option (List ℕ)
  pub some : JoinsSome L bytes w before out old made
  pub more : List ℕ
  pub whole : Appends old made more
  pub cut : SentPrefix more old new

-- over a file that had these bytes, for a writer that had put the items before
abbrev pub JoinAnswers : Bounds → (bytes : List ℕ) → (now : Option (List ℕ)) → GoWriter → List FilledItem
    → (out : List ℕ) → (old new : Option (List ℕ)) → Result (Unit {0}) JoinFault → Type 0
JoinAnswers L bytes now w before out old new (Ok _) = JoinsWhole L bytes now w before out old new
JoinAnswers L bytes now w before out old new (Err (fault.Refused R)) = (given : List FilledItem)
    × FilledOutcome base_table L bytes given (refused R) × JoinsRefused L bytes w before out old new given
JoinAnswers L bytes now w before out old new (Err fault.Write) = JoinsCut L bytes w before out old new
JoinAnswers L bytes now w before out old new (Err _) = JoinsSome L bytes w before out old new
