-- What the exports tell C of a writer.
use Rattle.std.specs.Prelude.{◌≡◌, ◌≤◌, ◌<◌, ℕ, List, [], ◌∷◌, length, Option, Some, None, Result, Ok, Err, OnErr}
use Rattle.gob_types.specs.Reasons.{reason_number}
use Rattle.gob_types.specs.Table.{Table}
use Rattle.gob_stream.specs.Bounds.{Bounds, within_trees}
use Rattle.gob_stream.specs.Calls.Writing.{HasWritten}
use Rattle.gob_stream.specs.Item.{StreamItem}
use Rattle.gob_plain_writer.specs.Writing.{PutAnswers, waiting}
use Rattle.gob_plain_writer.specs.declared.fault.OpenFault.{OpenFault}
use Rattle.gob_plain_writer.specs.declared.fault.OpenFault.TheVariants as opening
use Rattle.gob_plain_writer.specs.declared.fault.PutFault.{PutFault}
use Rattle.gob_plain_writer.specs.declared.fault.PutFault.TheVariants as putting
use Rattle.gob_plain_writer.specs.declared.writer.PlainWriter.{PlainWriter}
use Rattle.gob_c.specs.Held.{Holds}
use Rattle.gob_c.specs.Texts.{put_in}
use Rattle.gob_c.specs.declared.writing.WriterTold.{WriterTold}

-- the limits that each writer keeps to
abbrev pub standard : Bounds
standard = within_trees (record { item = 67108864; depth = 1000; types = 10000; stream = 68719476736 })

-- the name of a type that is given by bytes: none by no bytes
abbrev pub named_by : List ℕ → Option (List ℕ)
named_by [] = None
named_by (b ∷ bs) = Some (b ∷ bs)

abbrev pub writer_told : (status reason column length : ℕ) → WriterTold
writer_told status reason column length = record {
  status = status;
  reason = reason;
  column = column;
  length = length;
}

-- what is told of a fault about which so many bytes of words are said: 1 refused, 2 no memory, 3 there was none before
abbrev pub told_of_opening : OpenFault → (length : ℕ) → WriterTold
told_of_opening (opening.Source f) length = writer_told 1 0 0 length
told_of_opening (opening.Types f) length = writer_told 1 0 0 length
told_of_opening (opening.Refused r) length = writer_told 1 (reason_number r) 0 length
told_of_opening opening.Memory length = writer_told 2 0 0 length

abbrev pub told_of_putting : Result (Unit {0}) PutFault → (length : ℕ) → WriterTold
told_of_putting (Ok u) length = writer_told 0 0 0 0
told_of_putting (Err (putting.Wrong column path due)) length = writer_told 1 0 column length
told_of_putting (Err (putting.Refused r)) length = writer_told 1 (reason_number r) 0 length
told_of_putting (Err putting.Memory) length = writer_told 2 0 0 length
told_of_putting (Err putting.Failed) length = writer_told 3 0 0 length

-- this is told of words that were put into the room
pub record IsTold (told_with : ℕ → WriterTold) (room room' : List ℕ) (told : WriterTold) : Type 0 where
  pub words : List ℕ
  pub put : room' ≡ put_in words room
  pub says : told ≡ told_with (length words)

-- whether a writer was made of which this holds, which the handle holds then; else it is told why not, and the handle
-- is as it was
pub data OpensWriter (is_new : PlainWriter → Type 0) (told : WriterTold) (room room' : List ℕ)
    (held holds : Option PlainWriter) : Type 0 where
  is_open : told ≡ writer_told 0 0 0 0 → room' ≡ room → Holds holds is_new
      → OpensWriter is_new told room room' held holds
  isn't_open : (f : OpenFault) → IsTold (told_of_opening f) room room' told → holds ≡ held
      → OpensWriter is_new told room room' held holds

-- the writer was given the text, and what it answered is told
pub record PutTold (old new : PlainWriter) (text room room' : List ℕ) (told : WriterTold) : Type 0 where
  pub answer : Result (Unit {0}) PutFault
  pub says : IsTold (told_of_putting answer) room room' told
  pub puts : (items : List StreamItem) (bytes : List ℕ) (T : Table) → HasWritten old.stream items bytes T
      → PutAnswers old new items bytes T text answer
  pub making : new.making ≡ old.making
  pub kept : OnErr answer (waiting new ≡ waiting old)

-- all that waited was put into the room, and waits no more; or there is too little room for it, and nothing has changed
pub data TakesWaiting (old new : PlainWriter) (room room' : List ℕ) (count : ℕ) : Type 0 where
  is_taken : length (waiting old) ≤ length room → count ≡ length (waiting old) → room' ≡ put_in (waiting old) room
      → waiting new ≡ [] → new.stream ≡ old.stream → new.making ≡ old.making → TakesWaiting old new room room' count
  lacks_room : length room < length (waiting old) → count ≡ length (waiting old) → room' ≡ room → new ≡ old
      → TakesWaiting old new room room' count
