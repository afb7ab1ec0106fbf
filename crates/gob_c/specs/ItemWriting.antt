-- What the exports tell C of a writer whose items are given as nodes.
use Rattle.std.specs.Prelude.{◌≡◌, ◌+◌, ◌-◌, ◌^◌, ◌≤◌, ◌<◌, ℕ, min, List, [], Bool, true, false, length, Option, Result}
use Rattle.std.specs.Prelude.{Ok, Err}
use Rattle.gob_types.specs.Base.{base_table}
use Rattle.gob_types.specs.Reasons.{reason_number}
use Rattle.gob_types.specs.Table.{Table}
use Rattle.gob_types.specs.declared.id.TypeId.{TypeId}
use Rattle.gob_stream.specs.Bounds.{AreLimits, Bounds, deepest}
use Rattle.gob_tape.specs.declared.flat.FlatNode.{FlatNode}
use Rattle.gob_filled.specs.Stream.{FilledItem}
use Rattle.gob_filled_writer.specs.Writing.{HasFailed}
use Rattle.gob_item_writer.specs.Writing.{DefineAnswers, HasWritten, PutAnswers, StaysFailed, waiting}
use Rattle.gob_item_writer.specs.declared.fault.ItemFault.{ItemFault}
use Rattle.gob_item_writer.specs.declared.fault.ItemFault.TheVariants as fault
use Rattle.gob_item_writer.specs.declared.writer.ItemWriter.{ItemWriter}
use Rattle.gob_c.specs.Held.{Holds}
use Rattle.gob_c.specs.Texts.{put_in}
use Rattle.gob_c.specs.Writing.{IsTold, writer_told}
use Rattle.gob_c.specs.declared.writing.WriterTold.{WriterTold}

-- it has written nothing, and keeps to these limits
pub record IsNewWriter (limits : Bounds) (w : ItemWriter) : Type 0 where
  pub nothing : HasWritten w [] [] base_table
  pub limits_are : w.stream.limits ≡ limits
  pub waits : waiting w ≡ []

-- whether a writer was made, which the handle holds then; else it is told that there is no memory, or that these are no
-- limits, and the handle is as it was
pub data OpensItems (limits : Bounds) (told : WriterTold) (held holds : Option ItemWriter) : Type 0 where
  is_open : told ≡ writer_told 0 0 0 0 → AreLimits deepest limits → Holds holds (IsNewWriter limits)
      → OpensItems limits told held holds
  lacks_memory : told ≡ writer_told 2 0 0 0 → holds ≡ held → OpensItems limits told held holds
  no_limits : told ≡ writer_told 4 0 0 0 → ¬ AreLimits deepest limits → holds ≡ held
      → OpensItems limits told held holds

-- what is told of a fault about which so many bytes of words are said: the place of the node, from 1
abbrev pub told_of_item : Result (Unit {0}) ItemFault → (length : ℕ) → WriterTold
told_of_item (Ok u) length = writer_told 0 0 0 0
told_of_item (Err (fault.Nodes node)) length = writer_told 1 0 (min (node + 1) (2 ^ 64 - 1)) length
told_of_item (Err (fault.Refused r)) length = writer_told 1 (reason_number r) 0 length
told_of_item (Err fault.Memory) length = writer_told 2 0 0 length
told_of_item (Err fault.Failed) length = writer_told 3 0 0 length

-- what writing a definition or a value answers
abbrev pub ItemAnswers : Bool → (old new : ItemWriter) → List FilledItem → List ℕ → Table → TypeId → List FlatNode
    → List ℕ → Result (Unit {0}) ItemFault → Type 0
ItemAnswers true old new items bytes T id nodes pool answer = DefineAnswers old new items bytes T id nodes pool answer
ItemAnswers false old new items bytes T id nodes pool answer = PutAnswers old new items bytes T id nodes pool answer

-- the writer was given the item, and what it answered is told
pub record ItemTold (defines : Bool) (old new : ItemWriter) (id : TypeId) (nodes : List FlatNode)
    (pool room room' : List ℕ) (told : WriterTold) : Type 0 where
  pub answer : Result (Unit {0}) ItemFault
  pub says : IsTold (told_of_item answer) room room' told
  pub puts : (items : List FilledItem) (bytes : List ℕ) (T : Table) → HasWritten old items bytes T
      → ItemAnswers defines old new items bytes T id nodes pool answer
  pub stays : HasFailed old.stream → StaysFailed old new answer

-- all that waited was put into the room, and waits no more; or there is too little room for it, and nothing has changed
pub data TakesItems (old new : ItemWriter) (room room' : List ℕ) (count : ℕ) : Type 0 where
  is_taken : length (waiting old) ≤ length room → count ≡ length (waiting old) → room' ≡ put_in (waiting old) room
      → waiting new ≡ [] → new.stream ≡ old.stream → new.limits ≡ old.limits → TakesItems old new room room' count
  lacks_room : length room < length (waiting old) → count ≡ length (waiting old) → room' ≡ room → new ≡ old
      → TakesItems old new room room' count
