-- Under which types a writer is opened. (docs/FORMAT.md, Types from source and Plain JSON as input.)
use Rattle.std.specs.Prelude.{ℕ, List, Option, false, Ok}
use Rattle.gob_stream.specs.Bounds.{Bounds}
use Rattle.gob_write.specs.Source.{IsOfSource}
use Rattle.gob_write.specs.Types.{AreTypes, IsRead}
use Rattle.gob_write.specs.declared.types.Types.{Types}
use Rattle.gob_plain_writer.specs.Writing.{IsOpened}
use Rattle.gob_plain_writer.specs.declared.writer.PlainWriter.{PlainWriter}

-- it is opened under the types of this Go source: those of the type that is asked for, and of all that it leads to
pub record IsWriterOfSource (L : Bounds) (source : List ℕ) (named : Option (List ℕ)) (w : PlainWriter) : Type 0 where
  pub types : Types
  pub given : IsOfSource source named false types
  pub opened : IsOpened L types w

-- or under all types of the stream that these bytes are
pub record IsWriterOfStream (L : Bounds) (bytes : List ℕ) (named : Option (List ℕ)) (w : PlainWriter) : Type 0 where
  pub types : Types
  pub now : Option (List ℕ)
  pub given : IsRead L bytes now (AreTypes named false types)
  pub opened : IsOpened L types w
