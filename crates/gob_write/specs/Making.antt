-- How the run ends that writes the stream of plain JSON under the types of another. (docs/FORMAT.md, Plain JSON as
-- input.)
use Rattle.std.specs.Prelude.{◌≡◌, ℕ, List, map, Option, Result, Ok, Err}
use Rattle.std.specs.Io.KnownBytes.{Appends}
use Rattle.gob_types.specs.Base.{base_table}
use Rattle.gob_types.specs.Table.{Table}
use Rattle.gob_value.specs.View.{view}
use Rattle.gob_stream.specs.Bounds.{Bounds}
use Rattle.gob_stream.specs.Calls.Writing.{StoppedAt}
use Rattle.gob_stream.specs.Item.{StreamItem, defines}
use Rattle.gob_stream.specs.Stream.{Stream}
use Rattle.gob_stream.specs.declared.fault.WriteFault.{WriteFault}
use Rattle.gob_make.specs.declared.plain.Making.{Making}
use Rattle.gob_write.specs.Faults.{writing_fault}
use Rattle.gob_write.specs.Running.{WriteTextsAnswers}
use Rattle.gob_write.specs.Says.{HasWrittenTexts, Saying, of_values}
use Rattle.gob_write.specs.declared.fault.LinesFault.{LinesFault}
use Rattle.gob_write.specs.declared.types.Definition.{Definition}
use Rattle.gob_write.specs.declared.types.Types.{Types}
use Rattle.gob_write.specs.declared.writer.PlainWriter.{PlainWriter}

-- the definitions, in order, as they are described
abbrev pub definitions_of : List Definition → List StreamItem
definitions_of ds = map (λ d. defines d.id (view d.described)) ds

-- as what the texts are read under these limits: values of the wanted type
abbrev pub making_of : Bounds → Types → Making
making_of L types = record { id = types.id; depth = L.depth; zeros = L.item; lenient = types.lenient }

-- they say values of it, with nothing in front
abbrev pub of_plain : Bounds → Types → Saying
of_plain L types = of_values (making_of L types) L

-- texts of plain JSON say values of the wanted type, behind the stream of all definitions of the types
pub record AreMade (L : Bounds) (types : Types) (S : Saying) : Type 0 where
  pub making : S.making ≡ making_of L types
  pub bounds : S.bounds ≡ L
  pub items : S.items ≡ definitions_of types.definitions.items
  pub front : Stream base_table L S.items S.bytes S.table

-- how the run ends: behind all definitions, where the values are written as far as the texts say them; or before one of
-- them, of which no more than a prefix is out
pub data MakeAnswers (L : Bounds) (types : Types) (most : ℕ) (bytes : List ℕ) (old new : Option (List ℕ))
    (result : Result (Unit {0}) LinesFault) : Type 0 where
  behind_front : (S : Saying) → AreMade L types S → WriteTextsAnswers S most bytes old new result
      → MakeAnswers L types most bytes old new result
  within_front : (place : ℕ) (f : WriteFault) → result ≡ Err (writing_fault 0 f)
      → StoppedAt L (definitions_of types.definitions.items) place old new f
      → MakeAnswers L types most bytes old new result

-- without the number that the run answers
abbrev pub ending : Result ℕ LinesFault → Result (Unit {0}) LinesFault
ending (Ok n) = Ok tt
ending (Err f) = Err f

-- ---- for private clauses
-- all definitions went out, and the writer stands behind them
pub record WroteFront (S : Saying) (ds : List Definition) (w' : PlainWriter) (old new : Option (List ℕ)) : Type 0 where
  pub bytes : List ℕ
  pub table : Table
  pub written : HasWrittenTexts S w' (definitions_of ds) bytes table
  pub out : Appends old new bytes

-- or they stopped at one of them
pub record StopsWithin (S : Saying) (ds : List Definition) (old new : Option (List ℕ)) (f : LinesFault) : Type 0 where
  pub place : ℕ
  pub fault : WriteFault
  pub is : f ≡ writing_fault 0 fault
  pub stopped : StoppedAt S.bounds (definitions_of ds) place old new fault

abbrev pub FrontAnswers : Saying → List Definition → PlainWriter → (old new : Option (List ℕ))
    → Result (Unit {0}) LinesFault → Type 0
FrontAnswers S ds w' old new (Ok _) = WroteFront S ds w' old new
FrontAnswers S ds w' old new (Err f) = StopsWithin S ds old new f
