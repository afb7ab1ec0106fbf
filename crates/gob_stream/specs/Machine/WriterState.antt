-- The fields of a writer, of which contracts speak by the words of specs/Writing.antt.
use Rattle.gob_types.specs.Defined.{Defined}
use Rattle.gob_stream.specs.Bounds.{Bounds}
use Rattle.gob_stream.specs.declared.write_place.WritePlace.{WritePlace}

-- under these limits, a stream that has defined these types was written up to the place
pub record WriterState : Type 0 where
  pub limits : Bounds
  pub types : Defined
  pub place : WritePlace
