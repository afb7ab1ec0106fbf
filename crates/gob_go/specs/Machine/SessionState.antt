-- The fields of a session, of which contracts speak by the words of specs/Calls/Session.antt.
use Rattle.std.specs.Prelude.{ℕ, Bool}
use Rattle.gob_types.specs.Defined.{Defined}
use Rattle.gob_stream.specs.Bounds.{Bounds}
use Rattle.gob_go.specs.declared.stage.Stage.{Stage}

-- under these limits, so many bytes were taken of a stream that has defined these types; the stage is what is expected,
-- and values are kept or not
pub record SessionState : Type 0 where
  pub limits : Bounds
  pub types : Defined
  pub taken : ℕ
  pub stage : Stage
  pub keeps : Bool
