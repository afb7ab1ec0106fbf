-- The value is whole, or the walk stops in it.
use Rattle.std.proofs.Common.{[], ◌∷◌, refl, arith}
use Rattle.gob_explain.specs.Open.{a_value}
use Rattle.gob_explain.proofs.BodyLaws.{item_at}
use Rattle.gob_explain.proofs.body.walk_body.Goals as goal

pub returns-in-Ok : goal.returns-in-Ok
returns-in-Ok g c =
    let w = rw c.in-Ok.is at (c.walk_value.ensures 0 [] [] refl (omega arith) item_at) in (
      a_value c.args.id 0 w.0 ∷ [],
      [],
      w.2,
      record { skeleton = w.0; value = w.1.0; spelled = w.1.1; open_ = refl },
      refl,
    )

pub returns-in-Err-Here : goal.returns-in-Err-Here
returns-in-Err-Here g c =
    let w = rw (c.in-Err-Here.is, c.in-Err-Here.field-0-is) at (c.walk_value.ensures 0 [] [] refl (omega arith) item_at)
    in (w.0, w.1, w.2, w.3, w.4)

pub returns-in-Err-Sink : goal.returns-in-Err-Sink
returns-in-Err-Sink g c =
    let w = rw (c.in-Err-Sink.is, c.in-Err-Sink.field-0-is) at (c.walk_value.ensures 0 [] [] refl (omega arith) item_at)
    in (w.0, w.1, w.2, w.3)
