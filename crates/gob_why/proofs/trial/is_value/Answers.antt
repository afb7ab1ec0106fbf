-- A new reader may be given a body.
use Rattle.std.proofs.Common.{[]}
use Rattle.gob_types.specs.Defined.{types}
use Rattle.gob_read.proofs.PublicLaws.{usable}
use Rattle.gob_why.proofs.trial.is_value.Goals as goal

pub push-requires : goal.push-requires
push-requires c =
    let after = c.in_ok-reader.ensures (types c.args.table.now) (c.kept.ensures.0 c.if-not-kept.false) in
    usable (record { limit = _; announced = _; bytes = []; after = after })
