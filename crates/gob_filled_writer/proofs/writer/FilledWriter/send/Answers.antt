use Rattle.std.proofs.Common.{refl}
use Rattle.std.proofs.lemmas.Result.{err_from_is_err_and}
use Rattle.gob_stream.proofs.Written.WriterSteps.{prefix_of_more, prefix_behind}
use Rattle.gob_filled_writer.proofs.writer.FilledWriter.send.Goals as goal

pub returns-in_err-send_all-clause-sends : goal.returns-in_err-send_all-clause-sends
returns-in_err-send_all-clause-sends g c =
    let p = err_from_is_err_and c.from_residual.result c.from_residual.ensures.1 in
    rw (p.1, p.2) (
      prefix_of_more c.args.rest.now c.in_err-send_all.ensures.prefix,
      refl,
      c.in_err-send_all.ensures.fault,
    )

pub returns-in_err-send_all-2-clause-sends : goal.returns-in_err-send_all-2-clause-sends
returns-in_err-send_all-2-clause-sends g c =
    let p = err_from_is_err_and c.from_residual-in_err-send_all-2.result c.from_residual-in_err-send_all-2.ensures.1 in
    rw (p.1, p.2) (
      prefix_behind c.args.head.now c.in_ok-send_all.ensures.ok c.in_err-send_all-2.ensures.prefix,
      refl,
      c.in_err-send_all-2.ensures.fault,
    )
