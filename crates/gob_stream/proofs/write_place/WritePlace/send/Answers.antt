use Rattle.std.proofs.Common.{◌+◌, false, refl, ap, arith, length-append}
use Rattle.std.proofs.KnownBytes.{Appends-trans}
use Rattle.std.proofs.lemmas.Result.{err_from_is_err_and}
use Rattle.gob_stream.proofs.Written.WriterSteps.{prefix_of_more, prefix_behind}
use Rattle.gob_stream.proofs.write_place.WritePlace.send.Goals as goal

pub returns-in_err-send_all-clause-sends : goal.returns-in_err-send_all-clause-sends
returns-in_err-send_all-clause-sends g c =
    let p = err_from_is_err_and c.from_residual.result c.from_residual.ensures.1 in
    rw (p.1, p.2) (
      prefix_of_more c.args.rest.now c.in_err-send_all.ensures.prefix,
      refl,
      c.in_err-send_all.ensures.fault,
    )

pub returns-in_err-send_all-2-clause-sends : goal.returns-in_err-send_all-2-clause-sends
returns-in_err-send_all-2-clause-sends g c =
    let p = err_from_is_err_and c.from_residual-in_err-send_all-2.result c.from_residual-in_err-send_all-2.ensures.1 in
    rw (p.1, p.2) (
      prefix_behind c.args.item.now c.in_ok-send_all.ensures.ok c.in_err-send_all-2.ensures.prefix,
      refl,
      c.in_err-send_all-2.ensures.fault,
    )

pub overflow_add-self-2 : goal.overflow_add-self-2
overflow_add-self-2 g c = omega (arith, c.requires, length-append c.args.item.now c.args.rest.now)

pub returns-clause-sends : goal.returns-clause-sends
returns-clause-sends g c =
    let p = c.args.self.now in (
      Appends-trans _ _ _ _ _ c.in_ok-send_all.ensures.ok c.in_ok-send_all-2.ensures.ok,
      ap (λ n. record p { offset = p.offset + n; failed = false })
          (omega (arith, length-append c.args.item.now c.args.rest.now)),
    )
