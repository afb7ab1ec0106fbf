use Rattle.std.proofs.Common.{◌∙◌, ◌++◌, ◌+◌, ◌≡◌, suc, ap, arith, get_or, length, subst, sym}
use Rattle.gob_go.specs.declared.filled.Filling.{out-Filling}
use Rattle.gob_filled_match.proofs.NumberingLaws.{all_numbered, at_slice, next_filling, none_numbered, NumbersSo}
use Rattle.gob_filled_match.proofs.NumberingLaws.{one_numbered}
use Rattle.gob_filled_match.proofs.TakingLaws.{rest_is}
use Rattle.gob_filled_match.proofs.numbering.number_fillings.Goals as goal

pub loop-index-init : goal.loop-index-init
loop-index-init c = (
  omega arith,
  λ T fs m. subst (NumbersSo c.args.skeleton.now fs 0 0) (sym c.new-bytes.ensures.items)
      (none_numbered c.args.skeleton.now fs),
)

pub loop-index-preserved : goal.loop-index-preserved
loop-index-preserved c =
    let kept = get_or c.args.fillings.now c.loop-index.index c.index-fillings-index.result in
    let place = (out-Filling kept).place in
    let zero_there = at_slice c.args.skeleton.now place (c.is_zero_at.ensures c.if-not-is_zero_at.false) in
    let inside = zero_there.0 in
    let number = c.in_ok-write_uint.ensures.ok in
    let next : c.loop-index.index + 1 ≡ suc c.loop-index.index = omega arith in (
      omega (arith, inside),
      λ T fs m. one_numbered (c.loop-index.invariant.1 T fs m)
          (next_filling c.loop-index.index c.index-fillings-index.result m c.loop-index-test.true)
          c.if-place-from.false inside zero_there.1 next number.spelled
          (number.appended ∙ ap (λ x. x ++ number.bytes) c.in_ok-extend_from_slice.ensures.items),
    )

pub returns : goal.returns
returns c = λ T fs m.
    let end : c.loop-index.index ≡ length c.args.fillings.now = omega arith in
    all_numbered m end (c.loop-index.invariant.1 T fs m)
    (c.in_ok-extend_from_slice-2.ensures.items
    ∙ ap (λ x. c.loop-index.bytes.items ++ x) (rest_is c.loop-index.from c.args.skeleton.now))
