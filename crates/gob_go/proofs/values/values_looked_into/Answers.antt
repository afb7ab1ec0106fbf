use Rattle.std.proofs.Common.{arith}
use Rattle.gob_num.proofs.PublicLaws.{bytes_each}
use Rattle.gob_go.proofs.ValuesSteps.{before_few, before_within, bytes_behind, filled_before, more_before, none_before}
use Rattle.gob_go.proofs.values.values_looked_into.Goals as goal

pub values-init : goal.values-init
values-init c = record { inside = omega arith; few = omega arith; near = omega arith; are = none_before }

pub values-preserved : goal.values-preserved
values-preserved c =
    let bytes = bytes_each c.args.piece.now (λ i. omega (arith, c.type_inv.piece i)) in
    let one = filled_before _ (bytes_behind c.args.piece.now c.values.passed.used bytes)
    (omega (arith, c.depth.ensures.depth, c.min-depth.ensures)) c.in-Some.ensures
    (c.is_filled_whole.ensures c.if-not-is_filled_whole.false) in
    let all = more_before c.values.invariant.are one in
    record { inside = all.inside; few = before_few all; near = before_within all; are = all }
