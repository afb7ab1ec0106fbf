use Rattle.std.proofs.Common.{arith}
use Rattle.gob_go.proofs.ValuesSteps.{before_few, before_within, more_before, none_before}
use Rattle.gob_go.proofs.values.filled_values.Goals as goal

pub runs-init : goal.runs-init
runs-init c = record { inside = omega arith; few = omega arith; near = omega arith; are = none_before }

pub runs-preserved : goal.runs-preserved
runs-preserved c =
    let all = more_before c.runs.invariant.are c.next_values-run.ensures in
    record { inside = all.inside; few = before_few all; near = before_within all; are = all }

pub overflow_add-passed : goal.overflow_add-passed
overflow_add-passed c =
    let all = more_before c.runs.invariant.are c.next_values-run.ensures in
    omega (arith, before_few all, before_within all, c.stream-most.ensures.limits.stream)
