use Rattle.std.proofs.Common.{ap, arith, length-take-le, true}
use Rattle.gob_go.proofs.ValuesSteps.{passes_items, prefix_items}
use Rattle.gob_go.proofs.WholeSteps.{passes_none}
use Rattle.gob_go.proofs.session.GoSession.pass_values.Goals as goal

pub returns-then-not-is_between-clause-passed : goal.returns-then-not-is_between-clause-passed
returns-then-not-is_between-clause-passed c = passes_none

pub slice_bounds-go_past-end : goal.slice_bounds-go_past-end
slice_bounds-go_past-end c =
    let found = c.filled_values-passed.ensures in
    let size = length-take-le c.filled_values-passed.result.used c.args.piece.now found.inside in
    omega (arith, size)

pub go_past-requires-clause-items : goal.go_past-requires-clause-items
go_past-requires-clause-items c =
    let limits = ap (λ s. s.limits) c.self.view_is in
    let table = ap (λ s. s.types) c.self.view_is in
    let taken = ap (λ s. s.taken) c.self.view_is in
    prefix_items c.args.self.now c.args.piece.now (rw (limits, table, taken) at c.filled_values-passed.ensures)

pub returns-then-not-is_between-clause-any : goal.returns-then-not-is_between-clause-any
returns-then-not-is_between-clause-any c = λ keep. passes_none

pub returns-clause-any : goal.returns-clause-any
returns-clause-any c =
    let limits = ap (λ s. s.limits) c.self.view_is in
    let table = ap (λ s. s.types) c.self.view_is in
    let taken = ap (λ s. s.taken) c.self.view_is in
    λ keep. passes_items c.args.piece.now (rw (limits, table, taken) at c.filled_values-passed.ensures)
    (c.go_past.ensures.passed keep)

pub returns-clause-passed : goal.returns-clause-passed
returns-clause-passed c = returns-clause-any c true

pub returns-clause-taken : goal.returns-clause-taken
returns-clause-taken c =
    let found = c.filled_values-passed.ensures in
    let size = length-take-le c.filled_values-passed.result.used c.args.piece.now found.inside in
    omega (arith, c.go_past.ensures.taken, size)
