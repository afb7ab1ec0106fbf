use Rattle.std.proofs.Common.{ap}
use Rattle.gob_stream.proofs.Reader.WholeSteps.{passes_items, passes_none, prefix_items}
use Rattle.gob_stream.proofs.session.Session.pass_values.Goals as goal

pub returns-then-not-is_between-clause-passed : goal.returns-then-not-is_between-clause-passed
returns-then-not-is_between-clause-passed g c = passes_none

pub go_past-requires-clause-items : goal.go_past-requires-clause-items
go_past-requires-clause-items g c =
    let limits = ap (λ s. s.limits) c.self.view_is in
    let table = ap (λ s. s.types) c.self.view_is in
    let taken = ap (λ s. s.taken) c.self.view_is in
    prefix_items (rw (limits, table, taken, c.DEPTH.ensures) at c.whole_values-passed.ensures)

pub returns-clause-passed : goal.returns-clause-passed
returns-clause-passed g c =
    let limits = ap (λ s. s.limits) c.self.view_is in
    let table = ap (λ s. s.types) c.self.view_is in
    let taken = ap (λ s. s.taken) c.self.view_is in
    passes_items c.args.piece.now (rw (limits, table, taken, c.DEPTH.ensures) at c.whole_values-passed.ensures)
    c.go_past.ensures.passed
