use Rattle.std.proofs.Common.{ap, true, Option, Some, None, IfSome}
use Rattle.gob_stream.specs.declared.whole.Awaited.{Awaited}
use Rattle.gob_go.specs.Meaning.{ItemMeans}
use Rattle.gob_go.proofs.SessionAnswers.{gives_no_more}
use Rattle.gob_go.proofs.steps.GoSessionSteps.awaited.Goals as goal

-- between two items, whatever is awaited
held : {P : Type 0} (o : Option Awaited) → P → IfSome o (λ a. P)
held None between = tt
held (Some a) between = between

pub returns-clause-given : goal.returns-clause-given
returns-clause-given c =
    let limits = ap (λ s. s.limits) c.self.view_is in
    let table = ap (λ s. s.types) c.self.view_is in
    let taken = ap (λ s. s.taken) c.self.view_is in
    gives_no_more true (λ T g i. ItemMeans T g i) c.args.self.now c.args.piece.now c.awaited_value.result
    (held c.awaited_value.result (c.is_between.ensures.between c.if-not-is_between.false))
    (rw (limits, table, taken) at c.awaited_value.ensures)
