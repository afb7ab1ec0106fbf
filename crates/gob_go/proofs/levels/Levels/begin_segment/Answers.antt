use Rattle.std.proofs.Common.{◌-◌, length, ap, ◌∙◌, arith}
use Rattle.std.specs.Prelude.{slice_get}
use Rattle.std.proofs.lemmas.Result.{err_from_is_err_and}
use Rattle.gob_go.specs.Machine.Parts.{of_outer}
use Rattle.gob_go.proofs.NextCountSteps.{outer_fault, some_at}
use Rattle.gob_go.proofs.levels.Levels.begin_segment.Goals as goal

pub within-requires : goal.within-requires
within-requires c = omega (arith, c.requires, c.end_around-end.ensures)

pub returns-in_err-within : goal.returns-in_err-within
returns-in_err-within c =
    let p = err_from_is_err_and c.from_residual.result c.from_residual.ensures.1 in
    let there = c.in-Some.ensures.value ∙ ap (λ ls. slice_get ls (length ls - 1)) c.deref.ensures.value in
    rw (p.1, p.2) (outer_fault c.in_err-within.field-0.0
    (some_at c.args.self.now.outer.items c.in-Some._outer.now there) c.end_around-end.ensures c.in_err-within.ensures)

pub overflow_add-self : goal.overflow_add-self
overflow_add-self c = omega (arith, c.in_ok-within.ensures)

pub returns : goal.returns
returns c =
    let there = c.in-Some.ensures.value ∙ ap (λ ls. slice_get ls (length ls - 1)) c.deref.ensures.value in
    of_outer (some_at c.args.self.now.outer.items c.in-Some._outer.now there)
    (omega (arith, c.in_ok-within.ensures, c.end_around-end.ensures))
