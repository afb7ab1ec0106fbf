use Rattle.std.proofs.Common.{refl}
use Rattle.std.proofs.lemmas.Result.{err_from_is_err_and}
use Rattle.gob_go.specs.Machine.Stages.{no_memory_for_filling}
use Rattle.gob_go.proofs.NilSteps.{nil_before, nil_ends, nil_fits, nil_read, filling_steps}
use Rattle.gob_go.proofs.EndSteps.{fills_outer, as_held}
use Rattle.gob_go.proofs.levels.Levels.fill_outer.Goals as goal

pub returns-in_err-hold-clause-steps : goal.returns-in_err-hold-clause-steps
returns-in_err-hold-clause-steps c = λ all T offset z k e h.
    let p = err_from_is_err_and c.from_residual.result c.from_residual.ensures.1 in
    rw (p.1, p.2) no_memory_for_filling

pub fill-requires-clause-fits : goal.fill-requires-clause-fits
fill-requires-clause-fits c =
    nil_fits (fills_outer c.requires.popped c.requires.is.has_read
    (as_held c.in_ok-hold.ensures c.replace-inner.ensures.value c.replace-inner.ensures.after))

pub fill-requires-clause-clear : goal.fill-requires-clause-clear
fill-requires-clause-clear c =
    (fills_outer c.requires.popped c.requires.is.has_read
    (as_held c.in_ok-hold.ensures c.replace-inner.ensures.value c.replace-inner.ensures.after)).clear

pub fill-requires-clause-at_nil : goal.fill-requires-clause-at_nil
fill-requires-clause-at_nil c =
    (fills_outer c.requires.popped c.requires.is.has_read
    (as_held c.in_ok-hold.ensures c.replace-inner.ensures.value c.replace-inner.ensures.after)).at_nil

pub fill-requires-clause-order : goal.fill-requires-clause-order
fill-requires-clause-order c =
    nil_before (fills_outer c.requires.popped c.requires.is.has_read
    (as_held c.in_ok-hold.ensures c.replace-inner.ensures.value c.replace-inner.ensures.after)) c.requires.is.taken_is

pub fill-requires-clause-end : goal.fill-requires-clause-end
fill-requires-clause-end c =
    nil_ends (fills_outer c.requires.popped c.requires.is.has_read
    (as_held c.in_ok-hold.ensures c.replace-inner.ensures.value c.replace-inner.ensures.after)) c.requires.is.taken_is

pub fill-requires-clause-read : goal.fill-requires-clause-read
fill-requires-clause-read c =
    nil_read (fills_outer c.requires.popped c.requires.is.has_read
    (as_held c.in_ok-hold.ensures c.replace-inner.ensures.value c.replace-inner.ensures.after))

pub returns-clause-steps : goal.returns-clause-steps
returns-clause-steps c = λ all T offset z k e h.
    filling_steps _ c.fill.result (fills_outer k h
    (as_held c.in_ok-hold.ensures c.replace-inner.ensures.value c.replace-inner.ensures.after)) e c.fill.ensures refl
    refl
