use Rattle.std.proofs.Common.{None, [], ◌∷◌}
use Rattle.std.proofs.lemmas.Result.{IfOk-from_err}
use Rattle.gob_tape.specs.Seeing.{one_more, no_more}
use Rattle.gob_tape.proofs.tape.Tape.to_value.Goals as goal

pub returns : goal.returns
returns c = rw (← c.self.view_is) (λ v m.
    let whole = c.in_ok-parts.ensures ((None, v) ∷ [])
    (one_more (rw (c.deref.ensures.value, c.deref-2.ensures.value) m.parts) no_more) in
    (c.take_part-value.ensures None v [] whole).value)

pub returns-in_err-parts : goal.returns-in_err-parts
returns-in_err-parts c = IfOk-from_err c.from_residual.result _ c.from_residual.ensures.0
