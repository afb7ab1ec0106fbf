use Rattle.std.proofs.Common.{◌≡◌, ◌∙◌, ◌+◌, ◌∷◌, [], ◌++◌, length, ap, refl, subst, append_assoc}
use Rattle.gob_read.specs.Event.{raw_start, raw_more, leave}
use Rattle.std.proofs.lemmas.Result.{IfOk-from_err}
use Rattle.gob_tape.specs.Machine.View.{state_of}
use Rattle.gob_tape.specs.Machine.State.{with_pool}
use Rattle.gob_tape.specs.Machine.Received.{IsTapeOf}
use Rattle.gob_tape.proofs.ReceivedLaws.{start_told, more_told}
use Rattle.gob_tape.proofs.tape_builder.TapeBuilder.copy_raw.Goals as goal

pub returns : goal.returns
returns c = λ us t.
    let bytes = c.args.copied.now in
    let k = c.args.kind in
    let first = start_told k (c.len-first.ensures
    ∙ c.args.self.now.pool.ok.0) c.in_ok-open.ensures.state refl t.taped in
    let second = more_told bytes (ap (with_pool
    (state_of c.open.new.self)) c.in_ok-extend_from_slice.ensures.items) refl first in
    let third = c.close.ensures.told _ _ second in
    let all : ((us ++ raw_start k ∷ []) ++ raw_more bytes ∷ []) ++ leave ∷ [] ≡ us ++ (raw_start k ∷ (raw_more bytes ∷
    (leave ∷ []))) =
    append_assoc (us ++ raw_start k ∷ []) (raw_more bytes ∷ []) (leave ∷ [])
    ∙ append_assoc us (raw_start k ∷ []) (raw_more bytes ∷ (leave ∷ [])) in
    subst (IsTapeOf (state_of c.close.new.self)) all (record { held = t.held + 1 + length bytes; taped = third })

pub returns-in_err-open : goal.returns-in_err-open
returns-in_err-open c = IfOk-from_err c.from_residual.result _ c.from_residual.ensures.0

pub returns-in_err-extend_from_slice : goal.returns-in_err-extend_from_slice
returns-in_err-extend_from_slice c = IfOk-from_err c.from_residual-in_err-extend_from_slice.result _
    c.from_residual-in_err-extend_from_slice.ensures.0
