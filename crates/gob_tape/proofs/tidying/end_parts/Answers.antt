use Rattle.std.proofs.Common.{◌≡◌, ◌-◌, length, take, ap, ◌∙◌, Some, None, [], ◌∷◌}
use Rattle.std.specs.Prelude.{slice_get}
use Rattle.gob_read.specs.Event.{leave}
use Rattle.gob_tape.specs.Machine.View.{state_of}
use Rattle.gob_tape.specs.Machine.Received.{TapeGoesOn}
use Rattle.gob_tape.proofs.TidyingLaws.{one_ended, ended_apart, ended_all}
use Rattle.gob_tape.proofs.tidying.end_parts.Goals as goal

pub ends-preserved : goal.ends-preserved
ends-preserved c =
    let xs = c.ends.stack.items in
    let o = c.in-Some.innermost in
    let g : slice_get xs (length xs - 1) ≡ Some o = cc
    (c.last.ensures.value, c.deref.ensures.value, c.copied.ensures, c.in-Some.is) in
    let closes : TapeGoesOn (state_of c.ends.builder) (state_of c.close.new.self)
    (leave ∷ []) = λ us t. record { held = t.held; taped = c.close.ensures.told us t.held t.taped } in
    one_ended xs c.pop.new.self.items o c.ends.invariant g c.if-innermost-place.false (c.pop.ensures.rest
    ∙ ap (λ n. take (n - 1) xs) c.ends.stack.ok.0) closes

pub returns-then-innermost-place : goal.returns-then-innermost-place
returns-then-innermost-place c =
    let xs = c.ends.stack.items in
    let o = c.in-Some.innermost in
    let g : slice_get xs (length xs - 1) ≡ Some o = cc
    (c.last.ensures.value, c.deref.ensures.value, c.copied.ensures, c.in-Some.is) in
    ended_apart xs o c.ends.invariant g c.if-innermost-place.true

pub returns-in_default : goal.returns-in_default
returns-in_default c =
    let xs = c.ends.stack.items in
    let g : slice_get xs (length xs - 1) ≡ None = cc
    (c.last.ensures.value, c.deref.ensures.value, c.copied.ensures, c.in_default.is) in
    ended_all xs c.ends.invariant g
