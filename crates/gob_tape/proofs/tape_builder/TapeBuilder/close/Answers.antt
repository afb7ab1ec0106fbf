use Rattle.std.proofs.lemmas.List.{reverse-append, append-nil, length-reverse}
use Rattle.std.proofs.Common.{arith, ap, reverse, ◌∙◌, sym, refl, ◌∷◌, []}
use Rattle.gob_tape.specs.Machine.View.{state_of}
use Rattle.gob_tape.specs.Machine.State.{with_begun, counted}
use Rattle.gob_tape.proofs.ReceivedLaws.{leave_told, none_left}
use Rattle.gob_tape.proofs.tape_builder.TapeBuilder.close.Goals as goal

pub returns-in-Some-clause-told : goal.returns-in-Some-clause-told
returns-in-Some-clause-told c = λ us held a.
    let s = c.args.self.now in
    let o = c.in-Some.begun in
    let rest = c.pop.new.self.items in
    leave_told o (reverse rest) (ap reverse c.in-Some.ensures.items
    ∙ reverse-append rest (o ∷ [])) (omega (arith, s.nodes.ok.0, s.nodes.small))
    (λ x h. c.count.ensures.state ∙ ap (λ t. with_begun t (counted t.begun)) (c.end.ensures.state x h)) refl a

pub returns-in_default-clause-told : goal.returns-in_default-clause-told
returns-in_default-clause-told c = λ us held a.
    let s = c.args.self.now in
    let rest = c.pop.new.self.items in
    none_left (omega (arith, length-reverse s.begun.items, s.begun.ok.0, c.in_default.ensures.cases))
    (ap (λ b. with_begun (state_of s) (reverse b)) (sym (c.in_default.ensures.items ∙ append-nil rest))) a
