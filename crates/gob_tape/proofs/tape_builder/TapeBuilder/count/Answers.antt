use Rattle.std.proofs.Common.{arith, rules, ◌<◌, ◌-◌, ap, refl, vec_len}
use Rattle.gob_tape.specs.Machine.View.{state_of}
use Rattle.gob_tape.specs.Machine.State.{with_begun}
use Rattle.gob_tape.proofs.BegunLaws.{last_counted}
use Rattle.gob_tape.proofs.tape_builder.TapeBuilder.count.Goals as goal

pub returns-in-Some-clause-state : goal.returns-in-Some-clause-state
returns-in-Some-clause-state c =
    let s = c.args.self.now in
    let some : 0 < vec_len s.begun = search rules in
    ap (with_begun (state_of s))
    (last_counted s.begun.items (vec_len s.begun - 1) c.in-Some.begun.now
    (record { node = c.in-Some.begun.now.node; parts = c.saturating_add-begun.result })
    (omega (arith, s.begun.ok.0)) c.in-Some.ensures.value refl c.saturating_add-begun.ensures)
