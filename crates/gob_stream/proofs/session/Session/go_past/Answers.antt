use Rattle.std.proofs.Common.{refl, arith}
use Rattle.gob_stream.proofs.Stream.StreamLaws.{items_within}
use Rattle.gob_stream.proofs.Reader.WholeSteps.{passed, usable_behind}
use Rattle.gob_stream.proofs.session.Session.go_past.Goals.{in-Count, in_default}
use Rattle.gob_stream.proofs.session.Session.go_past.Goals as goal

pub returns-clause-passed : goal.returns-clause-passed
returns-clause-passed g c =
    let between = rw (← c.self.view_is) at c.requires.between in
    rw (← c.self.view_is) (elim c.match-self.branch [
      | in-Count w ↦ rw w.self-inside-is (passed between w.in-Count.is refl)
      | in_default w ↦ absurd (w.in_default.not-Count _ between.stage)
    ])

pub invariant_of-self : goal.invariant_of-self
invariant_of-self g c =
    let between = rw (← c.self.view_is) at c.requires.between in
    let items = rw (← c.self.view_is) at c.requires.items in
    elim c.match-self.branch [
      | in-Count w ↦ rw w.self-inside-is (usable_behind between items (passed between w.in-Count.is refl)
          c.self.invariant)
      | in_default w ↦ absurd (w.in_default.not-Count _ between.stage)
    ]

pub overflow_add-self : goal.overflow_add-self
overflow_add-self g c =
    let items = rw (← c.self.view_is) at c.requires.items in
    let within = items_within items.are in
    omega (arith, items.size, c.stream-most.ensures.stream, c.stream-most.ensures.limits.stream)
