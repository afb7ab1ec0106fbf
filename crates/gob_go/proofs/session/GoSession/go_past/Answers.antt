use Rattle.std.proofs.Common.{arith, refl}
use Rattle.gob_num.proofs.PublicLaws.{bytes_each}
use Rattle.gob_go.proofs.WholeSteps.{filled_within, passed, usable_behind}
use Rattle.gob_go.proofs.session.GoSession.go_past.Goals as goal

pub returns-clause-passed : goal.returns-clause-passed
returns-clause-passed c =
    let between = rw (← c.self.view_is) at c.requires.between in
    let most = c.stream-most.ensures.limits.stream in
    let bytes = bytes_each c.args.items.now (λ i. omega (arith, c.type_inv.items i)) in
    rw (← c.self.view_is) (λ keep. passed between (omega arith) bytes c.new.ensures refl)

pub invariant_of-self : goal.invariant_of-self
invariant_of-self c =
    let between = rw (← c.self.view_is) at c.requires.between in
    let items = rw (← c.self.view_is) at c.requires.items in
    let most = c.stream-most.ensures.limits.stream in
    let bytes = bytes_each c.args.items.now (λ i. omega (arith, c.type_inv.items i)) in
    usable_behind between items (λ keep. passed between (omega arith) bytes c.new.ensures refl) c.self.invariant

pub overflow_add-self : goal.overflow_add-self
overflow_add-self c =
    let items = rw (← c.self.view_is) at c.requires.items in
    let within = filled_within items.1 in
    omega (arith, c.stream-most.ensures.stream, c.stream-most.ensures.limits.stream)
