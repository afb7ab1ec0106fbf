-- The item is one of those that are gone past.
use Rattle.std.proofs.Common.{◌∷◌, [], arith}
use Rattle.gob_num.proofs.PublicLaws.{bytes_each}
use Rattle.gob_go.proofs.ValuesSteps.{told_item}
use Rattle.gob_go.proofs.SessionAnswers.{stands}
use Rattle.std.proofs.Common.{false}
use Rattle.gob_go.specs.GoStepping.{nothing_meant}
use Rattle.gob_go.proofs.passing.PassingSessionSteps.pass.Goals as goal

pub go_past-requires-clause-items : goal.go_past-requires-clause-items
go_past-requires-clause-items c =
    let bytes = bytes_each c.args.item.now (λ i. omega (arith, c.type_inv.item i)) in
    (c.requires.item.0 ∷ [], told_item false nothing_meant bytes (rw (← c.self.view_is) at c.requires.item.1))

pub returns-clause-passed : goal.returns-clause-passed
returns-clause-passed c =
    let bytes = bytes_each c.args.item.now (λ i. omega (arith, c.type_inv.item i)) in
    rw (← c.self.view_is) (λ items z i a there. c.go_past.ensures.passed false items z (i ∷ []) a
    (told_item false nothing_meant bytes there))

pub returns-clause-stands : goal.returns-clause-stands
returns-clause-stands c = stands false nothing_meant c.go_past.new.self
