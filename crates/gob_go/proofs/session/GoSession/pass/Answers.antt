use Rattle.std.proofs.Common.{[], ◌∷◌, true}
use Rattle.gob_num.proofs.PublicLaws.{bytes_each}
use Rattle.gob_filled.proofs.Contained.{item_stays}
use Rattle.gob_filled.specs.OutcomeLaws.{unfilled_item}
use Rattle.gob_go.proofs.ValuesSteps.{one_filled}
use Rattle.std.proofs.Common.{arith}
use Rattle.gob_go.proofs.session.GoSession.pass.Goals as goal

pub go_past-requires-clause-items : goal.go_past-requires-clause-items
go_past-requires-clause-items c =
    let bytes = bytes_each c.args.item.now (λ i. omega (arith, c.type_inv.item i)) in
    (unfilled_item c.requires.item.0 ∷ [], one_filled (item_stays bytes c.requires.item.1))

pub returns-clause-any : goal.returns-clause-any
returns-clause-any c =
    let bytes = bytes_each c.args.item.now (λ i. omega (arith, c.type_inv.item i)) in
    λ keep items z i a there. c.go_past.ensures.passed keep items z (unfilled_item i ∷ []) a
    (one_filled (item_stays bytes there))

pub returns-clause-passed : goal.returns-clause-passed
returns-clause-passed c = returns-clause-any c true
