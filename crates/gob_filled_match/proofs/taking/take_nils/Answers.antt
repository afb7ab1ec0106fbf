use Rattle.gob_types.specs.Defined.{types}
use Rattle.gob_filled_match.proofs.TakingLaws.{not_yet}
use Rattle.gob_filled_match.proofs.taking.take_nils.Goals as goal

pub nils-init : goal.nils-init
nils-init c =
    (c.requires, λ u s. record { on = not_yet (types c.args.table.now) u c.args.numbered.now 0 _; stands = s })

pub take_nil-requires : goal.take_nil-requires
take_nil-requires c = c.nils.invariant.0
