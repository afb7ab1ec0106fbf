use Rattle.std.proofs.Common.{refl}
use Rattle.gob_read.proofs.Machine.ItemSteps.{begins_struct, begins_tagged, begun_stays}
use Rattle.gob_read.proofs.state.State.begin.Goals as goal
use Rattle.gob_read.proofs.state.State.begin.Goals.{then-has_structs, else-has_structs}

pub returns-in_default : goal.returns-in_default
returns-in_default g c = record {
  begun = begun_stays c.args.self.now.expected c.in_default.not-Top;
  builder = refl;
  stack = refl;
}

pub returns-clause-begun : goal.returns-clause-begun
returns-clause-begun g c =
    elim c.if-has_structs.branch [
      | then-has_structs w ↦ begins_struct c.has_structs.result c.in-Top.is c.has_structs.ensures w.if-has_structs.true
          w.item-is
      | else-has_structs w ↦ begins_tagged c.has_structs.result c.in-Top.is c.has_structs.ensures w.if-has_structs.false
          w.item-is
    ]
