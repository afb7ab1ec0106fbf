use Rattle.std.proofs.Common.{subst, IsTrue}
use Rattle.gob_types.specs.Defined.{Defined, types}
use Rattle.gob_types.specs.Ready.{IsReady}
use Rattle.gob_types.proofs.table.Table.kept.Goals as goal

pub returns : goal.returns
returns c =
    let P : Defined → Type 0 = λ d. (IsTrue c.contains_at.result → IsReady (types d) c.args.id)
    × (IsReady (types d) c.args.id → IsTrue c.contains_at.result) in
    subst P c.self.view_is (
      λ yes. c.self.invariant.sound.each c.args.id (c.contains_at.ensures.0 yes),
      λ r. c.contains_at.ensures.1 (c.self.invariant.whole c.args.id r),
    )
