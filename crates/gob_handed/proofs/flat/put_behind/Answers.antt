use Rattle.std.proofs.Common.{arith, ◌∙◌, ap, set}
use Rattle.gob_handed.specs.ValueNodes.{behind}
use Rattle.gob_handed.proofs.LeftLaws.{put_here}
use Rattle.gob_handed.proofs.flat.put_behind.Goals as goal

pub nodes-preserved : goal.nodes-preserved
nodes-preserved c =
    ap (λ n. set c.nodes.nodes c.nodes.place n) c.in_ok-nodes.ensures
    ∙ put_here (behind c.args.more) c.args.nodes.now c.nodes.nodes c.nodes.place _ (omega arith) c.nodes.invariant
