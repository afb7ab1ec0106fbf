use Rattle.std.proofs.Common.{arith}
use Rattle.gob_salvage.proofs.BehindLaws.{behind_kept}
use Rattle.gob_salvage.proofs.behind.move_behind.Goals as goal

pub loop-gap-preserved : goal.loop-gap-preserved
loop-gap-preserved c =
    behind_kept c.args.count c.args.gaps.now c.loop-gap.gaps c.loop-gap.gap-index _ c.gap_behind.result
    c.loop-gap.invariant (omega (arith, c.loop-gap-test.true)) c.gap_behind.ensures
