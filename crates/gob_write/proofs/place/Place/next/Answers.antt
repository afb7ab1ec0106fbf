use Rattle.std.proofs.Common.{arith}
use Rattle.gob_write.proofs.PlaceLaws.{behind_feed, behind_other}
use Rattle.gob_write.proofs.place.Place.next.Goals as goal

pub returns-then-byte-eq10 : goal.returns-then-byte-eq10
returns-then-byte-eq10 c =
    behind_feed c.args.self c.args.byte _ c.if-byte-eq10.true (omega (arith, c.saturating_add.ensures))

pub returns : goal.returns
returns c = behind_other c.args.self c.args.byte _ c.if-byte-eq10.false (omega (arith, c.saturating_add-2.ensures))
