use Rattle.std.proofs.Common.{arith}
use Rattle.gob_handed.proofs.HandoutLaws.{cut_back}
use Rattle.gob_handed.proofs.go.GoSessionHands.unfold.Goals as goal

pub returns-clause-kept : goal.returns-clause-kept
returns-clause-kept c =
    cut_back c.push_item.ensures.extends (omega (arith, c.len-before.ensures, c.args.out.now.ok.0))
    c.truncate.ensures.items
