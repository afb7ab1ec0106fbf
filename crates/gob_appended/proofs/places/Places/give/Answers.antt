use Rattle.std.proofs.Common.{arith}
use Rattle.gob_appended.proofs.CutLaws.{before_more}
use Rattle.gob_appended.proofs.places.Places.give.Goals as goal

pub invariant_of-self-clause-ordered : goal.invariant_of-self-clause-ordered
invariant_of-self-clause-ordered c =
    before_more c.args.self.now.given _ c.args.self.now.cuts.items (omega (arith, c.saturating_add-self.ensures))
    c.args.self.now.ordered
