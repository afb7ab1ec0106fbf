use Rattle.std.proofs.Common.{length}
use Rattle.gob_stream.proofs.Reader.FeedingSteps.{HasFedTo}
use Rattle.gob_stream.proofs.feeding.feed.Given as goal

abbrev pub invariant-steps : goal.invariant-steps
invariant-steps g l =
    let d = g.S.Steps.stepping in
    HasFedTo d l.fn.session l.session l.fn.out.items l.out.items l.piece l.rest × (¬ d.failed l.fn.session)

abbrev pub decreases-steps : goal.decreases-steps
decreases-steps g l = length l.rest
