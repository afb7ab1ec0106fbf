use Rattle.std.proofs.Common.{ap, arith}
use Rattle.gob_stream.specs.Bounds.{within_trees}
use Rattle.gob_salvage.proofs.KeepingSteps.{keep_start}
use Rattle.gob_salvage.proofs.keeping.Keeper.new.Goals as goal

pub returns-clause-keeping : goal.returns-clause-keeping
returns-clause-keeping c = λ bytes small.
    keep_start bytes c.in_ok-session.ensures.has_read
    (ap (λ L. within_trees L) c.in_ok-session.ensures.limits) c.new-4.ensures.items c.new-5.ensures.items small
    (omega arith) c.new-2.ensures.items (ap (λ L. within_trees L) c.new-6.ensures.limits) c.new-6.ensures.noted
