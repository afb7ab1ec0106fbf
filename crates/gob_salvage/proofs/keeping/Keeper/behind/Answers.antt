use Rattle.std.proofs.Common.{arith, refl}
use Rattle.gob_stream.specs.Bounds.{within_trees}
use Rattle.gob_salvage.specs.Keeping.{from_nothing}
use Rattle.gob_salvage.proofs.KeepingSteps.{front_kept, no_later}
use Rattle.gob_salvage.proofs.keeping.Keeper.behind.Goals as goal

pub front-init : goal.front-init
front-init c = record {
  keeping = c.in_ok-keeper.ensures.keeping c.args.front.now c.requires;
  later = rw c.in_ok-keeper.ensures.later tt;
}

pub go_on-requires-clause-keeping : goal.go_on-requires-clause-keeping
go_on-requires-clause-keeping c = (from_nothing (within_trees c.args.limits), c.front.invariant.keeping)

pub front-preserved : goal.front-preserved
front-preserved c =
    let on = c.in_ok-go_on.ensures (from_nothing (within_trees c.args.limits)) c.front.invariant.keeping in
    record { keeping = on.keeping; later = on.later c.front.invariant.later }

pub front-smaller : goal.front-smaller
front-smaller c =
    let on = c.in_ok-go_on.ensures (from_nothing (within_trees c.args.limits)) c.front.invariant.keeping in
    let further = on.further in let within = on.keeping.within in omega arith

pub returns : goal.returns
returns c =
    let all = c.has_definitions.ensures c.if-not-has_definitions.false in
    let f = front_kept c.front.invariant.keeping (omega arith) all.all all.only in
    record {
      first = f.0;
      keeping = f.1;
      later = no_later (from_nothing (within_trees c.args.limits)) c.args.front.now c.front.keeper
          c.front.invariant.later all.all;
    }
