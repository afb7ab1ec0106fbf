use Rattle.std.proofs.Common.{arith}
use Rattle.gob_stream.specs.Bounds.{within_trees}
use Rattle.gob_salvage.specs.Keeping.{started_with}
use Rattle.gob_salvage.proofs.KeepingSteps.{kept_of}
use Rattle.gob_salvage.proofs.keeping.keep_stream.Goals as goal

pub items-init : goal.items-init
items-init c = let begun = c.in_ok-keeper.ensures in record {
  first = begun.first;
  keeping = begun.keeping c.args.bytes.now c.requires;
  later = rw begun.later tt;
}

pub go_on-requires-clause-keeping : goal.go_on-requires-clause-keeping
go_on-requires-clause-keeping c = (started_with c.items.invariant.first, c.items.invariant.keeping)

pub items-preserved : goal.items-preserved
items-preserved c =
    let S = started_with c.items.invariant.first in
    let on = c.in_ok-go_on.ensures S c.items.invariant.keeping in
    record { first = c.items.invariant.first; keeping = on.keeping; later = on.later c.items.invariant.later }

pub items-smaller : goal.items-smaller
items-smaller c =
    let S = started_with c.items.invariant.first in
    let on = c.in_ok-go_on.ensures S c.items.invariant.keeping in
    let further = on.further in let within = on.keeping.within in omega arith

pub returns : goal.returns
returns c = kept_of _ c.args.bytes.now c.items.invariant.keeping c.items.invariant.later (omega arith)
