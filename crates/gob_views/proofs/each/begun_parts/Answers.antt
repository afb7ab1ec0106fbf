-- The item has begun so.
use Rattle.gob_go.specs.Calls.Reader.{session_of, waits_in}
use Rattle.gob_go.specs.Calls.Session.{taken_of}
use Rattle.gob_views.proofs.EachLaws.{has_begun}
use Rattle.gob_views.proofs.each.begun_parts.Goals as goal

pub returns-clause-begun : goal.returns-clause-begun
returns-clause-begun c = λ behind.
    let r = c.args.reader.now in
    let printed = rw c.table-table.ensures at (c.in_ok-is_chosen_bare.ensures c.if-not-branch.false) in
    has_begun {offset = taken_of (session_of r)} c.in-Some.awaited.id c.in-Some-parts_depth.depth (waits_in r)
    c.in-Some-parts_ahead.parts c.in-Some.ensures.begun (rw (c.table-table.ensures, c.bytes.ensures) at
    c.in-Some-parts_ahead.ensures) c.if-not-lines.false printed.0 printed.1 (rw c.limits.ensures at
    c.in-Some-parts_depth.ensures) behind
