use Rattle.std.proofs.Common.{◌≡◌, ap, arith, min}
use Rattle.gob_types.specs.Defined.{types}
use Rattle.gob_stream.specs.Bounds.{greatest_depth}
use Rattle.gob_go.specs.Calls.Reader.{session_of}
use Rattle.gob_go.specs.Calls.Session.{limits_of}
use Rattle.gob_views.proofs.TypeRuns.{waits_whole}
use Rattle.gob_views.proofs.types.waiting_value.Goals as goal

pub returns : goal.returns
returns c =
    let limits = rw c.limits.ensures at c.depth.ensures.depth in
    let deep : c.min-depth.result ≡ min (limits_of (session_of c.args.reader.now)).depth greatest_depth =
    omega (arith, limits, c.min-depth.ensures) in
    waits_whole c.in_ok-whole.ensures.between c.in_ok-whole.ensures.body (ap (λ d. types d) c.table.ensures) deep
    (c.is_whole.ensures c.if-not-is_whole.false)
