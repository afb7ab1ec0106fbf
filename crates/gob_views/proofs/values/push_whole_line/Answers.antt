use Rattle.std.proofs.Common.{◌≡◌, ap, arith, min}
use Rattle.gob_types.specs.Defined.{types}
use Rattle.gob_stream.specs.Bounds.{greatest_depth}
use Rattle.gob_go.specs.Calls.Reader.{session_of}
use Rattle.gob_go.specs.Calls.Session.{limits_of}
use Rattle.gob_views.proofs.PlainLaws.{whole_line}
use Rattle.gob_views.proofs.values.push_whole_line.Goals as goal

pub push_body_line-requires-clause-depth : goal.push_body_line-requires-clause-depth
push_body_line-requires-clause-depth c = omega (arith, c.min-depth.ensures)

pub push_body_line-requires-clause-style : goal.push_body_line-requires-clause-style
push_body_line-requires-clause-style c = c.style_of.ensures (rw c.deref.ensures.value c.in_ok-taken.ensures)

pub returns-then-made : goal.returns-then-made
returns-then-made c =
    let limits = rw c.limits.ensures at c.depth.ensures.depth in
    let deep : c.min-depth.result ≡ min (limits_of (session_of c.args.reader.now)).depth greatest_depth =
    omega (arith, limits, c.min-depth.ensures) in
    whole_line c.in-Some.ensures.between c.in-Some.ensures.body (ap (λ d. types d) c.table.ensures) deep
    (rw c.if-made.true at c.in_ok-made.ensures)
