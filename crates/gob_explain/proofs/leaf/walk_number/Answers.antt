-- No number stands there, or one that isn't allowed; else the sink is told of it.
use Rattle.std.proofs.Common.{arith, inl, inr}
use Rattle.gob_explain.proofs.WalkLaws.{in_range, number_failed, number_told, out_of_range, stops_none, stops_other}
use Rattle.gob_explain.proofs.WalkLaws.{told_nothing}
use Rattle.gob_explain.specs.Machine.Walking.{IsInRange}
use Rattle.gob_explain.proofs.leaf.walk_number.Goals as goal
use Rattle.gob_explain.proofs.leaf.walk_number.Goals.{then-number-allowed-via-then-number-allowed}
use Rattle.gob_explain.proofs.leaf.walk_number.Goals.{then-number-allowed-via-else-number-allowed+then-number-allowed-2}

pub returns-in_default-clause-walks : goal.returns-in_default-clause-walks
returns-in_default-clause-walks g c = λ T opens next a most way l k r. (
  opens,
  way,
  told_nothing g.O.RowSink.tells (g.met.O.RowSink.nothing _) l,
  stops_none most k.awaits (c.uint_at.ensures.none c.in_default.is),
  k.path,
)

pub returns-then-number-allowed-clause-walks : goal.returns-then-number-allowed-clause-walks
returns-then-number-allowed-clause-walks g c = λ T opens next a most way l k r. (
  opens,
  way,
  told_nothing g.O.RowSink.tells (g.met.O.RowSink.nothing _) l,
  stops_other most k.awaits c.in-Some.ensures.found (out_of_range a r c.in-Some.ensures.found.spelled
      (elim c.then-number-allowed.branch [
        | then-number-allowed-via-then-number-allowed w ↦ inl w.if-number-allowed.true
        | then-number-allowed-via-else-number-allowed+then-number-allowed-2 w ↦ inr w.if-number-allowed-2.true
      ])),
  k.path,
)

pub returns-in_err-put-clause-walks : goal.returns-in_err-put-clause-walks
returns-in_err-put-clause-walks g c = λ T opens next a most way l k r.
    let found = c.in-Some.ensures.found in
    number_failed g.O.RowSink.tells T c.args.body.now most opens c.args.at _ _ next
    (IsInRange c.args.allowed.least c.args.allowed.most c.args.body.now c.args.at) _ c.from_residual.result
    c.from_residual.ensures.1 (
      _,
      c.in-Some.end,
      way,
      number_told g.O.RowSink.tells c.in-Some.number c.args.at c.in-Some.end k found
          (in_range a r found.spelled (omega arith) (omega arith)) (c.in_err-put.ensures way),
    )

pub returns-clause-walks : goal.returns-clause-walks
returns-clause-walks g c = λ T opens next a most way l k r.
    let found = c.in-Some.ensures.found in (
      number_told g.O.RowSink.tells c.in-Some.number c.args.at c.in-Some.end k found
          (in_range a r found.spelled (omega arith) (omega arith)) (c.in_ok-put.ensures way),
      (found.order, omega arith, omega arith, found.spelled),
    )
