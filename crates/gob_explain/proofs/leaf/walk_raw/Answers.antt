-- Fewer bytes are there, or the sink is told of them.
use Rattle.std.proofs.Common.{◌+◌, refl, arith}
use Rattle.gob_explain.proofs.WalkLaws.{raw_failed, raw_told, stops_raw, told_nothing}
use Rattle.gob_explain.proofs.leaf.walk_raw.Goals as goal

pub returns-then-count-saturating_sub : goal.returns-then-count-saturating_sub
returns-then-count-saturating_sub g c = λ T opens next most way l some k. (
  opens,
  way,
  told_nothing g.O.RowSink.tells (g.met.O.RowSink.nothing _) l,
  stops_raw most k.awaits (omega (arith, c.saturating_sub.ensures)),
  k.path,
)

pub returns-in_err-put : goal.returns-in_err-put
returns-in_err-put g c = λ T opens next most way l some k.
    raw_failed g.O.RowSink.tells T c.args.body.now most opens c.args.at c.args.count _ _ next _ c.from_residual.result
    c.from_residual.ensures.1 (
      _,
      c.args.at + c.args.count,
      way,
      raw_told g.O.RowSink.tells c.args.count c.args.at (c.args.at + c.args.count) k some refl
          (omega (arith, c.saturating_sub.ensures)) (c.in_err-put.ensures way),
    )

pub returns : goal.returns
returns g c = λ T opens next most way l some k. (
  raw_told g.O.RowSink.tells c.args.count c.args.at (c.args.at + c.args.count) k some refl
      (omega (arith, c.saturating_sub.ensures)) (c.in_ok-put.ensures way),
  refl,
)
