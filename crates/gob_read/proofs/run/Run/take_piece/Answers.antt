use Rattle.std.proofs.Common.{arith, refl}
use Rattle.gob_read.proofs.Machine.Pieces.{come_start, come_on, come_end, come_open, come_all, ended_all, judge_stops}
use Rattle.gob_read.proofs.Machine.Pieces.{step_stops, end_stops, stop_passed}
use Rattle.gob_read.proofs.Machine.BasicPartSteps.{rest_some}
use Rattle.gob_read.proofs.run.Run.take_piece.Goals as goal

pub returns-in_err-judge : goal.returns-in_err-judge
returns-in_err-judge g c = stop_passed _ _ _ _ _ _ c.from_residual.result c.from_residual.ensures.1
    (judge_stops _ _ _ _ c.in_err-judge.field-0.0 (come_start c.args.piece.now) c.requires.room
    c.in_err-judge.ensures.judged)

pub items-init : goal.items-init
items-init g c = record {
  come = come_start c.args.piece.now;
  opens = c.in_ok-judge.ensures.judged (g.S.Shapes.table c.args.shapes.now);
}

pub returns-then-used-piece : goal.returns-then-used-piece
returns-then-used-piece g c = come_all c.items.invariant.come c.items.invariant.opens (omega arith)

pub take_next-requires : goal.take_next-requires
take_next-requires g c = record {
  expected = refl;
  has_read = come_open c.requires.has_read c.items.invariant.come c.items.invariant.opens;
  some = omega (arith, rest_some c.args.piece.now c.items.used);
  room = (let m = c.items.invariant.come.more in let t = m.taken in let l = m.length_is in
      omega (arith, rest_some c.args.piece.now c.items.used));
}

pub returns-in_err-taken : goal.returns-in_err-taken
returns-in_err-taken g c =
    stop_passed _ _ _ _ _ _ c.from_residual-in_err-taken.result c.from_residual-in_err-taken.ensures.1
    (step_stops _ _ _ _ c.in_err-taken.field-0.0 c.items.invariant.come c.items.invariant.opens
    c.in_err-taken.ensures.taken)

pub returns-in-PastValue : goal.returns-in-PastValue
returns-in-PastValue g c =
    ended_all (come_end c.items.invariant.come c.items.invariant.opens c.in_ok-taken.ensures.taken c.in-PastValue.is)
    c.in_ok-finish-in-PastValue.ensures.ended

pub returns-in_err-finish-in-PastValue : goal.returns-in_err-finish-in-PastValue
returns-in_err-finish-in-PastValue g c =
    stop_passed _ _ _ _ _ _ c.from_residual-in_err-finish-in-PastValue.result
    c.from_residual-in_err-finish-in-PastValue.ensures.1
    (end_stops _ _ _ _ c.in_err-finish-in-PastValue.field-0.0 (come_end c.items.invariant.come c.items.invariant.opens
    c.in_ok-taken.ensures.taken c.in-PastValue.is) c.in_err-finish-in-PastValue.ensures.ended)

pub returns-in_err-judge-in-ToNext : goal.returns-in_err-judge-in-ToNext
returns-in_err-judge-in-ToNext g c =
    stop_passed _ _ _ _ _ _ c.from_residual-in_err-judge-in-ToNext.result
    c.from_residual-in_err-judge-in-ToNext.ensures.1
    (judge_stops _ _ _ _ c.in_err-judge-in-ToNext.field-0.0 (come_on c.items.invariant.come c.items.invariant.opens
    c.in_ok-taken.ensures.taken c.in-ToNext.is) c.requires.room c.in_err-judge-in-ToNext.ensures.judged)

pub items-preserved : goal.items-preserved
items-preserved g c = record {
  come = come_on c.items.invariant.come c.items.invariant.opens c.in_ok-taken.ensures.taken c.in-ToNext.is;
  opens = c.in_ok-judge-in-ToNext.ensures.judged (g.S.Shapes.table c.args.shapes.now);
}

pub returns : goal.returns
returns g c = come_all c.items.invariant.come c.items.invariant.opens (let k = c.items.invariant.come.onward in
    omega arith)
