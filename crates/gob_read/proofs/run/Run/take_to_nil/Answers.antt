use Rattle.std.proofs.Common.{arith, refl, Err}
use Rattle.gob_read.proofs.Machine.Pieces.{come_start, come_on, come_end, come_open, come_all, ended_all, judge_stops}
use Rattle.gob_read.proofs.Machine.Pieces.{step_stops, end_stops}
use Rattle.gob_read.proofs.Machine.BasicPartSteps.{rest_some}
use Rattle.gob_read.proofs.Machine.Nils.{comes_to_nil, nil_stop_passed, never_passed, none_refused}
use Rattle.gob_read.proofs.run.Run.take_to_nil.Goals as goal

pub returns-in_err-judge-clause-came : goal.returns-in_err-judge-clause-came
returns-in_err-judge-clause-came g c = nil_stop_passed _ _ _ _ _ _ c.from_residual.result c.from_residual.ensures.1
    (judge_stops _ _ _ _ c.in_err-judge.field-0.0 (come_start c.args.piece.now) c.requires.room
    c.in_err-judge.ensures.judged)

pub returns-in_err-judge-clause-no_interface : goal.returns-in_err-judge-clause-no_interface
returns-in_err-judge-clause-no_interface g c = never_passed _ c.from_residual.result c.from_residual.ensures.1
    c.in_err-judge.ensures.no_interface

pub items-init : goal.items-init
items-init g c = record {
  come = come_start c.args.piece.now;
  opens = c.in_ok-judge.ensures.judged (g.S.Shapes.table c.args.shapes.now);
  clear = c.requires.clear;
}

pub returns-then-is_at_nil-clause-came : goal.returns-then-is_at_nil-clause-came
returns-then-is_at_nil-clause-came g c = comes_to_nil c.items.invariant.come c.items.invariant.opens
    c.if-is_at_nil.ensures c.items.invariant.clear

pub returns-then-used-piece-clause-came : goal.returns-then-used-piece-clause-came
returns-then-used-piece-clause-came g c = (come_all c.items.invariant.come c.items.invariant.opens (omega arith)).1

pub take_next-requires : goal.take_next-requires
take_next-requires g c = record {
  expected = refl;
  has_read = come_open c.requires.has_read c.items.invariant.come c.items.invariant.opens;
  some = omega (arith, rest_some c.args.piece.now c.items.used);
  room = (let m = c.items.invariant.come.more in let t = m.taken in let l = m.length_is in
      omega (arith, rest_some c.args.piece.now c.items.used));
}

pub returns-in_err-taken-clause-came : goal.returns-in_err-taken-clause-came
returns-in_err-taken-clause-came g c =
    nil_stop_passed _ _ _ _ _ _ c.from_residual-in_err-taken.result c.from_residual-in_err-taken.ensures.1
    (step_stops _ _ _ _ c.in_err-taken.field-0.0 c.items.invariant.come c.items.invariant.opens
    c.in_err-taken.ensures.taken)

pub returns-in_err-taken-clause-no_interface : goal.returns-in_err-taken-clause-no_interface
returns-in_err-taken-clause-no_interface g c =
    let i = c.items.invariant in
    let open_ = come_open c.requires.has_read i.come i.opens in
    never_passed _ c.from_residual-in_err-taken.result c.from_residual-in_err-taken.ensures.1
    (none_refused c.args.self.now _ (Err c.in_err-taken.field-0.0) open_ c.if-is_at_nil.ensures
    c.in_err-taken.ensures.taken
    c.in_err-taken.ensures.here)

pub returns-in_err-judge-in-ToNext-clause-came : goal.returns-in_err-judge-in-ToNext-clause-came
returns-in_err-judge-in-ToNext-clause-came g c =
    nil_stop_passed _ _ _ _ _ _ c.from_residual-in_err-judge-in-ToNext.result
    c.from_residual-in_err-judge-in-ToNext.ensures.1
    (judge_stops _ _ _ _ c.in_err-judge-in-ToNext.field-0.0 (come_on c.items.invariant.come c.items.invariant.opens
    c.in_ok-taken.ensures.taken c.in-ToNext.is) c.requires.room c.in_err-judge-in-ToNext.ensures.judged)

pub returns-in_err-judge-in-ToNext-clause-no_interface : goal.returns-in_err-judge-in-ToNext-clause-no_interface
returns-in_err-judge-in-ToNext-clause-no_interface g c = never_passed _ c.from_residual-in_err-judge-in-ToNext.result
    c.from_residual-in_err-judge-in-ToNext.ensures.1 c.in_err-judge-in-ToNext.ensures.no_interface

pub returns-in_err-finish-in-PastValue-clause-came : goal.returns-in_err-finish-in-PastValue-clause-came
returns-in_err-finish-in-PastValue-clause-came g c =
    nil_stop_passed _ _ _ _ _ _ c.from_residual-in_err-finish-in-PastValue.result
    c.from_residual-in_err-finish-in-PastValue.ensures.1
    (end_stops _ _ _ _ c.in_err-finish-in-PastValue.field-0.0
    (come_end c.items.invariant.come c.items.invariant.opens c.in_ok-taken.ensures.taken c.in-PastValue.is)
    c.in_err-finish-in-PastValue.ensures.ended)

pub returns-in_err-finish-in-PastValue-clause-no_interface : goal.returns-in_err-finish-in-PastValue-clause-no_interface
returns-in_err-finish-in-PastValue-clause-no_interface g c = never_passed _
    c.from_residual-in_err-finish-in-PastValue.result c.from_residual-in_err-finish-in-PastValue.ensures.1
    c.in_err-finish-in-PastValue.ensures.no_interface

pub returns-in-PastValue-clause-clear : goal.returns-in-PastValue-clause-clear
returns-in-PastValue-clause-clear g c = c.in_ok-taken.ensures.clear c.if-is_at_nil.ensures

pub returns-in-PastValue-clause-came : goal.returns-in-PastValue-clause-came
returns-in-PastValue-clause-came g c =
    ended_all (come_end c.items.invariant.come c.items.invariant.opens c.in_ok-taken.ensures.taken c.in-PastValue.is)
    c.in_ok-finish-in-PastValue.ensures.ended

pub items-preserved : goal.items-preserved
items-preserved g c = record {
  come = come_on c.items.invariant.come c.items.invariant.opens c.in_ok-taken.ensures.taken c.in-ToNext.is;
  opens = c.in_ok-judge-in-ToNext.ensures.judged (g.S.Shapes.table c.args.shapes.now);
  clear = c.in_ok-taken.ensures.clear c.if-is_at_nil.ensures;
}

pub returns-then-is_at_nil-2-clause-came : goal.returns-then-is_at_nil-2-clause-came
returns-then-is_at_nil-2-clause-came g c = comes_to_nil c.items.invariant.come c.items.invariant.opens
    c.if-is_at_nil-2.ensures c.items.invariant.clear

pub returns-clause-came : goal.returns-clause-came
returns-clause-came g c = (come_all c.items.invariant.come c.items.invariant.opens
    (let k = c.items.invariant.come.onward in omega arith)).1
