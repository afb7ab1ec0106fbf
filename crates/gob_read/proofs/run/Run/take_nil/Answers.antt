use Rattle.std.proofs.Common.{◌∷◌, [], arith, refl}
use Rattle.gob_read.proofs.Machine.Pieces.{come_start, come_on, come_end, come_open, come_all, ended_all, judge_stops}
use Rattle.gob_read.proofs.Machine.Pieces.{step_stops, end_stops, stop_passed}
use Rattle.gob_read.proofs.Machine.Runs.{prefix_taken}
use Rattle.gob_read.proofs.run.Run.take_nil.Goals as goal

pub returns-in_err-judge-clause-came : goal.returns-in_err-judge-clause-came
returns-in_err-judge-clause-came g c = stop_passed _ _ _ _ _ _ c.from_residual.result c.from_residual.ensures.1
    (judge_stops _ _ _ _ c.in_err-judge.field-0.0 (come_start (0 ∷ [])) c.requires.room c.in_err-judge.ensures.judged)

pub take_zero-requires-clause-before : goal.take_zero-requires-clause-before
take_zero-requires-clause-before g c = record {
  expected = refl;
  has_read = come_open c.requires.has_read (come_start (0 ∷ []))
      (c.in_ok-judge.ensures.judged (g.S.Shapes.table c.args.shapes.now));
  some = omega arith;
  room = c.requires.room;
}

pub returns-in_err-moved-clause-came : goal.returns-in_err-moved-clause-came
returns-in_err-moved-clause-came g c =
    stop_passed _ _ _ _ _ _ c.from_residual-in_err-moved.result c.from_residual-in_err-moved.ensures.1
    (step_stops _ _ _ _ c.in_err-moved.field-0.0 (come_start (0 ∷ []))
    (c.in_ok-judge.ensures.judged (g.S.Shapes.table c.args.shapes.now)) c.in_err-moved.ensures.taken)

pub returns-in_err-judge-in-ToNext-clause-came : goal.returns-in_err-judge-in-ToNext-clause-came
returns-in_err-judge-in-ToNext-clause-came g c =
    stop_passed _ _ _ _ _ _ c.from_residual-in_err-judge-in-ToNext.result
    c.from_residual-in_err-judge-in-ToNext.ensures.1
    (judge_stops _ _ _ _ c.in_err-judge-in-ToNext.field-0.0
    (come_on (come_start (0 ∷ [])) (c.in_ok-judge.ensures.judged (g.S.Shapes.table c.args.shapes.now))
    (prefix_taken (0 ∷ []) [] refl refl (omega arith) c.in_ok-moved.ensures.taken) c.in-ToNext.is)
    c.requires.room c.in_err-judge-in-ToNext.ensures.judged)

pub returns-in_ok-judge-in-ToNext-clause-came : goal.returns-in_ok-judge-in-ToNext-clause-came
returns-in_ok-judge-in-ToNext-clause-came g c =
    rw c.in-ToNext.is
    (come_all (come_on (come_start (0 ∷ [])) (c.in_ok-judge.ensures.judged (g.S.Shapes.table c.args.shapes.now))
    (prefix_taken (0 ∷ []) [] refl refl (omega arith) c.in_ok-moved.ensures.taken) c.in-ToNext.is)
    (c.in_ok-judge-in-ToNext.ensures.judged (g.S.Shapes.table c.args.shapes.now)) (omega arith))

pub returns-in_err-finish-in-PastValue-clause-came : goal.returns-in_err-finish-in-PastValue-clause-came
returns-in_err-finish-in-PastValue-clause-came g c =
    stop_passed _ _ _ _ _ _ c.from_residual-in_err-finish-in-PastValue.result
    c.from_residual-in_err-finish-in-PastValue.ensures.1
    (end_stops _ _ _ _ c.in_err-finish-in-PastValue.field-0.0
    (come_end (come_start (0 ∷ [])) (c.in_ok-judge.ensures.judged (g.S.Shapes.table c.args.shapes.now))
    (prefix_taken (0 ∷ []) [] refl refl (omega arith) c.in_ok-moved.ensures.taken) c.in-PastValue.is)
    c.in_err-finish-in-PastValue.ensures.ended)

pub returns-in_ok-finish-in-PastValue-clause-came : goal.returns-in_ok-finish-in-PastValue-clause-came
returns-in_ok-finish-in-PastValue-clause-came g c =
    rw c.in-PastValue.is
    (ended_all (come_end (come_start (0 ∷ [])) (c.in_ok-judge.ensures.judged (g.S.Shapes.table c.args.shapes.now))
    (prefix_taken (0 ∷ []) [] refl refl (omega arith) c.in_ok-moved.ensures.taken) c.in-PastValue.is)
    c.in_ok-finish-in-PastValue.ensures.ended)
