use Rattle.std.proofs.Common.{[], arith, refl}
use Rattle.gob_split.specs.Machine.Cutting.{begun_some, not_begun}
use Rattle.gob_split.proofs.CutterLaws.{begins_at}
use Rattle.gob_split.proofs.cutter.begin.Goals as goal

pub returns-in_err-begin-clause-begun : goal.returns-in_err-begin-clause-begun
returns-in_err-begin-clause-begun g c = λ all old.
    begins_at c.args.defining.now all (g.P.Parts.are c.begin.new.self) c.from_residual.result c.from_residual.ensures.0
    (not_begun (c.in_err-begin.ensures.begun all old))

pub returns-in_err-send-clause-begun : goal.returns-in_err-send-clause-begun
returns-in_err-send-clause-begun g c = λ all old.
    let s = c.in_err-send.ensures.sent all [] (c.in_ok-begin.ensures.begun all old) in
    begins_at c.args.defining.now all (g.P.Parts.are c.send.new.self) c.from_residual-in_err-send.result
    c.from_residual-in_err-send.ensures.0 (begun_some s.prefix s.rest s.whole s.out)

pub returns-clause-begun : goal.returns-clause-begun
returns-clause-begun g c = λ all old. record {
  counts = record { bytes = omega arith; values = omega arith; done = λ is. absurd (cc is); not_done = λ is. refl };
  out = c.in_ok-send.ensures.sent all [] (c.in_ok-begin.ensures.begun all old);
}
