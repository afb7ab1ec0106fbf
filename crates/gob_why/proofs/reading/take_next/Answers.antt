-- A value that stands whole is passed, and what comes with a step is kept.
use Rattle.std.proofs.Common.{◌≡◌, ◌+◌, ap, arith, []}
use Rattle.gob_stream.specs.declared.fault.Fault.TheVariants as reading
use Rattle.gob_explain.specs.Machine.Putting.{puts_nothing}
use Rattle.gob_tool.specs.Machine.Counting.{given_count}
use Rattle.gob_why.proofs.KeepingLaws.{item_next, keeps_at, kept_step, no_memory_next, nothing_given, passes_kept}
use Rattle.gob_why.proofs.KeepingLaws.{step_fits, step_stops_kept, value_fits}
use Rattle.gob_why.proofs.reading.take_next.Goals as goal

pub pass-requires-clause-between : goal.pass-requires-clause-between
pass-requires-clause-between g c =
    let v = rw c.in-Some.is at c.value_next.ensures in v.between

pub pass-requires-clause-item : goal.pass-requires-clause-item
pass-requires-clause-item g c =
    let v = rw c.in-Some.is at c.value_next.ensures in item_next v

pub returns-in_err-pass_value-clause-kept : goal.returns-in_err-pass_value-clause-kept
returns-in_err-pass_value-clause-kept g c =
    let p = c.in_err-pass_value.ensures.put in record {
      text = p.text;
      put = p.put;
      holds = λ bytes text h. keeps_at _ _ c.args.kept.now.items _ bytes c.args.waits.now _ _ _
          c.from_residual.result reading.Memory c.from_residual.ensures.1
          (no_memory_next _ c.args.session.now c.pass.new.self c.args.kept.now.items c.args.kept.now.items bytes
          c.args.waits.now _ [] _ 0 text p.text c.pass.ensures.limits p.holds h);
    }

pub overflow_add-kept : goal.overflow_add-kept
overflow_add-kept g c =
    let v = rw c.in-Some.is at c.value_next.ensures in
    omega (
      arith,
      value_fits v c.pass.ensures.limits c.requires.limits c.requires.read.has c.pass.ensures.passed,
      c.in_ok-pass_value.ensures.items,
    )

pub returns-in-Some-clause-kept : goal.returns-in-Some-clause-kept
returns-in-Some-clause-kept g c =
    let v = rw c.in-Some.is at c.value_next.ensures in
    let p = rw c.table.ensures at c.in_ok-pass_value.ensures.put in record {
      text = p.text;
      put = p.put;
      holds = λ bytes text h. passes_kept _ c.args.session.now c.pass.new.self c.args.kept.now.items _ bytes
          c.args.waits.now _ _ text _ _ p.text v c.pass.ensures.limits c.requires.limits
          (ap (λ n. n + 1) c.in_ok-pass_value.ensures.items) h c.pass.ensures.passed
          c.pass.ensures.between p.holds;
    }

pub returns-in_err-step-clause-kept : goal.returns-in_err-step-clause-kept
returns-in_err-step-clause-kept g c =
    let e = c.in_err-step.field-0.0 in record {
      text = [];
      put = puts_nothing g.O.TextOut.puts g.met.O.TextOut.nothing c.args.lines.now.out c.args.lines.now.fault;
      holds = λ bytes text h. keeps_at _ _ c.args.kept.now.items _ bytes c.args.waits.now _ _ _
          c.from_residual-in_err-step.result e c.from_residual-in_err-step.ensures.1
          (step_stops_kept _ c.args.session.now c.step.new.self c.args.kept.now.items c.args.kept.now.items bytes
          c.args.waits.now _ _ text e c.in_err-step.ensures.limits h
          (c.in_err-step.ensures.advances h.given bytes h.gave));
    }

pub returns-in_err-gone_on-clause-kept : goal.returns-in_err-gone_on-clause-kept
returns-in_err-gone_on-clause-kept g c =
    let p = rw c.in_err-gone_on.was at c.go_on-gone_on.ensures.put in record {
      text = p.text;
      put = p.put;
      holds = λ bytes text h. keeps_at _ _ c.args.kept.now.items _ bytes c.args.waits.now _ _ _
          c.from_residual-in_err-gone_on.result reading.Memory c.from_residual-in_err-gone_on.ensures.1
          (no_memory_next _ c.args.session.now c.step.new.self c.args.kept.now.items c.args.kept.now.items bytes
          c.args.waits.now _ [] _ 0 text p.text c.in_ok-step.ensures.limits
          (nothing_given _ _ c.in_ok-step.step.item _ _ _ _ _ _ p.text p.holds) h);
    }

pub overflow_add-kept-2 : goal.overflow_add-kept-2
overflow_add-kept-2 g c =
    let h = c.requires.read.has in
    let more : c.go_on-gone_on.new.self.items + c.count_given-given.result
    ≡ c.args.kept.now.items + given_count c.in_ok-step.step.item =
    omega (arith, c.go_on-gone_on.ensures.items, c.count_given-given.ensures) in
    omega (
      arith,
      step_fits c.in_ok-step.ensures.limits c.requires.limits more h
          (c.in_ok-step.ensures.advances h.given c.requires.read.bytes h.gave),
    )

pub returns-clause-kept : goal.returns-clause-kept
returns-clause-kept g c =
    let p = rw (c.in_ok-gone_on.was, c.table-2.ensures) at c.go_on-gone_on.ensures.put in record {
      text = p.text;
      put = p.put;
      holds = λ bytes text h. kept_step _ c.args.session.now c.step.new.self c.args.kept.now.items _ bytes
          c.args.waits.now _ _ text _ _ p.text c.in_ok-step.step.used c.in_ok-step.step.item
          c.in_ok-step.ensures.limits c.requires.limits c.requires.some
          (omega (arith, c.go_on-gone_on.ensures.items, c.count_given-given.ensures)) h c.in_ok-step.ensures.between
          p.holds
          (c.in_ok-step.ensures.advances h.given bytes h.gave);
    }
