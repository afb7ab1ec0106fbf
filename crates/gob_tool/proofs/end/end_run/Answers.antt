use Rattle.std.proofs.Common.{◌≡◌, Err, inr, refl, rules}
use Rattle.gob_stream.specs.Calls.Ends.{failed_writes, is_unflushed}
use Rattle.gob_tool.specs.declared.fault.ToolFault.TheVariants as fault
use Rattle.gob_tool.proofs.EndLaws.{flushed_so, write_rose}
use Rattle.gob_tool.specs.Ending.{ends_so, flush_fails}
use Rattle.gob_tool.proofs.end.end_run.Goals as goal

pub returns-then-matches-clause-ends : goal.returns-then-matches-clause-ends
returns-then-matches-clause-ends g c = ends_so refl

pub returns-in-Ok-clause-ends : goal.returns-in-Ok-clause-ends
returns-in-Ok-clause-ends g c = flush_fails c.in-Ok.is refl

pub returns-in_default-answer-clause-ends : goal.returns-in_default-answer-clause-ends
returns-in_default-answer-clause-ends g c = ends_so refl

pub returns-in_default-answer-2-clause-ends : goal.returns-in_default-answer-2-clause-ends
returns-in_default-answer-2-clause-ends g c = ends_so refl

pub returns-then-matches-clause-flushed : goal.returns-then-matches-clause-flushed
returns-then-matches-clause-flushed g c = λ failures h.
    let failed : c.args.answer ≡ Err fault.Write = search rules in
    inr (write_rose failures (failed_writes c.args.output.now) c.args.answer failed h)

pub returns-in-Ok-clause-flushed : goal.returns-in-Ok-clause-flushed
returns-in-Ok-clause-flushed g c = λ failures h.
    let other : c.args.answer ≡ Err fault.Write → ⊥ = search rules in
    flushed_so c.flush-flushed.result c.args.answer failures (failed_writes c.args.output.now)
    (failed_writes c.flush-flushed.new.self) (is_unflushed c.args.output.now) (is_unflushed c.flush-flushed.new.self)
    c.flush-flushed.ensures.noted c.flush-flushed.ensures.counted other h

pub returns-in_default-answer-clause-flushed : goal.returns-in_default-answer-clause-flushed
returns-in_default-answer-clause-flushed g c = λ failures h.
    let other : c.args.answer ≡ Err fault.Write → ⊥ = search rules in
    flushed_so c.flush-flushed.result c.args.answer failures (failed_writes c.args.output.now)
    (failed_writes c.flush-flushed.new.self) (is_unflushed c.args.output.now) (is_unflushed c.flush-flushed.new.self)
    c.flush-flushed.ensures.noted c.flush-flushed.ensures.counted other h

pub returns-in_default-answer-2-clause-flushed : goal.returns-in_default-answer-2-clause-flushed
returns-in_default-answer-2-clause-flushed g c = λ failures h.
    let other : c.args.answer ≡ Err fault.Write → ⊥ = search rules in
    flushed_so c.flush-flushed.result c.args.answer failures (failed_writes c.args.output.now)
    (failed_writes c.flush-flushed.new.self) (is_unflushed c.args.output.now) (is_unflushed c.flush-flushed.new.self)
    c.flush-flushed.ensures.noted c.flush-flushed.ensures.counted other h
