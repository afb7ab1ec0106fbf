use Rattle.std.proofs.Common.{◌≡◌, Err, refl, rules}
use Rattle.gob_stream.specs.Calls.Ends.{failed_writes}
use Rattle.gob_tool.specs.declared.fault.ToolFault.TheVariants as fault
use Rattle.gob_convert.specs.declared.fault.ConvertFault.TheVariants as stop
use Rattle.gob_convert.proofs.ConvertingLaws.{ended_writes}
use Rattle.gob_convert.specs.Faults.{ends_so, flush_fails}
use Rattle.gob_convert.proofs.run.end_conversion.Goals as goal

pub returns-then-matches-clause-ends : goal.returns-then-matches-clause-ends
returns-then-matches-clause-ends g c = ends_so refl

pub returns-in-Ok-clause-ends : goal.returns-in-Ok-clause-ends
returns-in-Ok-clause-ends g c = flush_fails c.in-Ok.is refl

pub returns-in_default-answer-clause-ends : goal.returns-in_default-answer-clause-ends
returns-in_default-answer-clause-ends g c = ends_so refl

pub returns-in_default-answer-2-clause-ends : goal.returns-in_default-answer-2-clause-ends
returns-in_default-answer-2-clause-ends g c = ends_so refl

pub returns-in_default-answer-2-clause-writes : goal.returns-in_default-answer-2-clause-writes
returns-in_default-answer-2-clause-writes g c = λ failures h.
    let other : c.args.answer ≡ Err (stop.Run fault.Write) → ⊥ = search rules in
    ended_writes failures (failed_writes c.args.output.now) (failed_writes c.flush-flushed.new.self)
    c.flush-flushed.result c.args.answer c.requires other (λ e. cc) c.flush-flushed.ensures.counted h
