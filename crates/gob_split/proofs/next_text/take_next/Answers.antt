use Rattle.gob_stream.specs.declared.fault.Fault.TheVariants as reading
use Rattle.gob_split.proofs.NextLaws.{memory_stops, takes_at}
use Rattle.gob_split.proofs.next_text.take_next.Goals as goal

pub returns-in_err-pass_whole-clause-taken : goal.returns-in_err-pass_whole-clause-taken
returns-in_err-pass_whole-clause-taken c = λ read now given h.
    takes_at c.pass_whole.new.reader c.pass_whole.new.text reading.Memory c.from_residual.result
    c.from_residual.ensures.1 (memory_stops c.requires.so_far.stands.gives h)
