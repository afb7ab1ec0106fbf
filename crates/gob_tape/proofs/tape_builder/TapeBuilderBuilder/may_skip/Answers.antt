use Rattle.std.proofs.Common.{sym, true≢false}
use Rattle.gob_tape.proofs.tape_builder.TapeBuilderBuilder.may_skip.Goals as goal

pub returns : goal.returns
returns c = λ skips. absurd (true≢false (sym skips))
