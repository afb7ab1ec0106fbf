use Rattle.std.proofs.Common.{arith, ap}
use Rattle.gob_tape.specs.Machine.View.{state_of}
use Rattle.gob_tape.specs.Machine.State.{with_pool}
use Rattle.gob_tape.proofs.ReceivedLaws.{more_told}
use Rattle.gob_tape.proofs.tape_builder.TapeBuilderBuilder.raw_more.Goals as goal

pub returns : goal.returns
returns c = record {
  each = λ us a. more_told c.args.bytes.now (ap (with_pool (state_of c.args.self.now))
      c.in_ok-extend_from_slice.ensures.items) (omega arith) a;
}
