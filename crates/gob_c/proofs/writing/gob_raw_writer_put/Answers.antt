use Rattle.std.proofs.Common.{ap, sym, ◌∙◌}
use Rattle.std.specs.Prelude.{Some}
use Rattle.gob_c.specs.Writing.{PutTold}
use Rattle.gob_c.proofs.HeldLaws.{goes_on}
use Rattle.gob_c.proofs.writing.gob_raw_writer_put.Goals as goal

pub returns : goal.returns
returns c =
    goes_on (λ old new. PutTold old new c.args.text.now c.args.room.now c.of_putting.new.room c.of_putting.result)
    (c.taken-boxed.ensures ∙ ap Some (sym c.deref_mut.ensures.value)) c.give.ensures (record {
      answer = c.put-answer.result;
      says = c.of_putting.ensures;
      puts = c.put-answer.ensures.puts;
      making = c.put-answer.ensures.making;
      kept = c.put-answer.ensures.kept;
    })
