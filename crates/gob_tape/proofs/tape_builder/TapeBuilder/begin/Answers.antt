use Rattle.std.proofs.Common.{◌+◌, refl}
use Rattle.std.proofs.lemmas.Result.{on_ok_weaker}
use Rattle.gob_tape.proofs.ReceivedLaws.{number_told, group_told}
use Rattle.gob_tape.proofs.tape_builder.TapeBuilder.begin.Goals as goal

pub returns-in-Number : goal.returns-in-Number
returns-in-Number c =
    let w = c.in-Number in
    on_ok_weaker c.add.result
    (λ e p. rw w.is (λ us t. record {
      held = t.held + 1;
      taped = number_told w.kind w.first w.second e c.add.ensures.small refl t.taped;
    })) c.add.ensures.state

pub returns-in-Group : goal.returns-in-Group
returns-in-Group c =
    let w = c.in-Group in
    on_ok_weaker c.open.result (λ e p. rw w.is (λ us t. record {
      held = t.held + 1;
      taped = group_told w.kind e refl t.taped;
    })) c.open.ensures.state
