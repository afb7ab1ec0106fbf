use Rattle.std.proofs.lemmas.Result.{IfOk-weaker}
use Rattle.gob_c.proofs.wanted.wanted_of_source.Goals as goal

pub returns : goal.returns
returns c =
    IfOk-weaker c.zero_behind.result _ _ (λ wanted made. record {
      writer = c.in_ok-writer.writer.value;
      opened = c.in_ok-writer.ensures;
      zero = made;
    }) c.zero_behind.ensures
