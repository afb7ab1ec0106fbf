use Rattle.std.proofs.lemmas.Result.{on_ok_weaker}
use Rattle.gob_go_writer.proofs.TidiedLaws.{definition_at, put_at}
use Rattle.gob_go_writer.proofs.tidy.item.tidy_item.Goals as goal

pub returns-in-Define : goal.returns-in-Define
returns-in-Define c = on_ok_weaker c.tidy_description.result (definition_at c.in-Define.is) c.tidy_description.ensures

pub returns-in-Put : goal.returns-in-Put
returns-in-Put c = on_ok_weaker c.tidy_value.result (put_at c.in-Put.is) c.tidy_value.ensures
