use Rattle.std.proofs.Common.{refl, ◌∙◌, ◌++◌, ap}
use Rattle.gob_go_writer.proofs.WriterSteps.{item_put}
use Rattle.gob_go_writer.proofs.writer.GoWriter.put.Goals as goal

pub returns-clause-puts : goal.returns-clause-puts
returns-clause-puts c = λ items bytes h.
    item_put refl (c.in_ok-extend_from_slice.ensures.items
    ∙ ap (λ l. c.args.out.now.items ++ l) c.deref.ensures.value) (c.in_ok-read_back.ensures.read items bytes h.whole)
