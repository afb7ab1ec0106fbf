-- It is over the writer in the way that was asked for.
use Rattle.json_number_texts.proofs.OutLaws.{over_plain, over_texts}
use Rattle.json_number_texts.proofs.lines_out.LinesOut.new.Goals as goal

pub returns-then-numbers_are_texts : goal.returns-then-numbers_are_texts
returns-then-numbers_are_texts g c =
    over_texts _ _ _ c.if-numbers_are_texts.true c.in_ok-new.ensures.writer c.in_ok-new.ensures.begun

pub returns : goal.returns
returns g c = over_plain _ _ c.if-numbers_are_texts.false
