use Rattle.gob_explain.proofs.WholeItemLaws.{show_whole_items}
use Rattle.gob_explain.proofs.laws.whole_items_are_shown.Goals as goal

pub returns : goal.returns
returns c = show_whole_items
