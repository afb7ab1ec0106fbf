use Rattle.json_number_texts.proofs.TextLaws.{lines_become}
use Rattle.json_number_texts.proofs.laws.lines_become_texts.Goals as goal

pub returns : goal.returns
returns c = lines_become
