use Rattle.gob_split.proofs.PartLaws.{parts_are_streams}
use Rattle.gob_split.proofs.laws.parts_are_streams.Goals as goal

pub returns : goal.returns
returns c how L M bytes items texts full last depth same types texts_are longer size split =
    parts_are_streams depth same types texts_are longer size split
