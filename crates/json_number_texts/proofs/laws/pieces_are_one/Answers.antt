use Rattle.json_number_texts.proofs.PieceLaws.{pieces_of}
use Rattle.json_number_texts.proofs.laws.pieces_are_one.Goals as goal

pub returns : goal.returns
returns c = pieces_of
