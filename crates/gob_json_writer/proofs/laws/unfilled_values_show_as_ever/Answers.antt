use Rattle.gob_json_writer.proofs.ShownLaws.{shows_as_ever}
use Rattle.gob_json_writer.proofs.laws.unfilled_values_show_as_ever.Goals as goal

pub returns : goal.returns
returns c T t v other N s = shows_as_ever s
