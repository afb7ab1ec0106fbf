use Rattle.gob_json_writer.proofs.OnceLaws.{shown_once}
use Rattle.gob_json_writer.proofs.laws.values_show_once.Goals as goal

pub returns : goal.returns
returns c T t w v other M N a b = shown_once a b
