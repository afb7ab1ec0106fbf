use Rattle.gob_tool.proofs.Profile.HoistedLineLaws.{item_lines}
use Rattle.gob_tool.proofs.laws.hoisting_keeps_lines.Goals as goal

pub returns : goal.returns
returns c T i text l = item_lines T i text l
