use Rattle.std.proofs.Common.{◌∙◌, sym}
use Rattle.gob_tool.proofs.Profile.StrictFormLaws.{one_text}
use Rattle.gob_tool.proofs.laws.strict_streams_are_rewritten_alike.Goals as goal

pub returns : goal.returns
returns c L M T items bytes text other stream s g = s.holds ∙ one_text stream s g ∙ sym g.holds
