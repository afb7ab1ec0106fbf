use Rattle.std.proofs.Common.{arith}
use Rattle.gob_tool.proofs.ShowLaws.{line_ahead}
use Rattle.gob_tool.proofs.TextLaws.{found_as}
use Rattle.gob_tool.proofs.show.LinesItemTextsSession.push_whole.Goals as goal

pub returns : goal.returns
returns g c =
    found_as _ c.push_whole_line.result (λ used l. line_ahead (omega (arith, c.line_depth.ensures)) l)
    c.push_whole_line.ensures
