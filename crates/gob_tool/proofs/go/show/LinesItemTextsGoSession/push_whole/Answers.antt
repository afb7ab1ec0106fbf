-- The line of a value, whatever its interfaces hold.
use Rattle.std.proofs.Common.{subst}
use Rattle.gob_types.specs.Defined.{types}
use Rattle.gob_filled_walk.specs.FilledLine.{FilledLine}
use Rattle.gob_tool.proofs.Profile.FilledLineLaws.{filled_ahead}
use Rattle.gob_tool.proofs.go.show.LinesItemTextsGoSession.push_whole.Goals as goal

pub returns : goal.returns
returns c =
    filled_ahead c.whole_depth-depth.ensures c.in-Some.ensures.between c.in-Some.ensures.body
    (subst (λ d. FilledLine (types d) c.in-Some.item.id c.whole_depth-depth.result c.in-Some.item.body.now
    c.line_of_filled.new.line.items) c.table.ensures (c.in_ok-line_of_filled.ensures.line c.if-not-branch.false))
