-- Of some gaps the bytes and the places are counted.
use Rattle.std.proofs.Common.{◌∙◌}
use Rattle.std.specs.String.{string_bytes}
use Rattle.gob_salvage.proofs.ReportLaws.{left_as, says_so}
use Rattle.gob_salvage.proofs.lines.left_out.Goals as goal

pub returns : goal.returns
returns c = says_so string_bytes c.format.result _ _ (rw (c.plural-left_s.ensures, c.plural-gaps_s.ensures)
    (left_as c.args.kept.now.gaps.items c.len.result c.left_out-left.result
    (c.len.ensures ∙ c.args.kept.now.gaps.ok.0) c.if-gaps-eq0.false c.left_out-left.ensures)) c.format.ensures.ok
