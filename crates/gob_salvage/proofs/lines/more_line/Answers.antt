-- Some gaps more are counted.
use Rattle.std.specs.String.{string_bytes}
use Rattle.gob_salvage.proofs.ReportLaws.{more_as, says_so}
use Rattle.gob_salvage.proofs.lines.more_line.Goals as goal

pub returns : goal.returns
returns c = says_so string_bytes c.format.result _ _ (rw c.plural-s.ensures (more_as c.args.more c.if-more-eq0.false))
    c.format.ensures.ok
