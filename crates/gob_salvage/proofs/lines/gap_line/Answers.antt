-- The numbers, why, and the words between them.
use Rattle.std.proofs.Common.{append_assoc}
use Rattle.std.specs.String.{string_bytes}
use Rattle.gob_salvage.proofs.ReportLaws.{says_so}
use Rattle.gob_salvage.proofs.lines.gap_line.Goals as goal

pub returns : goal.returns
returns c = says_so string_bytes c.format.result _ _ (rw (
  c.in_ok-why.ensures,
  c.plural-s.ensures,
  c.length-count.ensures,
  c.saturating_sub-last.ensures,
) (simp append_assoc)) c.format.ensures.ok
