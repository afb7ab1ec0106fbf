-- The numbers and the words between them.
use Rattle.std.proofs.Common.{◌∙◌, append_assoc}
use Rattle.std.specs.String.{string_bytes}
use Rattle.gob_salvage.proofs.ReportLaws.{says_so}
use Rattle.gob_salvage.proofs.lines.amount.Goals as goal

pub returns : goal.returns
returns c = says_so string_bytes c.format.result _ _ (rw (
  c.plural-bytes_s.ensures,
  c.plural-items_s.ensures,
  c.len.ensures ∙ c.args.kept.now.bytes.ok.0,
) (simp append_assoc)) c.format.ensures.ok
