-- What is told of the gaps so far, and what of the others will be, is what is told of all.
use Rattle.std.proofs.Common.{◌≡◌, ◌++◌, drop}
use Rattle.std.specs.String.{string_bytes}
use Rattle.gob_salvage.specs.Report.{gap_texts}
use Rattle.gob_salvage.proofs.lines.report.Given as goal

abbrev pub invariant-loop-gap : goal.invariant-loop-gap
invariant-loop-gap l = string_bytes l.text ++ gap_texts (drop l.gap-index l.told) ≡ gap_texts l.told
