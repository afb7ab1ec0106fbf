-- The digits, and those of what is left, are those of the text.
use Rattle.std.proofs.Common.{◌≡◌, ◌++◌, drop}
use Rattle.gob_forms.specs.Spellings.{xxd_from}
use Rattle.gob_forms.specs.declared.dump.Zone.TheVariants as zone
use Rattle.gob_forms.proofs.dump.xxd_digits.Given as goal

abbrev pub invariant-loop-byte : goal.invariant-loop-byte
invariant-loop-byte l = l.digits.items ++ xxd_from l.zone (drop l.byte-index l.text) ≡ xxd_from zone.Offset l.text
