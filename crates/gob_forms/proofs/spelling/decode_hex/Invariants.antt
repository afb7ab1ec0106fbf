-- The digits are those of what was gone over.
use Rattle.std.proofs.Common.{◌≡◌, not, take}
use Rattle.std.specs.Char.{is_ascii_whitespace}
use Rattle.std.specs.List.{filter}
use Rattle.gob_forms.proofs.spelling.decode_hex.Given as goal

abbrev pub invariant-loop-byte : goal.invariant-loop-byte
invariant-loop-byte l = l.digits.items ≡ filter (λ b. not (is_ascii_whitespace b)) (take l.byte-index l.text)
