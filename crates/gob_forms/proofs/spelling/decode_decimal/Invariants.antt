-- What the text spells is what the rest does behind what was read.
use Rattle.std.proofs.Common.{◌≡◌, [], None, drop}
use Rattle.gob_forms.specs.Spellings.{numbers_behind}
use Rattle.gob_forms.proofs.spelling.decode_decimal.Given as goal

abbrev pub invariant-loop-byte : goal.invariant-loop-byte
invariant-loop-byte l = numbers_behind l.number l.bytes.items (drop l.byte-index l.text) ≡ numbers_behind None [] l.text
