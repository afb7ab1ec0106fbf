-- What is put, and what the rest would be, is what all would be.
use Rattle.std.proofs.Common.{◌≡◌, ◌*◌, ◌++◌, drop, length, take}
use Rattle.hex.specs.Hex.{encode_lower}
use Rattle.gob_json.proofs.text.leaf.pattern_digits.Given as goal

abbrev pub invariant-bytes : goal.invariant-bytes
invariant-bytes l =
    (length l.digits ≡ 16)
    × (take (2 * l.index) l.digits ++ encode_lower (drop l.index l.bytes) ≡ encode_lower l.bytes)
