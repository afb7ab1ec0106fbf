-- If the answer is yes so far, each byte is an ASCII character that stands for itself.
use Rattle.std.proofs.Common.{◌≡◌, ℕ, ◌<◌, get_or, true}
use Rattle.json.specs.Run.{is_plain}
use Rattle.gob_json.proofs.text.plain.are_all_plain.Given as goal

abbrev pub invariant-bytes : goal.invariant-bytes
invariant-bytes l = l.plain ≡ true → (k : ℕ) → k < l.byte-index
    → (is_plain (get_or l.bytes k 0) ≡ true) × (get_or l.bytes k 0 < 128)
