-- If the answer is yes so far, each byte is below 127.
use Rattle.std.proofs.Common.{◌≡◌, ℕ, ◌<◌, get_or, true}
use Rattle.json_controls.proofs.shown.are_below_controls.Given as goal

abbrev pub invariant-bytes : goal.invariant-bytes
invariant-bytes l = l.below ≡ true → (k : ℕ) → k < l.byte-index → get_or l.bytes k 0 < 127
