-- With fewer bytes cut off it is no UTF-8.
use Rattle.std.proofs.Common.{ℕ, ◌-◌, ◌<◌, length, take}
use Rattle.std.specs.Str.{IsUtf8}
use Rattle.gob_forms.proofs.text.is_utf8.Given as goal

abbrev pub invariant-loop-cut : goal.invariant-loop-cut
invariant-loop-cut l = (k : ℕ) → k < l.cut → IsUtf8 (take (length l.bytes - k) l.bytes) → ⊥
