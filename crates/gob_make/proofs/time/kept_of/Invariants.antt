-- Those behind are zeros.
use Rattle.std.proofs.Common.{◌≡◌, ◌≤◌, ◌<◌, ℕ}
use Rattle.std.specs.Prelude.{slice_index}
use Rattle.gob_make.proofs.time.kept_of.Given as goal

abbrev pub invariant-zeros : goal.invariant-zeros
invariant-zeros l = record {
  within : l.kept ≤ l.end;
  zeros : (k : ℕ) → l.kept ≤ k → k < l.end → slice_index l.digits k ≡ 48;
}

abbrev pub decreases-zeros : goal.decreases-zeros
decreases-zeros l = l.kept
