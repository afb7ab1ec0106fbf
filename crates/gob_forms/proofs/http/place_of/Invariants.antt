-- It stands at no place that was gone past.
use Rattle.std.proofs.Common.{ℕ, ◌<◌}
use Rattle.gob_forms.specs.Texts.{StandsAt}
use Rattle.gob_forms.proofs.http.place_of.Given as goal

abbrev pub invariant-loop-place : goal.invariant-loop-place
invariant-loop-place l = (k : ℕ) → k < l.place → StandsAt l.what l.bytes k → ⊥
