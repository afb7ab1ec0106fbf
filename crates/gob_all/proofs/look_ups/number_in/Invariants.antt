use Rattle.std.proofs.Common.{ℕ, ◌<◌}
use Rattle.gob_all.specs.LookUps.{IsNamed}
use Rattle.gob_all.proofs.look_ups.number_in.Given as goal

-- no field so far has the name
abbrev pub invariant-loop-number : goal.invariant-loop-number
invariant-loop-number l = (k : ℕ) → k < l.number → ¬ IsNamed l.fields l.name k
