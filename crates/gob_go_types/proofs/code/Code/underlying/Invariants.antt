-- What is behind the names there is behind those at the place.
use Rattle.std.proofs.Common.{ℕ}
use Rattle.gob_go_types.specs.Sight.{Underlies}
use Rattle.gob_go_types.proofs.code.Code.underlying.Given as goal

abbrev pub invariant-names : goal.invariant-names
invariant-names l = (end : ℕ) → Underlies l.self.source.now l.at end → Underlies l.self.source.now l.fn.place end
