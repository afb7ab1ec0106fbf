-- What is told of an item that has no spelling, or is another one than was read. For private clauses.
use Rattle.std.specs.Prelude.{◌≡◌}
use Rattle.gob_types.specs.declared.denial.Denial.{Denial}
use Rattle.gob_types.specs.declared.reason.Reason.TheVariants as reason
use Rattle.gob_types.specs.Denial.{IsDenial}

-- there is no such thing, and the reason is DoesNotFit, or there is no memory
abbrev pub IsUnfit : Type 0 → Denial → Type 0
IsUnfit A = IsDenial (λ r. (r ≡ reason.DoesNotFit) × ¬ A)
