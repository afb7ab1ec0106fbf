-- The number of a type.
use Rattle.std.proofs.Common.{ℕ}
use Rattle.gob_types.specs.declared.id.TypeId.{TypeId}

abbrev pub numbered : ℕ → TypeId
numbered n = record { 0 = n }
