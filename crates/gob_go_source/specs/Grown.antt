-- Lists that grow.
use Rattle.std.specs.Prelude.{◌≡◌, List, ◌++◌}

-- the new list is the old one, and more behind it
abbrev pub Grown : {A : Type 0} → (old new : List A) → Type 0
Grown {A = A} old new = (more : List A) × (new ≡ old ++ more)
