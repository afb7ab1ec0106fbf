-- The name of a field behind some that rename it.
use Rattle.std.proofs.Common.{◌≡◌, ℕ, ap, Bool, true, false, List, Some, None}
use Rattle.std.specs.Prelude.{bytes_eq, ◌&&◌}
use Rattle.std.specs.Borrow.{Bor}
use Rattle.gob_rename.specs.declared.rename.Rename.{Rename}
use Rattle.gob_rename.specs.Renaming.{is_meant, is_told}

pub told_of_all : (r : Rename) (struct field : List ℕ) → r.of ≡ None
    → is_told r struct field ≡ bytes_eq r.new.now field
told_of_all r struct field e = ap (λ of. is_meant of struct && bytes_eq r.new.now field) e

pub told_of : (r : Rename) (struct field : List ℕ) (name : Bor (List ℕ)) → r.of ≡ Some name
    → is_told r struct field ≡ (bytes_eq name.now struct && bytes_eq r.new.now field)
told_of r struct field name e = ap (λ of. is_meant of struct && bytes_eq r.new.now field) e

-- a test of both
pub both_true : (a b : Bool) → a ≡ true → (a && b) ≡ b
both_true a b e = ap (λ x. x && b) e

pub first_false : (a b : Bool) → a ≡ false → (a && b) ≡ false
first_false a b e = ap (λ x. x && b) e
