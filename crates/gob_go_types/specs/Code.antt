-- The declarations of source by their names. (The Go Programming Language Specification, Declarations and scope.)
use Rattle.std.specs.Prelude.{◌≡◌, ℕ, ◌+◌, List, [], ◌∷◌, Bool, if◌then◌else◌, Option, Some, None, slice_get}
use Rattle.std.specs.Prelude.{nat_eq}
use Rattle.std.specs.Cmp.Lexicographic.{pointwise}
use Rattle.gob_go_source.specs.declared.declarations.GoSource.{GoSource}
use Rattle.gob_go_source.specs.declared.go_type.Declaration.{Declaration}
use Rattle.gob_go_source.specs.declared.go_type.GoType.{GoType}
use Rattle.gob_go_source.specs.declared.go_type.GoType.TheVariants as go

abbrev pub is_name : List ℕ → List ℕ → Bool
is_name v w = pointwise nat_eq v w

-- where the first declaration of the name stands, of those whose first has this place
abbrev pub first_declared : ℕ → List Declaration → List ℕ → Option ℕ
first_declared n [] w = None
first_declared n (d ∷ ds) w = if is_name d.name.now w then Some n else first_declared (n + 1) ds w

abbrev pub declaration_of : List Declaration → List ℕ → Option ℕ
declaration_of ds w = first_declared 0 ds w

-- where the declaration stands that a type names, if it is a declared name
abbrev pub declared_by : List Declaration → Option GoType → Option ℕ
declared_by ds (Some (go.Name w)) = declaration_of ds w.now
declared_by ds _ = None

abbrev pub declared_at : GoSource → ℕ → Option ℕ
declared_at s n = declared_by s.declarations.items (slice_get s.types.items n)

-- no name is declared twice
abbrev pub DistinctNames : List Declaration → Type 0
DistinctNames [] = Unit {0}
DistinctNames (d ∷ ds) = (declaration_of ds d.name.now ≡ None) × DistinctNames ds
