-- Where names are declared, as it is found by their hashes.
use Rattle.std.specs.Prelude.{◌≡◌, ℕ, List, Bool, if◌then◌else◌, Some, None, drop}
use Rattle.std.specs.Borrow.{Bor}
use Rattle.std.specs.Map.{lookup}
use Rattle.gob_go_source.specs.declared.go_type.Declaration.{Declaration}
use Rattle.gob_go_types.specs.Code.{first_declared, is_name}

abbrev pub same_name : Bor (List ℕ) → Bor (List ℕ) → Bool
same_name x y = is_name x.now y.now

-- the map has where each name is declared first from this place on
pub record KnowsNames (ds : List Declaration) (n : ℕ) (es : List (Bor (List ℕ) × ℕ)) : Type 0 where
  pub each : (w : Bor (List ℕ)) → lookup (same_name w) es ≡ first_declared n (drop n ds) w.now

-- the name had no place and has this one in the new map, and any other has the place that it had
pub record PutsName (d : Declaration) (place : ℕ) (old new : List (Bor (List ℕ) × ℕ)) : Type 0 where
  pub absent : lookup (same_name d.name) old ≡ None
  pub each : (w : Bor (List ℕ))
      → lookup (same_name w) new ≡ (if same_name d.name w then Some place else lookup (same_name w) old)
