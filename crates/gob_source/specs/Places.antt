-- Where types and their names stand first among some types, and which names are registered of each.
use Rattle.std.specs.Prelude.{◌≡◌, ℕ, ◌+◌, List, [], ◌∷◌, Bool, true, false, ◌==◌, ◌&&◌, nat_eq, nat_le, nat_lt, drop}
use Rattle.std.specs.Prelude.{if◌then◌else◌, length, slice_get, Option, Some, None, option_map, unwrap_or}
use Rattle.std.specs.Borrow.{Bor}
use Rattle.std.specs.Map.{lookup}
use Rattle.std.specs.Cmp.Lexicographic.{pointwise}
use Rattle.gob_types.specs.declared.id.TypeId.{TypeId}
use Rattle.gob_types.specs.declared.kind.Shape.{Shape}
use Rattle.gob_types.specs.Machine.Entered.{same_id}
use Rattle.gob_types.specs.Table.{Table, shape_of}
use Rattle.gob_source.specs.declared.by_type.NamePlace.{NamePlace}
use Rattle.gob_source.specs.Names.{is_named}
use Rattle.gob_source.specs.Registered.{Naming, names_of}

-- where the type stands first, of types whose first has this place
abbrev pub first_id : ℕ → List TypeId → TypeId → Option ℕ
first_id n [] t = None
first_id n (u ∷ us) t = if u.0 == t.0 then Some n else first_id (n + 1) us t

-- where one of the name does
abbrev pub first_named : Table → ℕ → List TypeId → List ℕ → Option ℕ
first_named T n [] name = None
first_named T n (u ∷ us) name = if is_named (shape_of T u) name then Some n else first_named T (n + 1) us name

-- there is a place, and no other before it
abbrev pub stands_by : Option ℕ → Option ℕ → Bool
stands_by None q = false
stands_by (Some i) None = true
stands_by (Some i) (Some k) = nat_le i k

-- there is a place, before the other if there is one
abbrev pub precedes : Option ℕ → Option ℕ → Bool
precedes None q = false
precedes (Some i) None = true
precedes (Some i) (Some k) = nat_lt i k

-- the map has where each type stands first from this place on
pub record KnowsIds (n : ℕ) (ts : List TypeId) (es : List (TypeId × ℕ)) : Type 0 where
  pub each : (t : TypeId) → lookup (same_id t) es ≡ first_id n (drop n ts) t

abbrev pub same_name : Bor (List ℕ) → Bor (List ℕ) → Bool
same_name x y = pointwise nat_eq x.now y.now

-- the map has where each name does
pub record KnowsNamed (T : Table) (n : ℕ) (ts : List TypeId) (es : List (Bor (List ℕ) × ℕ)) : Type 0 where
  pub each : (name : Bor (List ℕ)) → lookup (same_name name) es ≡ first_named T n (drop n ts) name.now

-- the name of the type has this place in the new map, and any other the place that it had
pub record PutsName (s : Option Shape) (place : ℕ) (old new : List (Bor (List ℕ) × ℕ)) : Type 0 where
  pub each : (name : Bor (List ℕ))
      → lookup (same_name name) new ≡ (if is_named s name.now then Some place else lookup (same_name name) old)

-- ---- registered names

-- how many names a map has of a type
abbrev pub count_in : List (TypeId × ℕ) → TypeId → ℕ
count_in es t = unwrap_or (lookup (same_id t) es) 0

-- they are as many as the type has
pub record CountsNames (ps : List Naming) (es : List (TypeId × ℕ)) : Type 0 where
  pub each : (t : TypeId) → count_in es t ≡ length (names_of t ps)

abbrev pub same_place : NamePlace → NamePlace → Bool
same_place x y = (x.id.0 == y.id.0) && (x.place == y.place)

abbrev pub name_in : List (NamePlace × Bor (List ℕ)) → NamePlace → Option (List ℕ)
name_in es x = option_map (λ name. name.now) (lookup (same_place x) es)

-- the map has the names of each type, each by its place among them
pub record KnowsNamings (ps : List Naming) (es : List (NamePlace × Bor (List ℕ))) : Type 0 where
  pub each : (x : NamePlace) → name_in es x ≡ slice_get (names_of x.id ps) x.place

-- of the type of this name there is one name more, this one
pub record PutsNaming (p : Naming) (counts counts' : List (TypeId × ℕ))
    (names names' : List (NamePlace × Bor (List ℕ))) : Type 0 where
  pub counted : (t : TypeId) → count_in counts' t
      ≡ (if p.0.0 == t.0 then count_in counts p.0 + 1 else count_in counts t)
  pub named : (x : NamePlace) → name_in names' x
      ≡ (if (p.0.0 == x.id.0) && (count_in counts p.0 == x.place) then Some p.1 else name_in names x)
