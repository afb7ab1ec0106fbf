-- The names under which types fill interfaces, each beside its type. (Go's documentation of encoding/gob, Register and
-- RegisterName; docs/FORMAT.md, Types as source: this project's own.)
use Rattle.std.specs.Prelude.{ℕ, List, [], ◌∷◌, ◌++◌, map, Bool, false, ◌==◌, ◌&&◌, ◌||◌, if◌then◌else◌, codes}
use Rattle.std.specs.Str.{bytes_eq}
use Rattle.std.specs.List.{flat_map, list_any}
use Rattle.gob_types.specs.declared.id.TypeId.{TypeId}
use Rattle.gob_source.specs.declared.registered.Registered.{Registered}
use Rattle.gob_source.specs.Names.{escaped}

-- a type, and a name of it
abbrev pub Naming : Type 0
Naming = TypeId × List ℕ

abbrev pub naming : Registered → Naming
naming r = (r.id, r.name.items)

abbrev pub namings : List Registered → List Naming
namings rs = map naming rs

-- ---- each once

abbrev pub is_naming : Naming → Naming → Bool
is_naming p q = (p.0.0 == q.0.0) && bytes_eq p.1 q.1

-- behind the others, unless it is one of them
abbrev pub with_naming : List Naming → Naming → List Naming
with_naming ps p = if list_any (is_naming p) ps then ps else ps ++ p ∷ []

-- these and then the others, each once, in the order in which they come first
abbrev pub each_once : (known more : List Naming) → List Naming
each_once known [] = known
each_once known (p ∷ ps) = each_once (with_naming known p) ps

-- ---- beside types

-- the names of a type
abbrev pub names_of : TypeId → List Naming → List (List ℕ)
names_of t [] = []
names_of t (p ∷ ps) = if p.0.0 == t.0 then p.1 ∷ names_of t ps else names_of t ps

-- a name on a line of a comment
abbrev pub name_line : List ℕ → List ℕ
name_line name = codes "\n// registered as " ++ escaped name

abbrev pub names_text : List (List ℕ) → List ℕ
names_text names = flat_map name_line names

-- ---- Go's own names

-- the types that Go itself registers, as it does slices of them
abbrev pub go_names : List (List ℕ)
go_names =
    codes "bool" ∷ codes "int" ∷ codes "int8" ∷ codes "int16" ∷ codes "int32" ∷ codes "int64" ∷ codes "uint" ∷
    codes "uint8" ∷ codes "uint16" ∷ codes "uint32" ∷ codes "uint64" ∷ codes "uintptr" ∷ codes "float32" ∷
    codes "float64" ∷ codes "complex64" ∷ codes "complex128" ∷ codes "string" ∷ []

abbrev pub is_element_name : List ℕ → Bool
is_element_name name = list_any (λ word. bytes_eq word name) go_names

abbrev pub is_closed : List ℕ → Bool
is_closed [] = false
is_closed (c ∷ cs) = (c == 93) && is_element_name cs

abbrev pub is_slice_name : List ℕ → Bool
is_slice_name [] = false
is_slice_name (c ∷ cs) = (c == 91) && is_closed cs

-- Go itself has registered a type under the name
abbrev pub is_go_name : List ℕ → Bool
is_go_name name = is_slice_name name || is_element_name name
