-- The fields of structs. (The Go Programming Language Specification, Exported identifiers and Struct types; Go's
-- encoding/gob documentation, Types and Values: fields that aren't exported aren't sent.)
use Rattle.std.specs.Prelude.{◌≡◌, ℕ, List, [], ◌∷◌, Bool, true, false, ◌&&◌, filter, map, Option, Some, None}
use Rattle.std.specs.Prelude.{slice_get}
use Rattle.std.specs.Borrow.{Bor}
use Rattle.std.specs.Str.{chars, is_utf8}
use Rattle.ucd_category.specs.declared.GeneralCategory.TheVariants as category
use Rattle.ucd_category.specs.GeneralCategory.{general_category, general_category_eq}
use Rattle.gob_types.specs.declared.id.TypeId.{TypeId}
use Rattle.gob_types.specs.declared.kind.Field.{Field}
use Rattle.gob_go_source.specs.declared.declarations.GoSource.{GoSource}
use Rattle.gob_go_source.specs.declared.go_type.GoField.{GoField}
use Rattle.gob_go_source.specs.declared.go_type.GoType.{GoType}
use Rattle.gob_go_source.specs.declared.go_type.GoType.TheVariants as go

-- an upper-case letter of Unicode
abbrev pub is_capital : ℕ → Bool
is_capital c = general_category_eq (general_category c) category.UppercaseLetter

abbrev pub begins_with_capital : List ℕ → Bool
begins_with_capital [] = false
begins_with_capital (c ∷ cs) = is_capital c

-- a name that begins with one is seen in other packages
abbrev pub is_exported : List ℕ → Bool
is_exported name = is_utf8 name && begins_with_capital (chars name)

abbrev pub exported : List (Bor (List ℕ)) → List (Bor (List ℕ))
exported ws = filter (λ w. is_exported w.now) ws

-- the name of a type without its package
abbrev pub last_name : GoType → Option (Bor (List ℕ))
last_name (go.Name w) = Some w
last_name (go.Qualified p w) = Some w
last_name _ = None

-- the name of a field that is embedded as the type at a place, or as a pointer to one
pub data EmbeddedName (s : GoSource) (n : ℕ) (w : Bor (List ℕ)) : Type 0 where
  of_type : {t : GoType} → slice_get s.types.items n ≡ Some t → last_name t ≡ Some w → EmbeddedName s n w
  of_pointer : {to : ℕ} {t : GoType} → slice_get s.types.items n ≡ Some (go.Pointer to)
      → slice_get s.types.items to ≡ Some t → last_name t ≡ Some w → EmbeddedName s n w

abbrev pub are_none : List (Bor (List ℕ)) → Bool
are_none [] = true
are_none (w ∷ ws) = false

-- the names of the fields of a line that other packages see
pub data SendsNames (s : GoSource) (l : GoField) : List (Bor (List ℕ)) → Type 0 where
  written : are_none l.names.items ≡ false → SendsNames s l (exported l.names.items)
  embedded : {w : Bor (List ℕ)} → are_none l.names.items ≡ true → EmbeddedName s l.of w
      → SendsNames s l (exported (w ∷ []))

abbrev pub fields_of : TypeId → List (Bor (List ℕ)) → List Field
fields_of t ws = map (λ w. record { name = w.now; id = t }) ws
