-- The names of types and fields in Go source. (The Go Programming Language Specification, Letters and digits,
-- Identifiers and Keywords; docs/FORMAT.md, Types as source: this project's own.)
use Rattle.std.specs.Prelude.{ℕ, ◌+◌, ◌/◌, ◌%◌, List, [], ◌∷◌, ◌++◌, length, Bool, true, false, ◌==◌, ◌&&◌, ◌||◌, not}
use Rattle.std.specs.Prelude.{nat_le, nat_lt, if◌then◌else◌, codes, Option, Some, None}
use Rattle.std.specs.Fmt.{decimal}
use Rattle.std.specs.Str.{bytes_eq, chars, is_utf8}
use Rattle.std.specs.List.{list_all, list_any, flat_map}
use Rattle.ucd_category.specs.declared.GeneralCategory.TheVariants as category
use Rattle.ucd_category.specs.declared.GeneralCategoryGroup.TheVariants as group
use Rattle.ucd_category.specs.GeneralCategory.{general_category, general_category_eq}
use Rattle.ucd_category.specs.GeneralCategoryGroup.{in_group}
use Rattle.gob_types.specs.declared.id.TypeId.{TypeId}
use Rattle.gob_types.specs.declared.kind.Shape.{Shape}
use Rattle.gob_types.specs.Table.{Table, shape_of}

-- ---- identifiers

-- a letter of Unicode or the underline
abbrev pub is_letter : ℕ → Bool
is_letter c = in_group group.Letter (general_category c) || (c == 95)

-- one of these or a decimal digit of Unicode
abbrev pub is_letter_or_digit : ℕ → Bool
is_letter_or_digit c = is_letter c || general_category_eq (general_category c) category.DecimalNumber

-- the characters are letters and digits, no digit first
abbrev pub is_identifier_text : List ℕ → Bool
is_identifier_text [] = false
is_identifier_text (c ∷ cs) = is_letter c && list_all is_letter_or_digit cs

-- Go takes the name as an identifier, and it isn't too long to stand wherever it is referred to
abbrev pub is_identifier : List ℕ → Bool
is_identifier name = nat_le (length name) 255 && (is_utf8 name && is_identifier_text (chars name))

-- the columns in which gofmt reckons with a name: one for each character
abbrev pub name_width : List ℕ → ℕ
name_width name = if is_utf8 name then length (chars name) else length name

-- Go's keywords; the names of Go's own that this source uses, of types, packages, values and functions; those of the
-- values of its methods; those that no type of a program may have; and those of the functions of a program
abbrev pub reserved : List (List ℕ)
reserved =
    codes "break" ∷ codes "case" ∷ codes "chan" ∷ codes "const" ∷ codes "continue" ∷ codes "default" ∷ codes "defer" ∷
    codes "else" ∷ codes "fallthrough" ∷ codes "for" ∷ codes "func" ∷ codes "go" ∷ codes "goto" ∷ codes "if" ∷
    codes "import" ∷ codes "interface" ∷ codes "map" ∷ codes "package" ∷ codes "range" ∷ codes "return" ∷
    codes "select" ∷ codes "struct" ∷ codes "switch" ∷ codes "type" ∷ codes "var" ∷
    codes "bool" ∷ codes "int" ∷ codes "uint" ∷ codes "float64" ∷ codes "byte" ∷ codes "string" ∷ codes "complex128" ∷
    codes "error" ∷ codes "nil" ∷ codes "big" ∷ codes "netip" ∷ codes "time" ∷ codes "url" ∷
    codes "value" ∷ codes "data" ∷ codes "_" ∷ codes "init" ∷ codes "main" ∷
    codes "bufio" ∷ codes "gob" ∷ codes "json" ∷ codes "fmt" ∷ codes "io" ∷ codes "log" ∷ codes "os" ∷
    codes "reflect" ∷ codes "int64" ∷ codes "uint64" ∷ codes "copy" ∷ codes "len" ∷ codes "new" ∷
    codes "newValue" ∷ codes "nextType" ∷ codes "readNumber" ∷ codes "typeID" ∷ []

abbrev pub is_reserved : List ℕ → Bool
is_reserved name = list_any (λ word. bytes_eq word name) reserved

-- ---- names with an id

abbrev pub is_digit : ℕ → Bool
is_digit c = nat_le 48 c && nat_le c 57

abbrev pub is_two_digits : List ℕ → Bool
is_two_digits cs = nat_le 2 (length cs) && list_all is_digit cs

-- the end of the name is an underline and at least two digits
abbrev pub ends_in_number : List ℕ → Bool
ends_in_number [] = false
ends_in_number (c ∷ cs) = ((c == 95) && is_two_digits cs) || ends_in_number cs

abbrev pub is_t_number : List ℕ → Bool
is_t_number [] = false
is_t_number (c ∷ cs) = (c == 84) && is_two_digits cs

-- the name looks like one that was made with an id, T66 or Point_66: so none that was made is one that was sent
abbrev pub is_numbered : List ℕ → Bool
is_numbered name = is_t_number name || ends_in_number name

-- ---- the name of a type

abbrev pub is_named : Option Shape → List ℕ → Bool
is_named None name = false
is_named (Some s) name = bytes_eq s.name name

-- a type that stands before this one among these has the name
abbrev pub is_taken : Table → List TypeId → TypeId → List ℕ → Bool
is_taken T [] t name = false
is_taken T (u ∷ us) t name =
    if u.0 == t.0 then false else (if is_named (shape_of T u) name then true else is_taken T us t name)

-- the name of a type is that which was sent; it has the id behind it where Go, a made name or an earlier type has it;
-- and a name that is no identifier is T and the id
abbrev pub own_name : Table → List TypeId → TypeId → List ℕ → List ℕ
own_name T ts t name =
    if is_identifier name
    then (if is_reserved name || (is_numbered name || is_taken T ts t name)
    then name ++ (codes "_" ++ decimal t.0) else name)
    else codes "T" ++ decimal t.0

-- ---- names in comments

abbrev pub digit : ℕ → ℕ
digit n = if nat_lt n 10 then 48 + n else 87 + n

-- ASCII, printed in one column, and no backslash
abbrev pub is_printed : ℕ → Bool
is_printed c = nat_le 32 c && (nat_le c 126 && not (c == 92))

-- a byte by its two hexadecimal digits, behind a backslash and an x, where it isn't printed
abbrev pub escaped_byte : ℕ → List ℕ
escaped_byte c = if is_printed c then c ∷ [] else 92 ∷ 120 ∷ digit (c / 16) ∷ digit (c % 16) ∷ []

abbrev pub escaped : List ℕ → List ℕ
escaped cs = flat_map escaped_byte cs
