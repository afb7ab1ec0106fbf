-- Names of a stream as a terminal may show them, and paths of parts. (docs/FORMAT.md, Explained bytes: this project's
-- own.)
use Rattle.std.specs.Prelude.{ℕ, List, [], ◌∷◌, ◌++◌, ◌-◌, ◌==◌, ◌^◌, Option, Some, None, false, codes, encode_utf8_all}
use Rattle.std.specs.Prelude.{if◌then◌else◌, slice_get}
use Rattle.std.specs.Fmt.{decimal, digits, format_spec, padded_integral}
use Rattle.std.specs.List.{flat_map}
use Rattle.std.specs.Str.{chars, is_utf8}
use Rattle.gob_types.specs.Table.{Table, shape_of}
use Rattle.gob_types.specs.declared.id.TypeId.{TypeId}
use Rattle.gob_types.specs.declared.kind.Field.{Field}
use Rattle.gob_types.specs.declared.kind.Kind.{Kind}
use Rattle.gob_types.specs.declared.kind.Kind.TheVariants as kind
use Rattle.gob_types.specs.declared.kind.Shape.{Shape}
use Rattle.gob_words.specs.Escaped.{escaped_text}
use Rattle.gob_explain.specs.declared.row.PartStep.{PartStep}
use Rattle.gob_explain.specs.declared.row.PartStep.TheVariants as step

-- a byte in two lower case hexadecimal digits
abbrev pub byte_text : ℕ → List ℕ
byte_text b = padded_integral (format_spec 32 0 4 2 (2 ^ 64 - 1)) false [] (digits 16 false b)

-- a name where it is UTF-8, with those characters escaped that a terminal obeys, else 0x and its bytes
abbrev pub shown_name : List ℕ → List ℕ
shown_name name =
    if is_utf8 name then encode_utf8_all (escaped_text (chars name)) else codes "0x" ++ flat_map byte_text name

-- Go's name of the type of this id in the base table, where its name there isn't that of a Go type
abbrev pub go_name : ℕ → List ℕ
go_name n =
    if n == 1 then codes "bool" else if n == 2 then codes "int" else if n == 3 then codes "uint" else if n == 4
    then codes "float64" else if n == 5 then codes "[]byte" else if n == 6 then codes "string" else if n == 7
    then codes "complex128" else if n == 8 then codes "interface{}" else if n == 22 then codes "[]fieldType" else []

-- the name of a shape, if there is one
abbrev pub shape_name : Option Shape → List ℕ
shape_name None = []
shape_name (Some s) = shown_name s.name

-- or this one, where it isn't empty
abbrev pub known_or : (known other : List ℕ) → List ℕ
known_or [] other = other
known_or (c ∷ known) other = c ∷ known

abbrev pub type_name : Table → TypeId → List ℕ
type_name T t = known_or (go_name t.0) (shape_name (shape_of T t))

-- the name of a field, if there is one
abbrev pub field_name : Option Field → List ℕ
field_name None = []
field_name (Some f) = shown_name f.name

abbrev pub field_of_kind : Kind → ℕ → List ℕ
field_of_kind (kind.Struct fields) n = field_name (slice_get fields n)
field_of_kind _ n = []

abbrev pub field_in : Option Shape → ℕ → List ℕ
field_in None n = []
field_in (Some s) n = field_of_kind s.kind n

-- what is held is told by the name of its type, or where that is empty by its id
abbrev pub held_name : Table → TypeId → List ℕ
held_name T t = known_or (type_name T t) (codes "type " ++ decimal t.0)

abbrev pub step_text : Table → PartStep → List ℕ
step_text T (step.Element i) = codes "[" ++ (decimal i ++ codes "]")
step_text T (step.Key i) = codes "[" ++ (decimal i ++ codes "] key")
step_text T (step.Value i) = codes "[" ++ (decimal i ++ codes "]")
step_text T (step.Field t n) = codes "." ++ field_in (shape_of T t) n
step_text T (step.Held t) = codes ".(" ++ (held_name T t ++ codes ")")

-- the steps one behind another
abbrev pub path_text : Table → List PartStep → List ℕ
path_text T path = flat_map (step_text T) path
