-- The types of a stream as Go source. (The Go Programming Language Specification; docs/FORMAT.md, Types as source:
-- this project's own.)
use Rattle.std.specs.Prelude.{ℕ, zero, suc, ◌-◌, List, [], ◌∷◌, ◌++◌, replicate, max, Bool, true, false, ◌==◌}
use Rattle.std.specs.Prelude.{◌&&◌, ◌||◌, not, nat_le, if◌then◌else◌, codes, Option, Some, None}
use Rattle.std.specs.Fmt.{decimal}
use Rattle.std.specs.Str.{bytes_eq}
use Rattle.std.specs.List.{flat_map, list_all, list_any}
use Rattle.gob_types.specs.declared.id.TypeId.{TypeId}
use Rattle.gob_types.specs.declared.kind.Field.{Field}
use Rattle.gob_types.specs.declared.kind.Kind.{Kind}
use Rattle.gob_types.specs.declared.kind.Kind.TheVariants as kind
use Rattle.gob_types.specs.declared.kind.Marshal.{Marshal}
use Rattle.gob_types.specs.declared.kind.Marshal.TheVariants as marshal
use Rattle.gob_types.specs.declared.kind.Shape.{Shape}
use Rattle.gob_types.specs.Table.{Table, shape_of}
use Rattle.gob_source.specs.declared.library.Package.{Package}
use Rattle.gob_source.specs.declared.library.Package.TheVariants as packages
use Rattle.gob_source.specs.Library.{is_of_package, library_name, package_of, package_path, shape_package}
use Rattle.gob_source.specs.Names.{escaped, is_identifier, is_reserved, name_width, own_name}
use Rattle.gob_source.specs.Registered.{Naming, is_go_name, names_of, names_text}

-- ---- pointers

abbrev pub is_among : TypeId → List TypeId → Bool
is_among t us = list_any (λ u. u.0 == t.0) us

-- the type stands among these, and not behind the other
abbrev pub comes_by : List TypeId → (of t : TypeId) → Bool
comes_by [] of t = false
comes_by (u ∷ us) of t = if u.0 == t.0 then true else (if u.0 == of.0 then false else comes_by us of t)

abbrev pub is_holder_kind : List ℕ → Kind → Bool
is_holder_kind name (kind.Struct fields) = true
is_holder_kind name (kind.Array e n) = is_identifier name
is_holder_kind name _ = false

-- a struct, or an array with a name: a type that may hold itself
abbrev pub is_holder : Option Shape → Bool
is_holder None = false
is_holder (Some s) = is_holder_kind s.name s.kind

-- such a type stands behind a pointer where this definition or an earlier one gives it: Go's types don't hold
-- themselves
abbrev pub pointer_text : Table → List TypeId → (of t : TypeId) → List ℕ
pointer_text T ts of t = if comes_by ts of t && is_holder (shape_of T t) then codes "*" else []

-- ---- keys

-- a basic type whose values Go can compare: any but []byte
abbrev pub is_basic_key : TypeId → Bool
is_basic_key t = nat_le t.0 8 && not (t.0 == 5)

abbrev pub are_basic_keys : List Field → Bool
are_basic_keys fs = list_all (λ f. is_basic_key f.id) fs

-- (those of math/big hold slices)
abbrev pub is_key_kind : List ℕ → Kind → Bool
is_key_kind name (kind.Array e n) = is_basic_key e
is_key_kind name (kind.Struct fs) = are_basic_keys fs
is_key_kind name (kind.Opaque m) = not (is_of_package packages.Big (package_of name m))
is_key_kind name _ = false

abbrev pub is_key_shape : Option Shape → Bool
is_key_shape None = true
is_key_shape (Some s) = is_key_kind s.name s.kind

-- Go can compare the values of the type, as far as is seen one level down
abbrev pub is_key : Table → TypeId → Bool
is_key T t = if nat_le t.0 8 then not (t.0 == 5) else is_key_shape (shape_of T t)

-- other keys stand behind a pointer
abbrev pub key_text : Table → TypeId → List ℕ
key_text T t = if is_key T t then [] else codes "*"

-- ---- types by their parts

-- a list or a map, by the texts of its parts' types; the elements of an array, and keys, may stand behind a pointer
abbrev pub parts_text : (star key type : TypeId → List ℕ) → Kind → List ℕ
parts_text star key type (kind.Array e n) = codes "[" ++ (decimal n ++ (codes "]" ++ (star e ++ type e)))
parts_text star key type (kind.Slice e) = codes "[]" ++ type e
parts_text star key type (kind.Map k e) = codes "map[" ++ (key k ++ (type k ++ (codes "]" ++ type e)))
parts_text star key type _ = codes "struct{}"

abbrev pub has_parts_kind : List ℕ → Kind → Bool
has_parts_kind name (kind.Array e n) = not (is_identifier name)
has_parts_kind name (kind.Slice e) = not (is_identifier name)
has_parts_kind name (kind.Map k e) = not (is_identifier name)
has_parts_kind name _ = false

-- a list or a map without a name of its own
abbrev pub has_parts : Shape → Bool
has_parts s = has_parts_kind s.name s.kind

-- the names of the types that each stream has: those of Go
abbrev pub basic_text : ℕ → Option (List ℕ)
basic_text n =
    if n == 1 then Some (codes "bool") else if n == 2 then Some (codes "int") else
    if n == 3 then Some (codes "uint") else if n == 4 then Some (codes "float64") else if n == 5 then
    Some (codes "[]byte") else
    if n == 6 then Some (codes "string") else if n == 7 then Some (codes "complex128") else
    if n == 8 then Some (codes "interface{}") else None

abbrev pub library_or_own : Option Package → (name own : List ℕ) → List ℕ
library_or_own None name own = own
library_or_own (Some p) name own = library_name p name

-- the name by which other types refer to one: that of Go's library, where it is of that, else that of its declaration
abbrev pub used_name : Table → List TypeId → TypeId → Shape → List ℕ
used_name T ts t s = library_or_own (shape_package s) s.name (own_name T ts t s.name)

-- what names a type that the table has: its parts do where they may, else its name; one that no definition gives is
-- struct{}
abbrev pub shape_text : Table → List TypeId → TypeId → (parts : Option (Kind → List ℕ)) → Option Shape → List ℕ
shape_text T ts t parts None = codes "struct{}"
shape_text T ts t None (Some s) = if is_among t ts then used_name T ts t s else codes "struct{}"
shape_text T ts t (Some f) (Some s) =
    if is_among t ts then (if has_parts s then f s.kind else used_name T ts t s) else codes "struct{}"

abbrev pub named_text : Table → List TypeId → TypeId → (parts : Option (Kind → List ℕ)) → Option (List ℕ) → List ℕ
named_text T ts t parts (Some name) = name
named_text T ts t parts None = shape_text T ts t parts (shape_of T t)

-- the type as Go source in the definition of another, written out so many levels down
abbrev pub type_text : ℕ → Table → List TypeId → (of t : TypeId) → List ℕ
type_text zero T ts of t = named_text T ts t None (basic_text t.0)
type_text (suc l) T ts of t =
    named_text T ts t (Some (parts_text (pointer_text T ts of) (key_text T) (type_text l T ts of))) (basic_text t.0)

-- that of a type that isn't basic
abbrev pub defined_text : ℕ → Table → List TypeId → (of t : TypeId) → List ℕ
defined_text zero T ts of t = shape_text T ts t None (shape_of T t)
defined_text (suc l) T ts of t =
    shape_text T ts t (Some (parts_text (pointer_text T ts of) (key_text T) (type_text l T ts of))) (shape_of T t)

-- ---- fields

-- an earlier field has the name
abbrev pub is_field_name : List ℕ → List Field → Bool
is_field_name name fs = list_any (λ f. bytes_eq name f.name) fs

-- a field can be declared behind these: its name is one that Go lets a field have, and the first of its kind
abbrev pub is_declared : List Field → Field → Bool
is_declared seen f = is_identifier f.name && (not (is_reserved f.name) && not (is_field_name f.name seen))

abbrev pub declared_width : List Field → Field → ℕ
declared_width seen f = if is_declared seen f then name_width f.name else 0

-- the columns of the longest name of those that are declared
abbrev pub width : (seen rest : List Field) → ℕ
width seen [] = 0
width seen (f ∷ fs) = max (declared_width seen f) (width (seen ++ f ∷ []) fs)

-- the type of a field, and the end of its line
abbrev pub type_of_text : Table → List TypeId → (of t : TypeId) → List ℕ
type_of_text T ts of t = codes " " ++ (pointer_text T ts of t ++ (type_text 3 T ts of t ++ codes "\n"))

-- a declared field on a line, the types of all in one column
abbrev pub field_line : Table → List TypeId → TypeId → ℕ → Field → List ℕ
field_line T ts of w f =
    codes "\t" ++ (f.name ++ (replicate (w - name_width f.name) 32 ++ type_of_text T ts of f.id))

abbrev pub field_text : Table → List TypeId → TypeId → ℕ → List Field → Field → List ℕ
field_text T ts of w seen f = if is_declared seen f then field_line T ts of w f else []

-- any other in a comment
abbrev pub comment_line : Table → List TypeId → TypeId → Field → List ℕ
comment_line T ts of f = codes "\t// " ++ (escaped f.name ++ type_of_text T ts of f.id)

abbrev pub comment_text : Table → List TypeId → TypeId → List Field → Field → List ℕ
comment_text T ts of seen f = if is_declared seen f then [] else comment_line T ts of f

abbrev pub declared_text : Table → List TypeId → TypeId → ℕ → (seen rest : List Field) → List ℕ
declared_text T ts of w seen [] = []
declared_text T ts of w seen (f ∷ fs) = field_text T ts of w seen f ++ declared_text T ts of w (seen ++ f ∷ []) fs

abbrev pub comments_text : Table → List TypeId → TypeId → (seen rest : List Field) → List ℕ
comments_text T ts of seen [] = []
comments_text T ts of seen (f ∷ fs) = comment_text T ts of seen f ++ comments_text T ts of (seen ++ f ∷ []) fs

-- those that are declared, in order, and then the others
abbrev pub fields_text : Table → List TypeId → TypeId → List Field → List ℕ
fields_text T ts of fs = declared_text T ts of (width [] fs) [] fs ++ comments_text T ts of [] fs

-- ---- definitions

abbrev pub marshal_text : Marshal → List ℕ
marshal_text marshal.Gob = codes ", which encodes itself by GobEncode"
marshal_text marshal.Binary = codes ", which encodes itself by MarshalBinary"
marshal_text marshal.Text = codes ", which encodes itself by MarshalText"

-- what a type is that encodes itself: another name for one of Go's library, else a string of its bytes, which Go can
-- compare
abbrev pub opaque_text : Option Package → (name : List ℕ) → List ℕ
opaque_text (Some p) name = codes "= " ++ library_name p name
opaque_text None name = codes "string"

-- what a type of this name and kind is; a list or a map by its parts
abbrev pub kind_text : Table → List TypeId → TypeId → List ℕ → Kind → List ℕ
kind_text T ts t name (kind.Struct fs) = codes "struct {\n" ++ (fields_text T ts t fs ++ codes "}")
kind_text T ts t name (kind.Opaque m) = opaque_text (package_of name m) name
kind_text T ts t name k = parts_text (pointer_text T ts t) (key_text T) (type_text 2 T ts t) k

-- how a type's values are encoded, where it does it itself
abbrev pub encoded_text : Kind → List ℕ
encoded_text (kind.Opaque m) = marshal_text m
encoded_text _ = []

-- the names of the methods by which a type encodes itself and is decoded
abbrev pub encoder_name : Marshal → List ℕ
encoder_name marshal.Gob = codes "GobEncode"
encoder_name marshal.Binary = codes "MarshalBinary"
encoder_name marshal.Text = codes "MarshalText"

abbrev pub decoder_name : Marshal → List ℕ
decoder_name marshal.Gob = codes "GobDecode"
decoder_name marshal.Binary = codes "UnmarshalBinary"
decoder_name marshal.Text = codes "UnmarshalText"

-- the methods of a type that is declared under this name as a string: they give the bytes, and keep them
abbrev pub encoder_text : Marshal → (own : List ℕ) → List ℕ
encoder_text m own =
    codes "\nfunc (value " ++ (own ++ (codes ") " ++ (encoder_name m ++
    codes "() ([]byte, error) {\n\treturn []byte(value), nil\n}\n")))

abbrev pub decoder_text : Marshal → (own : List ℕ) → List ℕ
decoder_text m own =
    codes "\nfunc (value *" ++ (own ++ (codes ") " ++ (decoder_name m ++
    (codes "(data []byte) error {\n\t*value = " ++ (own ++ codes "(data)\n\treturn nil\n}\n")))))

abbrev pub opaque_methods : Option Package → Marshal → (own : List ℕ) → List ℕ
opaque_methods (Some p) m own = []
opaque_methods None m own = encoder_text m own ++ decoder_text m own

abbrev pub methods_text : (name own : List ℕ) → Kind → List ℕ
methods_text name own (kind.Opaque m) = opaque_methods (package_of name m) m own
methods_text name own _ = []

-- behind an empty line, a comment with the type's id and the names under which it is registered, and its declaration
abbrev pub declaration_text : Table → List TypeId → List Naming → TypeId → Shape → List ℕ
declaration_text T ts ps t s =
    codes "\n// type " ++ (decimal t.0 ++ (encoded_text s.kind ++ (names_text (names_of t ps) ++ (codes "\ntype " ++
    (own_name T ts t s.name ++ (codes " " ++ (kind_text T ts t s.name s.kind ++ codes "\n")))))))

-- that, and its methods
abbrev pub definition_text : Table → List TypeId → List Naming → TypeId → Option Shape → List ℕ
definition_text T ts ps t None = []
definition_text T ts ps t (Some s) =
    declaration_text T ts ps t s ++ methods_text s.name (own_name T ts t s.name) s.kind

abbrev pub definitions_text : Table → List TypeId → List Naming → (rest : List TypeId) → List ℕ
definitions_text T ts ps [] = []
definitions_text T ts ps (u ∷ us) = definition_text T ts ps u (shape_of T u) ++ definitions_text T ts ps us

-- ---- basic types that have names

abbrev pub basic_naming_text : Option (List ℕ) → (name : List ℕ) → List ℕ
basic_naming_text None name = []
basic_naming_text (Some basic) name =
    if is_go_name name then []
    else codes "\n// " ++ (basic ++ (codes " is registered as " ++ (escaped name ++ codes "\n")))

-- a name of a basic type, which no definition declares, in a comment, unless it is Go's own
abbrev pub basic_naming : Naming → List ℕ
basic_naming p = basic_naming_text (basic_text p.0.0) p.1

abbrev pub basic_namings : List Naming → List ℕ
basic_namings ps = flat_map basic_naming ps

-- ---- imports

abbrev pub is_of : Option Shape → Package → Bool
is_of None p = false
is_of (Some s) p = is_of_package p (shape_package s)

-- one of the types is of the package
abbrev pub imports : Table → List TypeId → Package → Bool
imports T ts p = list_any (λ t. is_of (shape_of T t) p) ts

abbrev pub import_text : Table → List TypeId → Package → List ℕ
import_text T ts p = if imports T ts p then codes "\t\"" ++ (package_path p ++ codes "\"\n") else []

abbrev pub imports_any : Table → List TypeId → Bool
imports_any T ts =
    imports T ts packages.Big || (imports T ts packages.Netip ||
    (imports T ts packages.Url || imports T ts packages.Time))

-- the packages of the types, in the order of their paths
abbrev pub imports_text : Table → List TypeId → List ℕ
imports_text T ts =
    if imports_any T ts
    then codes "\nimport (\n" ++ (import_text T ts packages.Big ++ (import_text T ts packages.Netip ++
    (import_text T ts packages.Url ++ (import_text T ts packages.Time ++ codes ")\n"))))
    else []

-- a file of the definitions of these types, in order, with the names under which they are registered
abbrev pub named_source : Table → List TypeId → List Naming → List ℕ
named_source T ts ps =
    codes "package types\n" ++ (imports_text T ts ++ (definitions_text T ts ps ts ++ basic_namings ps))

-- and without names
abbrev pub go_source : Table → List TypeId → List ℕ
go_source T ts = named_source T ts []
