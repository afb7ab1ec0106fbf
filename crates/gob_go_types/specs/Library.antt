-- The types that Go knows without a declaration, and what gob makes of them. (The Go Programming Language
-- Specification, Types and Predeclared identifiers; Go's encoding/gob documentation, Types and Values and Encoding
-- Details; Go's documentation of math/big, net/netip, net/url and time; docs/FORMAT.md, Plain values, on UUID.)
use Rattle.std.specs.Prelude.{List, [], ◌∷◌, ℕ, Bool, ◌&&◌, ◌||◌, if◌then◌else◌, codes, Option, Some, None}
use Rattle.std.specs.Str.{bytes_eq}
use Rattle.std.specs.List.{list_any}
use Rattle.gob_types.specs.declared.id.TypeId.{TypeId}
use Rattle.gob_types.specs.declared.kind.Marshal.TheVariants as marshal
use Rattle.gob_types.specs.Base.{id}
use Rattle.gob_go_types.specs.declared.library.Known.{Known}
use Rattle.gob_go_types.specs.declared.library.Known.TheVariants as known

abbrev pub is_one_of : List ℕ → List (List ℕ) → Bool
is_one_of name words = list_any (λ word. bytes_eq word name) words

-- the basic type of gob that holds the values of a type that Go knows by this name
abbrev pub basic_named : List ℕ → Option TypeId
basic_named w =
    if is_one_of w (codes "bool" ∷ []) then Some (id 1) else
    if is_one_of w (codes "int" ∷ codes "int8" ∷ codes "int16" ∷ codes "int32" ∷ codes "int64" ∷ codes "rune" ∷ [])
    then Some (id 2) else
    if is_one_of w (codes "uint" ∷ codes "uint8" ∷ codes "uint16" ∷ codes "uint32" ∷ codes "uint64"
    ∷ codes "uintptr" ∷ codes "byte" ∷ []) then Some (id 3) else
    if is_one_of w (codes "float32" ∷ codes "float64" ∷ []) then Some (id 4) else
    if is_one_of w (codes "string" ∷ []) then Some (id 6) else
    if is_one_of w (codes "complex64" ∷ codes "complex128" ∷ []) then Some (id 7) else
    if is_one_of w (codes "any" ∷ codes "error" ∷ []) then Some (id 8) else None

-- the name of bytes, whose slices are byte strings
abbrev pub is_byte : List ℕ → Bool
is_byte w = is_one_of w (codes "byte" ∷ codes "uint8" ∷ [])

abbrev pub known_of_time : List ℕ → Option Known
known_of_time w =
    if is_one_of w (codes "Time" ∷ []) then Some (known.Opaque marshal.Gob) else
    if is_one_of w (codes "Duration" ∷ codes "Month" ∷ codes "Weekday" ∷ []) then Some known.Whole else None

-- the types that encode themselves by MarshalBinary
abbrev pub is_binary : List ℕ → List ℕ → Bool
is_binary p w =
    (is_one_of p (codes "netip" ∷ []) && is_one_of w (codes "Addr" ∷ codes "AddrPort" ∷ codes "Prefix" ∷ []))
    || ((is_one_of p (codes "url" ∷ []) && is_one_of w (codes "URL" ∷ []))
    || (is_one_of p (codes "uuid" ∷ []) && is_one_of w (codes "UUID" ∷ [])))

-- what is known of the type of this name of a package
abbrev pub known_of : List ℕ → List ℕ → Option Known
known_of p w =
    if is_one_of p (codes "time" ∷ []) then known_of_time w else
    if is_one_of p (codes "big" ∷ []) && is_one_of w (codes "Int" ∷ codes "Float" ∷ codes "Rat" ∷ [])
    then Some (known.Opaque marshal.Gob) else
    if is_binary p w then Some (known.Opaque marshal.Binary) else None
