-- A program that prints each value of a stream. (Go's documentation of encoding/gob, Types and Values, and of
-- RegisterName; docs/FORMAT.md, Types as source: this project's own.)
use Rattle.std.specs.Prelude.{ℕ, List, [], ◌∷◌, ◌++◌, Bool, true, false, ◌==◌, ◌||◌, not, is_some, nat_le}
use Rattle.std.specs.Prelude.{if◌then◌else◌, codes, Option, Some, None}
use Rattle.std.specs.Fmt.{decimal}
use Rattle.std.specs.Str.{bytes_eq}
use Rattle.std.specs.List.{flat_map, list_any}
use Rattle.gob_types.specs.declared.id.TypeId.{TypeId}
use Rattle.gob_types.specs.declared.kind.Kind.{Kind}
use Rattle.gob_types.specs.declared.kind.Kind.TheVariants as kind
use Rattle.gob_types.specs.declared.kind.Shape.{Shape}
use Rattle.gob_types.specs.Table.{Table, shape_of}
use Rattle.gob_source.specs.declared.library.Package.TheVariants as packages
use Rattle.gob_source.specs.Library.{package_of}
use Rattle.gob_source.specs.Names.{escaped_byte}
use Rattle.gob_source.specs.Registered.{Naming, is_go_name}
use Rattle.gob_source.specs.Source.{definitions_text, import_text, type_text}

-- ---- names as Go's strings

-- a quotation mark by its digits, and any other byte as in a comment
abbrev pub quoted_byte : ℕ → List ℕ
quoted_byte c = if c == 34 then codes "\\x22" else escaped_byte c

abbrev pub quoted_bytes : List ℕ → List ℕ
quoted_bytes name = flat_map quoted_byte name

abbrev pub quoted : List ℕ → List ℕ
quoted name = codes "\"" ++ (quoted_bytes name ++ codes "\"")

-- ---- registered names

-- the name of the type
abbrev pub place_text : Table → List TypeId → TypeId → List ℕ
place_text T ts t = type_text 0 T ts t t

abbrev pub is_text_kind : List ℕ → Kind → Bool
is_text_kind name (kind.Opaque m) = not (is_some (package_of name m))
is_text_kind name _ = false

-- the type is declared as a string
abbrev pub is_text : Option Shape → Bool
is_text None = false
is_text (Some s) = is_text_kind s.name s.kind

abbrev pub new_text : List ℕ → List ℕ
new_text type = codes "new(" ++ (type ++ codes ")")

-- the zero value of a type
abbrev pub zero_text : (text : Bool) → (type : List ℕ) → List ℕ
zero_text true type = codes "*" ++ new_text type
zero_text false type = type ++ codes "{}"

abbrev pub begins_with_star : List ℕ → Bool
begins_with_star [] = false
begins_with_star (c ∷ cs) = c == 42

-- the name is that of a pointer, or an interface's, which only a pointer can fill
abbrev pub is_pointer : Naming → Bool
is_pointer p = (p.0.0 == 8) || begins_with_star p.1

abbrev pub value_text : Table → List TypeId → Naming → List ℕ
value_text T ts p =
    if is_pointer p then new_text (place_text T ts p.0)
    else zero_text (is_text (shape_of T p.0)) (place_text T ts p.0)

-- a call that registers a value under the name
abbrev pub plain_text : Table → List TypeId → Naming → List ℕ
plain_text T ts p =
    codes "\tgob.RegisterName(" ++ (quoted p.1 ++ (codes ", " ++ (value_text T ts p ++ codes ")\n")))

-- one that registers a value of a new type: Go lets a type have one name, and the basic types have theirs
abbrev pub inner_end : (pointer : Bool) → List ℕ
inner_end true = codes ", new(value))\n\t}\n"
inner_end false = codes ", *new(value))\n\t}\n"

abbrev pub inner_text : Table → List TypeId → Naming → List ℕ
inner_text T ts p =
    codes "\t{\n\t\ttype value " ++ (place_text T ts p.0 ++ (codes "\n\t\tgob.RegisterName(" ++ (quoted p.1 ++
    inner_end (is_pointer p))))

abbrev pub has_name : List ℕ → List Naming → Bool
has_name name ps = list_any (λ p. bytes_eq name p.1) ps

abbrev pub has_type : TypeId → List Naming → Bool
has_type t ps = list_any (λ p. t.0 == p.0.0) ps

abbrev pub chosen_text : Table → List TypeId → (new_name new_type : Bool) → Naming → List ℕ
chosen_text T ts new_name new_type p =
    if is_go_name p.1 || not new_name then []
    else (if nat_le p.0.0 8 || not new_type then inner_text T ts p else plain_text T ts p)

-- a name is registered once, and none that Go itself registers
abbrev pub registration_text : Table → List TypeId → (seen : List Naming) → Naming → List ℕ
registration_text T ts seen p = chosen_text T ts (not (has_name p.1 seen)) (not (has_type p.0 seen)) p

abbrev pub registrations_text : Table → List TypeId → (seen rest : List Naming) → List ℕ
registrations_text T ts seen [] = []
registrations_text T ts seen (p ∷ ps) =
    registration_text T ts seen p ++ registrations_text T ts (seen ++ p ∷ []) ps

-- the function that registers them all, where there are any
abbrev pub init_text : (calls : List ℕ) → List ℕ
init_text [] = []
init_text (c ∷ cs) =
    codes "\n// The names under which interfaces hold values.\nfunc init() {\n" ++ ((c ∷ cs) ++ codes "}\n")

-- ---- values

abbrev pub lines_text : List (List ℕ) → List ℕ
lines_text lines = flat_map (λ line. line) lines

abbrev pub case_text : Table → List TypeId → TypeId → List ℕ
case_text T ts t =
    codes "\tcase " ++ (decimal t.0 ++ (codes ":\n\t\treturn " ++ (new_text (place_text T ts t) ++ codes "\n")))

abbrev pub cases_text : Table → List TypeId → (values : List TypeId) → List ℕ
cases_text T ts vs = flat_map (case_text T ts) vs

-- where all values have one type, a loop that prints each
abbrev pub main_comment : List ℕ
main_comment =
    codes "\n// main prints each value of its standard input: as JSON, or as Go source where JSON has none such.\n"

abbrev pub one_main : List (List ℕ)
one_main =
    codes "func main() {\n" ∷
    codes "\tdecoder := gob.NewDecoder(os.Stdin)\n" ∷
    codes "\tencoder := json.NewEncoder(os.Stdout)\n" ∷
    codes "\tencoder.SetEscapeHTML(false)\n" ∷
    codes "\tfor {\n" ∷
    codes "\t\tplace := newValue()\n" ∷
    codes "\t\terr := decoder.Decode(place)\n" ∷
    codes "\t\tif err == io.EOF {\n" ∷
    codes "\t\t\treturn\n" ∷
    codes "\t\t}\n" ∷
    codes "\t\tif err != nil {\n" ∷
    codes "\t\t\tlog.Fatal(err)\n" ∷
    codes "\t\t}\n" ∷
    codes "\t\tif encoder.Encode(place) != nil {\n" ∷
    codes "\t\t\tfmt.Printf(\"%#v\\n\", reflect.ValueOf(place).Elem())\n" ∷
    codes "\t\t}\n" ∷
    codes "\t}\n" ∷
    codes "}\n" ∷ []

-- else the id of a value's type, which stands in front of it, says which it is
abbrev pub many_begin : List ℕ
many_begin =
    codes "\n// newValue returns a place for a value of the type that has this id in the stream.\n" ++
    codes "func newValue(typeID int64) interface{} {\n\tswitch typeID {\n"

abbrev pub many_main : List (List ℕ)
many_main =
    codes "\t}\n" ∷
    codes "\tlog.Fatalf(\"no value of type %d is expected\", typeID)\n" ∷
    codes "\treturn nil\n" ∷
    codes "}\n" ∷
    codes "\n" ∷
    codes "// readNumber reads a number as gob spells it, and returns how many bytes it has.\n" ∷
    codes "func readNumber(text []byte) (uint64, int) {\n" ∷
    codes "\tvar head [9]byte\n" ∷
    codes "\tcopy(head[:], text)\n" ∷
    codes "\tcount := 256 - int(head[0])\n" ∷
    codes "\tif count > 8 {\n" ∷
    codes "\t\treturn uint64(head[0]), 1\n" ∷
    codes "\t}\n" ∷
    codes "\tvar number uint64\n" ∷
    codes "\tfor _, digit := range head[1 : 1+count] {\n" ∷
    codes "\t\tnumber = number<<8 | uint64(digit)\n" ∷
    codes "\t}\n" ∷
    codes "\treturn number, 1 + count\n" ∷
    codes "}\n" ∷
    codes "\n" ∷
    codes "// nextType returns the id of the type of the next value, which stands behind definitions of types.\n" ∷
    codes "func nextType(input *bufio.Reader) (int64, error) {\n" ∷
    codes "\tfor at := 0; ; {\n" ∷
    codes "\t\thead, err := input.Peek(at + 18)\n" ∷
    codes "\t\tif len(head) <= at {\n" ∷
    codes "\t\t\treturn 0, err\n" ∷
    codes "\t\t}\n" ∷
    codes "\t\tlength, begin := readNumber(head[at:])\n" ∷
    codes "\t\tif len(head) <= at+begin || length > 1<<30 {\n" ∷
    codes "\t\t\treturn 0, io.ErrUnexpectedEOF\n" ∷
    codes "\t\t}\n" ∷
    codes "\t\tnumber, _ := readNumber(head[at+begin:])\n" ∷
    codes "\t\tif number&1 == 0 {\n" ∷
    codes "\t\t\treturn int64(number >> 1), nil\n" ∷
    codes "\t\t}\n" ∷
    codes "\t\tat += begin + int(length)\n" ∷
    codes "\t}\n" ∷
    codes "}\n" ∷ []

abbrev pub many_loop : List (List ℕ)
many_loop =
    codes "func main() {\n" ∷
    codes "\tinput := bufio.NewReaderSize(os.Stdin, 1<<20)\n" ∷
    codes "\tdecoder := gob.NewDecoder(input)\n" ∷
    codes "\tencoder := json.NewEncoder(os.Stdout)\n" ∷
    codes "\tencoder.SetEscapeHTML(false)\n" ∷
    codes "\tfor {\n" ∷
    codes "\t\tid, err := nextType(input)\n" ∷
    codes "\t\tif err == io.EOF {\n" ∷
    codes "\t\t\treturn\n" ∷
    codes "\t\t}\n" ∷
    codes "\t\tif err != nil {\n" ∷
    codes "\t\t\tlog.Fatal(err)\n" ∷
    codes "\t\t}\n" ∷
    codes "\t\tplace := newValue(id)\n" ∷
    codes "\t\tif err := decoder.Decode(place); err != nil {\n" ∷
    codes "\t\t\tlog.Fatal(err)\n" ∷
    codes "\t\t}\n" ∷
    codes "\t\tif encoder.Encode(place) != nil {\n" ∷
    codes "\t\t\tfmt.Printf(\"%#v\\n\", reflect.ValueOf(place).Elem())\n" ∷
    codes "\t\t}\n" ∷
    codes "\t}\n" ∷
    codes "}\n" ∷ []

abbrev pub one_text : Table → List TypeId → TypeId → List ℕ
one_text T ts t =
    codes "\n// newValue returns a place for a value.\nfunc newValue() interface{} {\n\treturn " ++
    (new_text (place_text T ts t) ++ (codes "\n}\n" ++ (main_comment ++ lines_text one_main)))

abbrev pub many_text : Table → List TypeId → (values : List TypeId) → List ℕ
many_text T ts vs =
    many_begin ++ (cases_text T ts vs ++ (lines_text many_main ++ (main_comment ++ lines_text many_loop)))

abbrev pub has_one : List TypeId → Bool
has_one [] = false
has_one (v ∷ []) = true
has_one (v ∷ w ∷ ws) = false

abbrev pub main_text : Table → List TypeId → (values : List TypeId) → List ℕ
main_text T ts [] = many_text T ts []
main_text T ts (v ∷ []) = one_text T ts v
main_text T ts (v ∷ w ∷ ws) = many_text T ts (v ∷ w ∷ ws)

-- ---- the program

abbrev pub buffer_import : (one : Bool) → List ℕ
buffer_import true = []
buffer_import false = codes "\t\"bufio\"\n"

abbrev pub program_imports : Table → List TypeId → (one : Bool) → List ℕ
program_imports T ts one =
    codes "\nimport (\n" ++ (buffer_import one ++
    (codes "\t\"encoding/gob\"\n\t\"encoding/json\"\n\t\"fmt\"\n\t\"io\"\n\t\"log\"\n" ++
    (import_text T ts packages.Big ++ (import_text T ts packages.Netip ++ (import_text T ts packages.Url ++
    (codes "\t\"os\"\n\t\"reflect\"\n" ++ (import_text T ts packages.Time ++ codes ")\n")))))))

-- a program that declares the types, registers the names, and prints each value of its standard input, where all
-- values have one of these types
abbrev pub go_program : Table → List TypeId → List Naming → (values : List TypeId) → List ℕ
go_program T ts ps vs =
    codes "package main\n" ++ (program_imports T ts (has_one vs) ++ (definitions_text T ts ps ts ++
    (init_text (registrations_text T ts [] ps) ++ main_text T ts vs)))
