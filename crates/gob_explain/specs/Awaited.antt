-- What comes next behind rows, in words. (docs/FORMAT.md, Explained bytes: this project's own.)
use Rattle.std.specs.Prelude.{ℕ, zero, suc, List, [], ◌++◌, ◌+◌, ◌-◌, min, nat_lt, Option, Some, None, codes, length}
use Rattle.std.specs.Prelude.{if◌then◌else◌, slice_get}
use Rattle.std.specs.Fmt.{decimal}
use Rattle.gob_types.specs.declared.basic.Basic.{Basic}
use Rattle.gob_types.specs.declared.basic.Basic.TheVariants as basic
use Rattle.gob_types.specs.declared.kind.Field.{Field}
use Rattle.gob_types.specs.declared.kind.Kind.{Kind}
use Rattle.gob_types.specs.declared.kind.Kind.TheVariants as kind
use Rattle.gob_types.specs.declared.kind.Shape.{Shape}
use Rattle.gob_types.specs.Table.{Table, shape_of}
use Rattle.gob_explain.specs.Names.{field_name}
use Rattle.gob_explain.specs.declared.row.Awaited.{Awaited}
use Rattle.gob_explain.specs.declared.row.What.{What}
use Rattle.gob_explain.specs.declared.row.What.TheVariants as what

abbrev pub basic_text : Basic → List ℕ
basic_text basic.Bool = codes "a bool, 0 or 1"
basic_text basic.Int = codes "an int"
basic_text basic.Uint = codes "a uint"
basic_text basic.Float = codes "a float"
basic_text basic.Complex = codes "the real part of a complex"
basic_text basic.Bytes = codes "the count of the bytes"
basic_text basic.Str = codes "the count of the bytes"
basic_text basic.Interface = codes "0, an interface that is nil, or the count of a name"

-- the first so many deltas that may come, each with the name of its field, from the field of this number on
unfoldable pub delta_texts : List Field → (next count : ℕ) → List ℕ
delta_texts fields next zero = []
delta_texts fields next (suc n) =
    delta_texts fields next n ++ (codes ", " ++ (decimal (n + 1) ++ (codes " for "
    ++ field_name (slice_get fields (next + n)))))

-- of more than 8 deltas the first 8
abbrev pub more_text : ℕ → List ℕ
more_text left = if nat_lt 8 left then codes " .." else []

-- the deltas that may come where so many fields are left
abbrev pub deltas_text : List Field → (left : ℕ) → List ℕ
deltas_text fields left =
    (codes "0, which ends the struct" ++ delta_texts fields (length fields - left) (min left 8)) ++ more_text left

abbrev pub kind_text : Kind → ℕ → List ℕ
kind_text (kind.Basic b) most = basic_text b
kind_text (kind.Array e n) most = decimal n ++ codes ", the count of the elements"
kind_text (kind.Slice e) most = codes "the count of the elements"
kind_text (kind.Map k e) most = codes "the count of the pairs"
kind_text (kind.Opaque marshal) most = codes "the count of the bytes"
kind_text (kind.Struct fields) most = deltas_text fields (min most (length fields))

abbrev pub shape_text : Option Shape → ℕ → List ℕ
shape_text None most = []
shape_text (Some s) most = kind_text s.kind most

abbrev pub what_text : What → Option Shape → ℕ → List ℕ
what_text what.Tag s most = codes "the tag, which is 0"
what_text what.First s most = shape_text s most
what_text what.Imaginary s most = codes "the imaginary part of a complex"
what_text what.Raw s most = decimal most ++ codes " bytes"
what_text what.Delta s most = shape_text s most
what_text what.TypeNumber s most = codes "a type number"
what_text what.Segment s most = codes "the count of a segment"

abbrev pub awaited_text : Table → Awaited → List ℕ
awaited_text T a = what_text a.what (shape_of T a.id) a.most
