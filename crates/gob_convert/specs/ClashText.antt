-- A clash of a value as it is told. (docs/FORMAT.md, The program: this project's own.)
use Rattle.std.specs.Fmt.{decimal}
use Rattle.std.specs.Prelude.{ℕ, List, ◌++◌, codes}
use Rattle.gob_types.specs.declared.basic.Basic.{Basic}
use Rattle.gob_types.specs.declared.basic.Basic.TheVariants as basic
use Rattle.gob_types.specs.declared.kind.Marshal.{Marshal}
use Rattle.gob_types.specs.declared.kind.Marshal.TheVariants as marshal
use Rattle.gob_match.specs.ClashText.{clash_text}
use Rattle.gob_match.specs.declared.reason.ClashReason.{ClashReason}
use Rattle.gob_match.specs.declared.reason.ClashReason.TheVariants as clash
use Rattle.gob_convert.specs.declared.clash.Clash.{Clash}
use Rattle.gob_convert.specs.declared.clash.ValueKind.{ValueKind}
use Rattle.gob_convert.specs.declared.clash.ValueKind.TheVariants as value

-- ---- what values are, in words
abbrev pub words_of_basic : Basic → List ℕ
words_of_basic basic.Bool = codes "a bool"
words_of_basic basic.Int = codes "an int"
words_of_basic basic.Uint = codes "a uint"
words_of_basic basic.Float = codes "a float"
words_of_basic basic.Bytes = codes "a byte slice"
words_of_basic basic.Str = codes "a string"
words_of_basic basic.Complex = codes "a complex"
words_of_basic basic.Interface = codes "an interface"

abbrev pub words_of_opaque : Marshal → List ℕ
words_of_opaque marshal.Gob = codes "an opaque value of GobEncode"
words_of_opaque marshal.Binary = codes "an opaque value of MarshalBinary"
words_of_opaque marshal.Text = codes "an opaque value of MarshalText"

abbrev pub kind_text : ValueKind → List ℕ
kind_text (value.Basic b) = words_of_basic b
kind_text (value.Array n) = codes "an array of " ++ decimal n
kind_text value.Slice = codes "a slice"
kind_text value.Struct = codes "a struct"
kind_text value.Map = codes "a map"
kind_text (value.Opaque m) = words_of_opaque m

-- ---- a clash
-- which value clashes, and what it has and is wanted, where these differ
abbrev pub clash_detail : ClashReason → (number : ℕ) → (stream wanted : ValueKind) → List ℕ
clash_detail clash.RepeatedName number stream wanted = codes "in value " ++ decimal number
clash_detail clash.NoCommonField number stream wanted = codes "in value " ++ decimal number
clash_detail clash.DifferentKind number stream wanted = codes "value " ++ (decimal number ++ (codes " has "
    ++ (kind_text stream ++ (codes " there, and " ++ (kind_text wanted ++ codes " is wanted")))))
clash_detail clash.DifferentLength number stream wanted = codes "value " ++ (decimal number ++ (codes " has "
    ++ (kind_text stream ++ (codes " there, and " ++ (kind_text wanted ++ codes " is wanted")))))

-- as it is told of any run, and that
abbrev pub told_clash : Clash → List ℕ
told_clash c = clash_text c.path.items c.reason ++ (codes ": " ++ clash_detail c.reason c.value c.stream c.wanted)
