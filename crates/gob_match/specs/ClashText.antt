-- A clash as it is printed. (docs/LIBRARY.md, Matching and receiving, Path text: this project's own.)
use Rattle.std.specs.Prelude.{ℕ, ◌/◌, ◌%◌, List, [], ◌∷◌, ◌++◌, codes, false, if◌then◌else◌}
use Rattle.std.specs.Fmt.{decimal, digits}
use Rattle.std.specs.List.{flat_map}
use Rattle.std.specs.Str.{is_utf8}
use Rattle.gob_match.specs.declared.reason.ClashReason.{ClashReason}
use Rattle.gob_match.specs.declared.reason.ClashReason.TheVariants as clash
use Rattle.gob_match.specs.declared.step.TypeStep.{TypeStep}
use Rattle.gob_match.specs.declared.step.TypeStep.TheVariants as step
use Rattle.gob_match.specs.Reasons.{clash_number}

abbrev pub clash_name : ClashReason → List ℕ
clash_name clash.RepeatedName = codes "RepeatedName"
clash_name clash.NoCommonField = codes "NoCommonField"
clash_name clash.DifferentKind = codes "DifferentKind"
clash_name clash.DifferentLength = codes "DifferentLength"

-- the two digits of a byte in lower case hexadecimal
abbrev pub byte_digits : ℕ → List ℕ
byte_digits b = digits 16 false (b / 16) ++ digits 16 false (b % 16)

-- a name where it is UTF-8, else 0x and its bytes in hexadecimal
abbrev pub name_text : List ℕ → List ℕ
name_text name = if is_utf8 name then name else codes "0x" ++ flat_map byte_digits name

abbrev pub step_text : TypeStep → List ℕ
step_text step.Element = codes "[]"
step_text step.Key = codes "{}"
step_text (step.Named name) = codes "." ++ name_text name

-- the steps one behind another; without a step it is `top`
abbrev pub path_text : List TypeStep → List ℕ
path_text [] = codes "top"
path_text (s ∷ path) = flat_map step_text (s ∷ path)

-- number and name of the reason, and the path
abbrev pub clash_text : List TypeStep → ClashReason → List ℕ
clash_text path reason =
    codes "clash " ++ (decimal (clash_number reason) ++
    (codes " " ++ (clash_name reason ++ (codes " at " ++ path_text path))))
