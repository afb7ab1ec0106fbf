-- The number, the name and the text of each refusal. (docs/FORMAT.md, Refusals.)
use Rattle.std.specs.Prelude.{ℕ, List, ◌++◌, codes, Option, Some, None}
use Rattle.std.specs.Fmt.{decimal}
use Rattle.gob_types.specs.declared.id.TypeId.{TypeId}
use Rattle.gob_types.specs.declared.reason.Reason.{Reason}
use Rattle.gob_types.specs.declared.reason.Reason.TheVariants as reason

abbrev pub reason_number : Reason → ℕ
reason_number reason.BadHead = 1
reason_number reason.NotMinimal = 2
reason_number reason.ItemTooLong = 3
reason_number reason.StreamTooLong = 4
reason_number reason.Short = 5
reason_number reason.Extra = 6
reason_number (reason.ReservedType id) = 7
reason_number (reason.DefinedTwice id) = 8
reason_number reason.TooManyTypes = 9
reason_number (reason.UndefinedType id) = 10
reason_number (reason.Bottomless id) = 11
reason_number reason.SingleTag = 12
reason_number reason.Bool = 13
reason_number reason.ArrayCount = 14
reason_number reason.FieldNumber = 15
reason_number reason.InterfaceValue = 16
reason_number reason.TooDeep = 17
reason_number reason.KindCount = 18
reason_number reason.WrongId = 19
reason_number reason.BadReference = 20
reason_number reason.BadLength = 21
reason_number reason.Ended = 22
reason_number reason.DoesNotFit = 23

abbrev pub reason_name : Reason → List ℕ
reason_name reason.BadHead = codes "BadHead"
reason_name reason.NotMinimal = codes "NotMinimal"
reason_name reason.ItemTooLong = codes "ItemTooLong"
reason_name reason.StreamTooLong = codes "StreamTooLong"
reason_name reason.Short = codes "Short"
reason_name reason.Extra = codes "Extra"
reason_name (reason.ReservedType id) = codes "ReservedType"
reason_name (reason.DefinedTwice id) = codes "DefinedTwice"
reason_name reason.TooManyTypes = codes "TooManyTypes"
reason_name (reason.UndefinedType id) = codes "UndefinedType"
reason_name (reason.Bottomless id) = codes "Bottomless"
reason_name reason.SingleTag = codes "SingleTag"
reason_name reason.Bool = codes "Bool"
reason_name reason.ArrayCount = codes "ArrayCount"
reason_name reason.FieldNumber = codes "FieldNumber"
reason_name reason.InterfaceValue = codes "InterfaceValue"
reason_name reason.TooDeep = codes "TooDeep"
reason_name reason.KindCount = codes "KindCount"
reason_name reason.WrongId = codes "WrongId"
reason_name reason.BadReference = codes "BadReference"
reason_name reason.BadLength = codes "BadLength"
reason_name reason.Ended = codes "Ended"
reason_name reason.DoesNotFit = codes "DoesNotFit"

-- the type id that it carries
abbrev pub reason_id : Reason → Option TypeId
reason_id (reason.ReservedType id) = Some id
reason_id (reason.DefinedTwice id) = Some id
reason_id (reason.UndefinedType id) = Some id
reason_id (reason.Bottomless id) = Some id
reason_id _ = None

-- a name with the id in parentheses behind it, where there is one
abbrev pub name_with_id : List ℕ → Option TypeId → List ℕ
name_with_id name None = name
name_with_id name (Some id) = name ++ (codes "(" ++ (decimal id.0 ++ codes ")"))

-- the reason as it is printed
abbrev pub reason_text : Reason → List ℕ
reason_text r = name_with_id (reason_name r) (reason_id r)
