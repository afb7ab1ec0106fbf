-- The words of a node, as programs in other languages see it. (docs/LIBRARY.md, Flat nodes: this project's own.)
use Rattle.std.specs.Prelude.{ℕ, Option, Some, None}
use Rattle.gob_types.specs.declared.basic.Basic.{Basic}
use Rattle.gob_types.specs.declared.basic.Basic.TheVariants as basic
use Rattle.gob_read.specs.declared.event.RawKind.{RawKind}
use Rattle.gob_read.specs.declared.event.RawKind.TheVariants as raw
use Rattle.gob_read.specs.declared.event.GroupKind.{GroupKind}
use Rattle.gob_read.specs.declared.event.GroupKind.TheVariants as group
use Rattle.gob_tape.specs.declared.node.Content.{Content}
use Rattle.gob_tape.specs.declared.node.Content.TheVariants as content
use Rattle.gob_tape.specs.declared.flat.FlatNode.{FlatNode}
use Rattle.gob_tape.specs.Machine.Noted.{Noted}
use Rattle.gob_tape.specs.Machine.Packing.{first_number, second_of, number_of}

-- the code of a part that is told by its numbers: the id of its basic type
abbrev pub number_code : Basic → ℕ
number_code basic.Bool = 1
number_code basic.Int = 2
number_code basic.Uint = 3
number_code basic.Float = 4
number_code basic.Bytes = 5
number_code basic.Str = 6
number_code basic.Complex = 7
number_code basic.Interface = 8

-- of a part of raw bytes
abbrev pub raw_code : RawKind → ℕ
raw_code raw.Bytes = 5
raw_code raw.Str = 6
raw_code raw.Opaque = 12

-- of a part that has parts
abbrev pub group_code : GroupKind → ℕ
group_code group.Many = 9
group_code group.Pairs = 10
group_code group.Fields = 11

abbrev pub content_code : Content → ℕ
content_code (content.Number k a b) = number_code k
content_code (content.Raw k a b) = raw_code k
content_code (content.Group k a b) = group_code k

-- 1 for a field of a struct
abbrev pub named_word : Option ℕ → ℕ
named_word (Some n) = 1
named_word None = 0

-- the words of a node
abbrev pub flat : Noted → FlatNode
flat n = record {
  first = first_number n.content;
  second = second_of n.content;
  number = number_of n.field;
  kind = content_code n.content;
  named = named_word n.field;
}
