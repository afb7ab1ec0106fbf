use Rattle.std.proofs.Common.{drop}
use Rattle.gob_value.specs.View.{views, pair_views, field_views}
use Rattle.gob_value.specs.Written.{WrittenEach, WrittenPairs, WrittenFields, next_number}
use Rattle.gob_value.specs.Within.{IsSpelledWithin}
use Rattle.gob_value.specs.Tree.{trees_depth, pairs_depth, fields_depth}
use Rattle.gob_value.proofs.AppendedLaws.{Goes}
use Rattle.gob_value.proofs.value_bytes.+write.Given as goal

abbrev pub invariant-write_each-loop-part : goal.invariant-write_each-loop-part
invariant-write_each-loop-part l =
    Goes (WrittenEach (views l.parts)) (WrittenEach (views (drop l.part-index l.parts)))
    (IsSpelledWithin WrittenEach trees_depth 1000 (views (drop l.part-index l.parts))) l.fn.out.items l.out.items

abbrev pub invariant-write_pairs-loop-key : goal.invariant-write_pairs-loop-key
invariant-write_pairs-loop-key l =
    Goes (WrittenPairs (pair_views l.parts)) (WrittenPairs (pair_views (drop l.key-index l.parts)))
    (IsSpelledWithin WrittenPairs pairs_depth 1000 (pair_views (drop l.key-index l.parts))) l.fn.out.items l.out.items

abbrev pub invariant-write_fields-loop-number : goal.invariant-write_fields-loop-number
invariant-write_fields-loop-number l =
    let next = next_number l.last in
    let rest = field_views (drop l.number-index l.parts) in
    Goes (WrittenFields 0 (field_views l.parts)) (WrittenFields next rest) (IsSpelledWithin (WrittenFields next)
    fields_depth 1000 rest) l.fn.out.items
    l.out.items
