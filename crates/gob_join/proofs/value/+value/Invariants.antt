use Rattle.std.proofs.Common.{◌≡◌, length}
use Rattle.std.specs.Vec.Iter.{into_iter_items, into_iter_len}
use Rattle.gob_join.specs.Renaming.{among}
use Rattle.gob_join.proofs.ValueLaws.{RenamesSo}
use Rattle.gob_join.proofs.value.+value.Given as goal

abbrev pub invariant-renamed_value-loop-filling : goal.invariant-renamed_value-loop-filling
invariant-renamed_value-loop-filling l =
    RenamesSo (among l.ids) (into_iter_items l.initial.filling-iterator) (into_iter_items l.filling-iterator)
    l.renamed.items
    × (into_iter_len l.filling-iterator ≡ length (into_iter_items l.filling-iterator))
