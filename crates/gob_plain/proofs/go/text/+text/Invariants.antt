-- What the fillings so far hold, with what the rest hold, is what all hold.
use Rattle.std.proofs.Common.{drop}
use Rattle.gob_types.specs.Defined.{types}
use Rattle.gob_go.specs.declared.filled.Filled.{out-Filled}
use Rattle.gob_plain.proofs.HeldPlainLaws.{FitWithRest}
use Rattle.gob_plain.proofs.go.text.+text.Given as goal

abbrev pub invariant-all_held-loop-filling : goal.invariant-all_held-loop-filling
invariant-all_held-loop-filling l =
    FitWithRest l.tagged l.style (types l.table) (drop l.filling-index (out-Filled l.value).fillings.items)
    (out-Filled l.value).fillings.items l.all.items
