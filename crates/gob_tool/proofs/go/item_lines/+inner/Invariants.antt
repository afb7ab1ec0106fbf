use Rattle.gob_types.specs.Defined.{types}
use Rattle.gob_filled.specs.Filled.{Fillings}
use Rattle.gob_go.specs.Meaning.{AreFillings}
use Rattle.gob_go.specs.declared.filled.Filled.{out-Filled}
use Rattle.gob_tool.proofs.Profile.LineLaws.{IsMade}
use Rattle.gob_tool.proofs.go.item_lines.+inner.Given as goal

abbrev pub invariant-push_inner-loop-filling : goal.invariant-push_inner-loop-filling
invariant-push_inner-loop-filling l = (fs : Fillings)
    → AreFillings (types l.table) (out-Filled l.value).fillings.items fs
    → IsMade (types l.table) l.value fs l.filling-index l.fn.lines.items l.lines.items
