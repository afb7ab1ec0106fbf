use Rattle.gob_types.specs.Table.{Table}
use Rattle.gob_filled.specs.Filled.{Fillings}
use Rattle.gob_go.specs.Meaning.{AreFillings}
use Rattle.gob_go.specs.declared.filled.Filled.{out-Filled}
use Rattle.gob_go.proofs.IdLaws.{AreKept}
use Rattle.gob_go.proofs.ids.+inner.Given as goal

abbrev pub invariant-push_inner_ids-loop-filling : goal.invariant-push_inner_ids-loop-filling
invariant-push_inner_ids-loop-filling l = (T : Table) (fs : Fillings)
    → AreFillings T (out-Filled l.value).fillings.items fs
    → AreKept T l.value fs l.filling-index l.fn.ids.items l.ids.items
