use Rattle.gob_types.specs.Table.{Table}
use Rattle.gob_filled.specs.Filled.{Fillings}
use Rattle.gob_go.specs.Meaning.{AreFillings}
use Rattle.gob_go.specs.declared.filled.Filled.{out-Filled}
use Rattle.gob_views.proofs.NamingLaws.{AreNamed}
use Rattle.gob_views.proofs.gathered.+names.Given as goal

abbrev pub invariant-keep_names-loop-filling : goal.invariant-keep_names-loop-filling
invariant-keep_names-loop-filling l = (T : Table) (fs : Fillings)
    → AreFillings T (out-Filled l.value).fillings.items fs
    → AreNamed T l.value fs l.filling-index l.fn.names l.names
