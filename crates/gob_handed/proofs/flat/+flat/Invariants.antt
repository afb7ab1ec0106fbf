use Rattle.std.proofs.Common.{ℕ, List, drop}
use Rattle.gob_types.specs.Defined.{types}
use Rattle.gob_types.specs.declared.id.TypeId.{TypeId}
use Rattle.gob_filled.specs.Filled.{Fillings}
use Rattle.gob_go.specs.Meaning.{AreFillings}
use Rattle.gob_json_writer.specs.Gaps.{AreGaps}
use Rattle.gob_handed.proofs.FillingLaws.{AreLeft}
use Rattle.gob_handed.proofs.flat.+flat.Given as goal

abbrev pub invariant-push_fillings-fillings : goal.invariant-push_fillings-fillings
invariant-push_fillings-fillings l = (t : TypeId) (b : List ℕ) (fs : Fillings)
    → AreGaps (types l.table) t b 0 l.fillings l.gaps → AreFillings (types l.table) l.fillings fs
    → AreLeft (types l.table) t b l.first l.next (drop l.place l.fillings) (drop l.place l.gaps) fs
    l.fn.out.nodes.items l.fn.out.pool.items l.out.nodes.items l.out.pool.items
