-- So many items may stand up to the end.
use Rattle.gob_forms.specs.Heads.{ItemsMayStand}
use Rattle.gob_forms.proofs.chain.chain_from.Given as goal

abbrev pub invariant-loop-items : goal.invariant-loop-items
invariant-loop-items l = ItemsMayStand l.bytes l.fn.place l.items l.end
