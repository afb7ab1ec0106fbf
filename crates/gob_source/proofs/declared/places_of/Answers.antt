-- Place by place more is known.
use Rattle.std.proofs.Common.{◌-◌, arith, rules}
use Rattle.gob_source.proofs.PlaceLaws.{ids_more}
use Rattle.gob_source.proofs.declared.places_of.Goals as goal

pub ids-preserved : goal.ids-preserved
ids-preserved c = record {
  within = omega arith;
  known =
      ids_more c.args.ids.now c.ids.left (c.ids.left - 1) _ c.ids.places.entries c.insert.new.self.entries (omega arith)
      (omega arith) (search rules) c.in_ok-insert.ensures.updates.0 c.ids.invariant.known;
}
