-- Place by place more is known.
use Rattle.std.proofs.Common.{◌-◌, arith, rules}
use Rattle.gob_source.proofs.PlaceLaws.{names_more}
use Rattle.gob_source.proofs.declared.names_of.Goals as goal

pub names-preserved : goal.names-preserved
names-preserved g c = record {
  within = omega arith;
  known =
      names_more (g.S.Shapes.table c.args.shapes.now) c.args.ids.now c.names.left (c.names.left - 1) _
      c.names.names.entries c.put_name.new.names.entries (omega arith) (omega arith) (search rules)
      c.in_ok-put_name.ensures c.names.invariant.known;
}
