-- Place by place more is known.
use Rattle.std.proofs.Common.{◌-◌, arith, rules}
use Rattle.gob_go_types.proofs.CodeLaws.{distinct_more, distinct_none, names_more, names_none}
use Rattle.gob_go_types.proofs.code.names_of.Goals as goal

pub names-init : goal.names-init
names-init c = record {
  within = omega arith;
  known = names_none c.args.declarations.now _ _ (search rules) (search rules);
  distinct = distinct_none c.args.declarations.now _ (search rules);
}

pub names-preserved : goal.names-preserved
names-preserved c = record {
  within = omega arith;
  known =
      names_more c.args.declarations.now c.names.left (c.names.left - 1) _ c.names.names.entries
      c.put_name.new.names.entries (omega arith) (omega arith) (search rules) c.in_ok-put_name.ensures
      c.names.invariant.known;
  distinct =
      distinct_more c.args.declarations.now c.names.left (c.names.left - 1) _ c.names.names.entries
      c.put_name.new.names.entries (omega arith) (omega arith) (search rules) c.in_ok-put_name.ensures
      c.names.invariant.known c.names.invariant.distinct;
}
