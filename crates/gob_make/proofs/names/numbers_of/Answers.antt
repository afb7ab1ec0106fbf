-- Field by field more is known.
use Rattle.std.proofs.Common.{◌-◌, arith, rules}
use Rattle.std.specs.String.{string_bytes}
use Rattle.std.proofs.lemmas.Map.Text.{btree_map_updates_text}
use Rattle.gob_make.proofs.NameLaws.{names_more, names_none}
use Rattle.gob_make.proofs.names.numbers_of.Goals as goal

pub names-init : goal.names-init
names-init c = record {
  within = omega arith;
  known = names_none c.args.types.now _ _ (search rules) (search rules);
}

pub names-preserved : goal.names-preserved
names-preserved c =
    let name = string_bytes c.in_ok-name.name in
    record {
      within = omega arith;
      known =
          names_more c.args.types.now c.names.left (c.names.left - 1) c.index-types-left.result name c.names.numbers
          c.insert.new.self (omega arith) (omega arith) c.index-types-left.is (search rules)
          (btree_map_updates_text name c.names.numbers c.insert.new.self _ c.in_ok-insert.ensures.updates)
          c.names.invariant.known;
    }
