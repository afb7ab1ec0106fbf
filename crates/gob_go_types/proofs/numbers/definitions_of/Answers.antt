-- A definition that is taken off the end goes behind the others.
use Rattle.std.proofs.Common.{arith, rules}
use Rattle.gob_go_types.proofs.SlotLaws.{last_done, none_taken, one_taken, others_done}
use Rattle.gob_go_types.proofs.numbers.definitions_of.Goals as goal

pub slots-init : goal.slots-init
slots-init c = record {
  done = c.requires;
  all = none_taken c.args.slots.items c.new-definitions.result.items (search rules);
}

pub definition_of-requires : goal.definition_of-requires
definition_of-requires c =
    last_done c.pop.new.self.items c.slots.left.items c.in-Some.slot (grind arith) c.slots.invariant.done

pub slots-preserved : goal.slots-preserved
slots-preserved c = record {
  done = others_done c.pop.new.self.items c.slots.left.items c.in-Some.slot (grind arith) c.slots.invariant.done;
  all =
      one_taken c.pop.new.self.items c.slots.left.items c.in-Some.slot c.in_ok-definition.definition
      c.slots.definitions.items c.push.new.self.items _ (grind arith) c.in_ok-definition.ensures (grind arith)
      c.slots.invariant.all;
}
