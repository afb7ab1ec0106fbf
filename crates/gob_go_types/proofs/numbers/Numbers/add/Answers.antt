-- The new id is given, and was not.
use Rattle.std.proofs.Common.{arith}
use Rattle.gob_go_types.proofs.KeptLaws.{numbered_more}
use Rattle.gob_go_types.proofs.numbers.Numbers.add.Goals as goal

pub returns-clause-numbered : goal.returns-clause-numbered
returns-clause-numbered c =
    numbered_more c.args.self.now.slots.items c.push.new.self.items c.args.self.now.free c.give.new.self
    (record { id = c.in_ok-id.id; name = c.args.name; form = c.args.form }) c.requires (grind arith)
    c.in_ok-id.ensures
