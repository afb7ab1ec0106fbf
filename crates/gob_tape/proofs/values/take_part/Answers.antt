use Rattle.gob_tape.proofs.ValueLaws.{popped}
use Rattle.gob_tape.proofs.values.take_part.Goals as goal

pub returns : goal.returns
returns c =
    let old = c.args.parts.now in
    popped old.items c.pop.new.self.items _ c.pop.result c.unwrap_or.result old.ok.0 c.pop.ensures.value
    c.pop.ensures.rest c.unwrap_or.ensures
