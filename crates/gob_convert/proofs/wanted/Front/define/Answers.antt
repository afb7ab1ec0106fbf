use Rattle.gob_convert.proofs.WantedLaws.{front_then}
use Rattle.gob_convert.proofs.wanted.Front.define.Goals as goal

pub returns-clause-defined : goal.returns-clause-defined
returns-clause-defined c = λ items described is h.
    front_then is h (c.in_ok-put.ensures.puts items c.args.self.now.bytes.items h.put) c.in_ok-push.ensures.items
