use Rattle.std.proofs.Common.{Some, ap}
use Rattle.gob_salvage.proofs.streams.take_stream.Goals as goal

pub returns-in-Ok-clause-joined : goal.returns-in-Ok-clause-joined
returns-in-Ok-clause-joined c = λ before out h _.
    (_, c.in-Ok.ensures.joined before out c.args.bytes.now h (ap (λ r. Some r.now) c.new-input.ensures.reader))
