-- The output is where the text went.
use Rattle.std.proofs.Common.{rules}
use Rattle.gob_plain.proofs.line.put_ints.Goals as goal

pub returns-clause-sent : goal.returns-clause-sent
returns-clause-sent g c = λ T e limit vs rest is b counted.
    let h = c.tell_ints-told.ensures.sent T e limit vs rest is b counted in
    let same = h.0 in
    let sent = h.1 in
    search rules
