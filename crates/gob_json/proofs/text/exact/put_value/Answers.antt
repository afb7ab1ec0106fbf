-- The output is where the text went.
use Rattle.std.proofs.Common.{rules}
use Rattle.gob_json.proofs.text.exact.put_value.Goals as goal

pub returns-clause-sent : goal.returns-clause-sent
returns-clause-sent g c = λ v p deep.
    let h = c.tell_value-made.ensures.sent v p deep in
    let same = h.0 in
    let sent = h.1 in
    search rules
