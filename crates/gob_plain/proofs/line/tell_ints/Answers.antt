-- What is told of the ints has their text.
use Rattle.gob_walk.proofs.PublicLaws.{sends_so}
use Rattle.gob_plain.proofs.line.tell_ints.Goals as goal

pub returns-clause-sent : goal.returns-clause-sent
returns-clause-sent g c = λ T e limit vs rest is b counted.
    sends_so (λ r p. p) (c.ints.ensures.sent T e limit vs rest is b counted)
