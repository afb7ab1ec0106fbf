-- The text of the ints is that of the tokens that say them.
use Rattle.std.proofs.Common.{refl}
use Rattle.std.proofs.lemmas.Result.{on_ok_weaker}
use Rattle.gob_walk.proofs.PublicLaws.{sends_so}
use Rattle.gob_plain.specs.TellsTokens.{TellsTokens}
use Rattle.gob_plain.proofs.IntsLaws.{ints_put}
use Rattle.gob_plain.proofs.line.Line.ints.Goals as goal

pub returns-clause-sent : goal.returns-clause-sent
returns-clause-sent c = λ style U T e limit vs rest is b counted.
    (sends_so {puts = TellsTokens style U} {A = Unit {0}}
    (λ r p. (
      tt,
      on_ok_weaker r (λ text. ints_put style U T e is b counted c.in_ok-comma_before.ensures.0 text refl) p,
    ))
    (c.put_ints.ensures.sent T e limit vs rest is b counted)).1
