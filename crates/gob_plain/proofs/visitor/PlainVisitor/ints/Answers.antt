-- The event is said by its tokens.
use Rattle.std.proofs.Common.{refl}
use Rattle.gob_walk.proofs.AnswerLaws.{sends_so}
use Rattle.std.proofs.lemmas.Result.{on_ok_weaker}
use Rattle.gob_plain.proofs.LineLaws.{put_weaker}
use Rattle.gob_plain.proofs.PlaceLaws.{no_name}
use Rattle.gob_plain.proofs.visitor.PlainVisitor.ints.Goals as goal

pub returns-clause-sent : goal.returns-clause-sent
returns-clause-sent g c = λ T e limit vs rest is b counted.
    (sends_so {A = Unit {0}} (λ r p. (
      tt,
      (
        refl,
        refl,
        on_ok_weaker r (put_weaker (λ ts h. no_name c.leaves_name.ensures.free
            c.leaves_name.ensures.lost h)) p,
      ),
    ))
    (c.ints.ensures.sent c.args.self.now.style (g.S.Shapes.table c.args.self.now.shapes.now) T e limit vs rest
    is b counted)).1
