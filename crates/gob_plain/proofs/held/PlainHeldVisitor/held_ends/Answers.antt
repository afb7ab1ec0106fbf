-- The event is said by its tokens.
use Rattle.std.proofs.Common.{refl}
use Rattle.std.proofs.lemmas.Result.{on_ok_weaker}
use Rattle.gob_plain.specs.PutsTokens.{nothing_put}
use Rattle.gob_plain.proofs.HeldTokenLaws.{closes_bare, closes_tagged}
use Rattle.gob_plain.proofs.LineLaws.{put_of}
use Rattle.gob_plain.proofs.held.PlainHeldVisitor.held_ends.Goals as goal

pub returns-then-this-ne0 : goal.returns-then-this-ne0
returns-then-this-ne0 g c = on_ok_weaker c.end_object.result
    (λ p. (
      refl,
      refl,
      put_of (closes_tagged c.args.self.now.style (g.S.Shapes.table c.args.self.now.shapes.now) g.row.TAGGED
          c.if-this-ne0.true c.leaves_name.ensures.free c.leaves_name.ensures.lost) p,
    )) c.end_object.ensures

pub returns : goal.returns
returns g c = (refl, refl, nothing_put (closes_bare g.row.TAGGED c.if-this-ne0.false))
