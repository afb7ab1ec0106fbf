-- The event is said by its tokens.
use Rattle.std.proofs.Common.{refl}
use Rattle.std.proofs.lemmas.Result.{on_ok_weaker}
use Rattle.gob_plain.specs.PutsTokens.{nothing_put, put_both}
use Rattle.gob_plain.proofs.HeldTokenLaws.{opens_bare, opens_tagged}
use Rattle.gob_plain.proofs.LineLaws.{put_of}
use Rattle.gob_plain.proofs.held.PlainHeldVisitor.held_begins.Goals as goal

pub returns-then-this-ne0 : goal.returns-then-this-ne0
returns-then-this-ne0 g c = on_ok_weaker c.name.result
    (λ p. (
      refl,
      refl,
      put_of (opens_tagged c.args.self.now.style (g.S.Shapes.table c.args.self.now.shapes.now) g.row.TAGGED
          c.args.name.now c.args._id c.if-this-ne0.true c.leaves_name.ensures.free c.leaves_name.ensures.lost)
          (put_both c.in_ok-begin_object.ensures p),
    )) c.name.ensures

pub returns : goal.returns
returns g c = (
  refl,
  refl,
  nothing_put (opens_bare c.args.self.now.style (g.S.Shapes.table c.args.self.now.shapes.now) g.row.TAGGED
      c.args.name.now c.args._id c.if-this-ne0.false c.leaves_name.ensures.free c.leaves_name.ensures.lost),
)
