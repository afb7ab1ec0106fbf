-- The event is said by its tokens.
use Rattle.std.proofs.Common.{refl}
use Rattle.gob_plain.specs.PlainEvents as said
use Rattle.gob_plain.specs.PutsTokens.{nothing_put}
use Rattle.gob_plain.proofs.PlaceLaws.{no_name}
use Rattle.gob_plain.proofs.visitor.PlainVisitor.field_ends.Goals as goal

pub returns : goal.returns
returns g c = (
  refl,
  refl,
  nothing_put
      (no_name c.leaves_name.ensures.free c.leaves_name.ensures.lost (said.says_field_end said.says_nothing)),
)
