-- The event is said by its tokens.
use Rattle.std.proofs.Common.{refl}
use Rattle.std.proofs.lemmas.Result.{on_ok_weaker}
use Rattle.gob_plain.proofs.LineLaws.{put_of}
use Rattle.gob_plain.specs.PlainEvents as said
use Rattle.gob_plain.proofs.PlaceLaws.{no_name}
use Rattle.gob_plain.proofs.visitor.PlainVisitor.struct_begins.Goals as goal

pub returns : goal.returns
returns g c = (
  refl,
  refl,
  on_ok_weaker c.begin_object.result (put_of (no_name c.leaves_name.ensures.free c.leaves_name.ensures.lost
      (said.says_struct said.says_nothing))) c.begin_object.ensures,
)
