-- The event is said by its tokens.
use Rattle.std.proofs.Common.{refl}
use Rattle.std.proofs.Common.{Some}
use Rattle.std.proofs.lemmas.Result.{on_ok_weaker}
use Rattle.gob_plain.proofs.LineLaws.{put_weaker}
use Rattle.gob_plain.proofs.PlaceLaws.{no_name, raw_said}
use Rattle.gob_plain.proofs.visitor.PlainVisitor.raw.Goals as goal

pub returns : goal.returns
returns g c = (
  refl,
  refl,
  on_ok_weaker c.guessed.result (put_weaker (λ ts h. no_name c.leaves_name.ensures.free c.leaves_name.ensures.lost
      (raw_said (Some c.args.shape.now) c.args.bytes.now ts h))) c.guessed.ensures,
)
