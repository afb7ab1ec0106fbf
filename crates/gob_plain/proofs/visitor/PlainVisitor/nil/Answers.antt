-- The event is said by its tokens.
use Rattle.std.proofs.Common.{refl}
use Rattle.gob_value.specs.Tree as Value
use Rattle.std.proofs.lemmas.Result.{on_ok_weaker}
use Rattle.gob_plain.proofs.LineLaws.{put_of}
use Rattle.gob_plain.proofs.PlaceLaws.{empty_utf8, leaf_said, name_said}
use Rattle.gob_plain.proofs.visitor.PlainVisitor.nil.Goals as goal

pub returns-then-takes_name : goal.returns-then-takes_name
returns-then-takes_name g c = (
  refl,
  refl,
  on_ok_weaker c.known_name.result (put_of (name_said (Value.nil) empty_utf8
      (c.takes_name.ensures.name c.if-takes_name.true))) c.known_name.ensures,
)

pub returns : goal.returns
returns g c = (
  refl,
  refl,
  on_ok_weaker c.null.result (put_of (leaf_said (Value.nil) (c.takes_name.ensures.other c.if-takes_name.false) _
      (_, refl, refl))) c.null.ensures,
)
