-- The event is said by its tokens, where a name is UTF-8.
use Rattle.std.proofs.Common.{refl}
use Rattle.std.proofs.lemmas.Result.{on_ok_weaker}
use Rattle.gob_value.specs.Tree as Value
use Rattle.gob_plain.proofs.LineLaws.{chosen_name, known_utf8, other_name, put_of}
use Rattle.gob_plain.proofs.PlaceLaws.{leaf_said, lost_said, name_said}
use Rattle.gob_plain.proofs.visitor.PlainVisitor.text.Goals as goal

pub returns-then-not-takes_name : goal.returns-then-not-takes_name
returns-then-not-takes_name g c = (
  refl,
  refl,
  on_ok_weaker c.text.result (put_of (leaf_said (Value.text c.args.bytes.now)
      (c.takes_name.ensures.other c.if-not-takes_name.true) _ (_, refl, refl))) c.text.ensures,
)

pub returns-then-branch : goal.returns-then-branch
returns-then-branch g c = (
  refl,
  refl,
  put_of (name_said (Value.text c.args.bytes.now) (known_utf8 _ _ _ c.if-branch.true c.in_ok-key.ensures)
      (c.takes_name.ensures.name c.if-not-takes_name.false)) (chosen_name c.args.bytes.now c.if-branch.true
      c.in_ok-key.ensures),
)

pub returns : goal.returns
returns g c = (
  refl,
  refl,
  put_of (lost_said c.gets_lost.ensures) (other_name c.if-branch.false c.in_ok-key.ensures).1,
)
