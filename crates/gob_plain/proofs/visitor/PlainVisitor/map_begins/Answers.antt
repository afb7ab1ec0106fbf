-- The event is said by its tokens.
use Rattle.std.proofs.Common.{refl}
use Rattle.std.proofs.Common.{◌∙◌, sym}
use Rattle.std.proofs.lemmas.Result.{on_ok_weaker}
use Rattle.gob_plain.proofs.LineLaws.{put_of}
use Rattle.gob_plain.specs.PutsTokens.{nothing_put}
use Rattle.gob_plain.proofs.PlaceLaws.{lost_said, map_said, no_name}
use Rattle.gob_plain.proofs.visitor.PlainVisitor.map_begins.Goals as goal

pub returns-then-is_interface : goal.returns-then-is_interface
returns-then-is_interface g c = (refl, refl, nothing_put (lost_said c.gets_lost.ensures))

pub returns-then-gives_names : goal.returns-then-gives_names
returns-then-gives_names g c = (
  refl,
  refl,
  on_ok_weaker c.begin_object.result (put_of (no_name c.leaves_name.ensures.free c.leaves_name.ensures.lost
      (map_said c.args.key (sym c.is_interface.ensures
      ∙ c.if-is_interface.false) (sym c.gives_names.ensures ∙ c.if-gives_names.true)))) c.begin_object.ensures,
)

pub returns : goal.returns
returns g c = (
  refl,
  refl,
  on_ok_weaker c.begin_array.result (put_of (no_name c.leaves_name.ensures.free c.leaves_name.ensures.lost
      (map_said c.args.key (sym c.is_interface.ensures
      ∙ c.if-is_interface.false) (sym c.gives_names.ensures ∙ c.if-gives_names.false)))) c.begin_array.ensures,
)
