-- The event is said by its tokens.
use Rattle.std.proofs.Common.{refl}
use Rattle.std.proofs.Common.{◌∙◌, sym}
use Rattle.std.proofs.lemmas.Result.{on_ok_weaker}
use Rattle.gob_plain.proofs.LineLaws.{put_of}
use Rattle.gob_plain.proofs.PlaceLaws.{no_name, map_end_said}
use Rattle.gob_plain.proofs.visitor.PlainVisitor.map_ends.Goals as goal

pub returns-then-gives_names : goal.returns-then-gives_names
returns-then-gives_names g c = (
  refl,
  refl,
  on_ok_weaker c.end_object.result (put_of (no_name c.leaves_name.ensures.free c.leaves_name.ensures.lost
      (map_end_said c.args.key (sym
      c.gives_names.ensures ∙ c.if-gives_names.true)))) c.end_object.ensures,
)

pub returns : goal.returns
returns g c = (
  refl,
  refl,
  on_ok_weaker c.end_array.result (put_of (no_name c.leaves_name.ensures.free c.leaves_name.ensures.lost
      (map_end_said c.args.key (sym
      c.gives_names.ensures ∙ c.if-gives_names.false)))) c.end_array.ensures,
)
