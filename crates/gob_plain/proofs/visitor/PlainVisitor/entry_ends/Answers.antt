-- The event is said by its tokens.
use Rattle.std.proofs.Common.{refl}
use Rattle.std.proofs.Common.{◌∙◌, sym}
use Rattle.std.proofs.lemmas.Result.{on_ok_weaker}
use Rattle.gob_plain.proofs.LineLaws.{put_of}
use Rattle.gob_plain.specs.PutsTokens.{nothing_put}
use Rattle.gob_plain.proofs.PlaceLaws.{no_name, entry_end_said}
use Rattle.gob_plain.proofs.visitor.PlainVisitor.entry_ends.Goals as goal

pub returns-then-gives_names : goal.returns-then-gives_names
returns-then-gives_names g c = (
  refl,
  refl,
  nothing_put
      (no_name c.leaves_name.ensures.free c.leaves_name.ensures.lost (entry_end_said c.args.key (sym
      c.gives_names.ensures ∙ c.if-gives_names.true))),
)

pub returns : goal.returns
returns g c = (
  refl,
  refl,
  on_ok_weaker c.end_array.result (put_of (no_name c.leaves_name.ensures.free c.leaves_name.ensures.lost
      (entry_end_said c.args.key (sym
      c.gives_names.ensures ∙ c.if-gives_names.false)))) c.end_array.ensures,
)
