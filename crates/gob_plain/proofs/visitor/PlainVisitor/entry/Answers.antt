-- The event is said by its tokens.
use Rattle.std.proofs.Common.{refl}
use Rattle.std.proofs.Common.{◌∙◌, sym}
use Rattle.std.proofs.lemmas.Result.{on_ok_weaker}
use Rattle.gob_plain.proofs.LineLaws.{put_of}
use Rattle.gob_plain.specs.PlainEvents as said
use Rattle.gob_plain.specs.PutsTokens.{nothing_put}
use Rattle.gob_plain.proofs.PlaceLaws.{no_name, name_due}
use Rattle.gob_plain.proofs.visitor.PlainVisitor.entry.Goals as goal

pub returns-then-gives_names : goal.returns-then-gives_names
returns-then-gives_names g c = (
  refl,
  refl,
  nothing_put
      (name_due (sym c.gives_names.ensures ∙ c.if-gives_names.true) c.leaves_name.ensures.free
      c.leaves_name.ensures.lost c.expects_name.ensures.free
      c.expects_name.ensures.lost),
)

pub returns : goal.returns
returns g c = (
  refl,
  refl,
  on_ok_weaker c.begin_array.result (put_of (no_name c.leaves_name.ensures.free c.leaves_name.ensures.lost
      (said.says_entry (sym c.gives_names.ensures ∙ c.if-gives_names.false) said.says_nothing))) c.begin_array.ensures,
)
