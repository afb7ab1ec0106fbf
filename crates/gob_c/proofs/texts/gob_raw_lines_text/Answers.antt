use Rattle.std.proofs.Common.{refl, subst}
use Rattle.std.specs.Result.{IfOk}
use Rattle.std.proofs.lemmas.Result.{IfOk-weaker}
use Rattle.gob_stream.specs.Bounds.{within_trees}
use Rattle.gob_c.specs.Asked.{asked_bounds}
use Rattle.gob_c.specs.Texts.{AreShownLines, IsShownOf}
use Rattle.gob_c.proofs.TextLaws.{tells_said}
use Rattle.gob_c.proofs.texts.gob_raw_lines_text.Goals as goal

pub returns : goal.returns
returns c =
    let L = asked_bounds c.args.asked.now in
    tells_said L (AreShownLines L c.args.bytes.now) c.shown_of.result c.args.room.now c.put_said.new.room
    c.put_said.result (c.in-Some.ensures.some.0 refl)
    (IfOk-weaker c.shown_of.result _ _ (λ s h. (s.refusal, h))
    (subst (λ L. IfOk c.shown_of.result (IsShownOf (within_trees L) c.args.bytes.now)) c.in-Some.ensures.given
    c.shown_of.ensures)) c.put_said.ensures
