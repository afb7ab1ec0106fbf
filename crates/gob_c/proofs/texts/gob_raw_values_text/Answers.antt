use Rattle.std.proofs.Common.{refl, subst}
use Rattle.std.specs.Result.{IfOk}
use Rattle.std.proofs.lemmas.Result.{IfOk-weaker}
use Rattle.gob_stream.specs.Bounds.{within_trees}
use Rattle.gob_views.specs.InMemory.{AreLinesIn}
use Rattle.gob_c.specs.Asked.{asked_bounds}
use Rattle.gob_c.specs.Texts.{IsLinesText}
use Rattle.gob_c.proofs.TextLaws.{tells_said}
use Rattle.gob_c.proofs.texts.gob_raw_values_text.Goals as goal

pub returns : goal.returns
returns c =
    let L = asked_bounds c.args.asked.now in
    let lines = c.plain_lines.result in
    tells_said L (IsLinesText L c.args.bytes.now) c.values_of.result c.args.room.now c.put_said.new.room
    c.put_said.result (c.in-Some.ensures.some.0 refl)
    (IfOk-weaker c.values_of.result _ _ (λ s h. (lines, c.plain_lines.ensures, (s.refusal, h)))
    (subst (λ L. IfOk c.values_of.result (AreLinesIn lines (within_trees L) c.args.bytes.now)) c.in-Some.ensures.given
    c.values_of.ensures)) c.put_said.ensures
