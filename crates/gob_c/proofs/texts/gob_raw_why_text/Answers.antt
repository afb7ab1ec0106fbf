use Rattle.std.proofs.Common.{refl, subst}
use Rattle.std.specs.Result.{IfOk}
use Rattle.std.proofs.lemmas.Result.{IfOk-weaker}
use Rattle.gob_stream.specs.Bounds.{within_trees}
use Rattle.gob_why.specs.Said.{IsSaidOf}
use Rattle.gob_c.specs.Asked.{asked_bounds}
use Rattle.gob_c.specs.Texts.{IsWhyText}
use Rattle.gob_c.proofs.TextLaws.{tells_said}
use Rattle.gob_c.proofs.texts.gob_raw_why_text.Goals as goal

pub returns : goal.returns
returns c =
    let L = asked_bounds c.args.asked.now in
    tells_said L (IsWhyText L c.args.bytes.now) c.why_of.result c.args.room.now c.put_said.new.room c.put_said.result
    (c.in-Some.ensures.some.0 refl)
    (IfOk-weaker c.why_of.result _ _ (λ s h. (s.refusal, h))
    (subst (λ L. IfOk c.why_of.result (IsSaidOf (within_trees L) c.args.bytes.now)) c.in-Some.ensures.given
    c.why_of.ensures)) c.put_said.ensures
