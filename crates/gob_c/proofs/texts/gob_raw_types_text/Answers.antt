use Rattle.std.proofs.Common.{refl, subst}
use Rattle.std.specs.Result.{IfOk}
use Rattle.std.proofs.lemmas.Result.{IfOk-weaker}
use Rattle.gob_stream.specs.Bounds.{within_trees}
use Rattle.gob_views.specs.InMemory.{IsSourceOf}
use Rattle.gob_views.specs.declared.types.SourceForm.TheVariants as form
use Rattle.gob_c.specs.Asked.{asked_bounds}
use Rattle.gob_c.specs.Texts.{IsTypesText}
use Rattle.gob_c.proofs.TextLaws.{tells_said}
use Rattle.gob_c.proofs.texts.gob_raw_types_text.Goals as goal

pub returns : goal.returns
returns c =
    let L = asked_bounds c.args.asked.now in
    tells_said L (IsTypesText L c.args.bytes.now) c.types_of.result c.args.room.now c.put_said.new.room
    c.put_said.result
    (c.in-Some.ensures.some.0 refl)
    (IfOk-weaker c.types_of.result _ _ (λ s h. (s.refusal, h))
    (subst (λ L. IfOk c.types_of.result (IsSourceOf form.Types (within_trees L) c.args.bytes.now))
    c.in-Some.ensures.given
    c.types_of.ensures)) c.put_said.ensures
