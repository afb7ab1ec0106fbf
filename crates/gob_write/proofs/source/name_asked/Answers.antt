-- The declaration that was found has the id.
use Rattle.std.proofs.Common.{refl, subst, sym}
use Rattle.std.proofs.lemmas.Option.{slice_get-get_or}
use Rattle.gob_write.specs.Source.{IsAsked, by_id, by_name}
use Rattle.gob_write.proofs.source.name_asked.Goals as goal

pub returns-then-has_id : goal.returns-then-has_id
returns-then-has_id c =
    by_id c.loop-declaration.declaration-index c.in-Some.id _
    (slice_get-get_or c.args.declarations.now c.loop-declaration.declaration-index _ c.loop-declaration-test.true)
    (c.if-has_id.ensures.0 refl) c.in-Some.ensures

pub returns : goal.returns
returns c = subst (IsAsked c.args.declarations.now c.args.word.now) (sym c.as_bytes.ensures.value) by_name
