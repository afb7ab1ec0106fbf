-- The loop looks for a field of which it tells.
use Rattle.std.proofs.Common.{length, refl, sym, ◌∙◌, ap, true≢false}
use Rattle.std.proofs.lemmas.Option.{slice_get_read}
use Rattle.gob_types.proofs.FirstLaws.{none_first, more_first}
use Rattle.gob_rename.specs.Renaming.{is_told}
use Rattle.gob_rename.proofs.FieldLaws.{has_such, has_none}
use Rattle.gob_rename.proofs.judging.has_told.Goals as goal

pub loop-field-init : goal.loop-field-init
loop-field-init c = none_first

pub loop-field-preserved : goal.loop-field-preserved
loop-field-preserved c = more_first c.loop-field.invariant (slice_get_read c.args.fields.now (length c.args.fields.now)
    c.loop-field.field-index c.field-item.result refl c.loop-field-test.true c.field-item.is)
    (λ t. true≢false (sym t
    ∙ ap (λ n. is_told c.args.rename.now c.args.struct_name.now n) (sym c.as_bytes.ensures)
    ∙ sym c.tells.ensures ∙ c.if-tells.false))

pub returns : goal.returns
returns c = has_none _ c.loop-field.invariant c.loop-field-test.false refl

pub returns-then-tells : goal.returns-then-tells
returns-then-tells c =
    has_such c.loop-field.field-index c.field-item.result
    (slice_get_read c.args.fields.now (length c.args.fields.now)
    c.loop-field.field-index c.field-item.result refl c.loop-field-test.true c.field-item.is)
    (ap (λ n. is_told c.args.rename.now c.args.struct_name.now n) (sym c.as_bytes.ensures)
    ∙ sym c.tells.ensures ∙ c.if-tells.true) refl
