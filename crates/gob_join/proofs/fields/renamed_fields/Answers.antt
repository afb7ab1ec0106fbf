use Rattle.std.proofs.Common.{arith, sym, refl}
use Rattle.std.proofs.lemmas.List.{take_all}
use Rattle.gob_join.specs.Renaming.{no_field}
use Rattle.gob_join.proofs.FieldLaws.{fields_at, one_field_more, one_taken}
use Rattle.gob_join.proofs.fields.renamed_fields.Goals as goal

pub loop-field-init : goal.loop-field-init
loop-field-init c = fields_at refl (sym c.new-renamed.ensures.items) no_field

pub loop-field-preserved : goal.loop-field-preserved
loop-field-preserved c =
    fields_at (one_taken c.args.fields.now c.loop-field.field-index _ (omega arith) c.field-item.is)
    (sym c.in_ok-push.ensures.items) (one_field_more c.loop-field.invariant c.in_ok-renamed_field.ensures)

pub returns : goal.returns
returns c = fields_at (take_all c.loop-field.field-index c.args.fields.now (omega arith))
    (sym c.new.ensures) c.loop-field.invariant
