use Rattle.std.proofs.Common.{◌∙◌, arith, subst, sym}
use Rattle.gob_value.specs.View.{field_views, view}
use Rattle.gob_make.specs.Plain.{Puts}
use Rattle.gob_make.proofs.FieldLaws.{puts_entry}
use Rattle.gob_make.proofs.fields.put_field.Goals as goal

pub returns-in-None : goal.returns-in-None
returns-in-None c = λ put.
    let old = c.args.fields.now.entries in
    subst (λ new. Puts c.args.number (view c.args.value) 0 (field_views old) (field_views new))
    (sym c.in_ok-old.ensures.entries)
    (puts_entry old c.args.number 0 c.args.value (omega arith) (sym c.in_ok-old.ensures.old ∙ c.in-None.is))
