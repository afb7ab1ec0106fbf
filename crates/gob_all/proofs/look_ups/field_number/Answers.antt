use Rattle.std.proofs.Common.{◌≡◌, Some, rules}
use Rattle.gob_types.specs.KindParts.{fields_named}
use Rattle.gob_all.proofs.LookUpLaws.{first_field}
use Rattle.gob_all.proofs.look_ups.field_number.Goals as goal

pub returns : goal.returns
returns c =
    let there : fields_named c.args.shape.now.kind ≡ Some c.in_ok-fields.field-0.now = search rules in
    first_field c.args.shape.now c.args.name.now c.number_in.result there (rw c.as_slice.ensures at c.number_in.ensures)
