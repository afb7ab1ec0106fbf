use Rattle.gob_tape.proofs.ValueLaws.{list_value, map_value, struct_value}
use Rattle.gob_tape.proofs.values.take_group.Goals as goal

pub returns-in_ok-take_elements-in-Many : goal.returns-in_ok-take_elements-in-Many
returns-in_ok-take_elements-in-Many c = λ pool extent.
    let made = c.in_ok-take_elements-in-Many in
    rw c.in-Many.is (list_value pool made.field-0 c.args.count extent made.ensures)

pub returns-in_ok-take_pairs-in-Pairs : goal.returns-in_ok-take_pairs-in-Pairs
returns-in_ok-take_pairs-in-Pairs c = λ pool extent.
    let made = c.in_ok-take_pairs-in-Pairs in
    rw c.in-Pairs.is (map_value pool made.field-0 c.args.count extent made.ensures)

pub returns-in_ok-take_fields-in-Fields : goal.returns-in_ok-take_fields-in-Fields
returns-in_ok-take_fields-in-Fields c = λ pool extent.
    let made = c.in_ok-take_fields-in-Fields in
    rw c.in-Fields.is (struct_value pool made.field-0 c.args.count extent made.ensures)
