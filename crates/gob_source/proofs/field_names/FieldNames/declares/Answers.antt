-- The names that are known are those of the fields that were seen.
use Rattle.gob_source.proofs.FieldNameLaws.{names_declare}
use Rattle.gob_source.proofs.field_names.FieldNames.declares.Goals as goal

pub returns : goal.returns
returns c = λ seen knows.
    names_declare c.args.self.now c.add.new.self c.args.field.now c.as_bytes-name.result.now c.in_ok-first.first
    c.can_declare.result c.as_bytes-name.ensures c.in_ok-first.ensures.0 c.in_ok-first.ensures.1 c.can_declare.ensures
    seen knows
