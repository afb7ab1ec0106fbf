use Rattle.std.proofs.Common.{◌↔◌, IsTrue, List, subst}
use Rattle.gob_types.specs.declared.kind.Field.{Field}
use Rattle.gob_left_out.specs.LeftOut.{LacksSome}
use Rattle.gob_left_out.proofs.MayLaws.{fields_told, others_told}
use Rattle.gob_left_out.proofs.may.lacks.Goals as goal

pub returns-in-Fields : goal.returns-in-Fields
returns-in-Fields g c =
    let b = c.lacks_some.result in
    let pair = c.in-Fields.field-0 in
    fields_told c.parts_of.ensures pair c.in-Fields.is
    (subst (λ (types : List Field). IsTrue b ↔ LacksSome types pair.wanted.now) c.as_slice.ensures
    (subst (λ (wanted : List Field). IsTrue b ↔ LacksSome c.as_slice.result.now wanted) c.as_slice-in-Fields.ensures
    c.lacks_some.ensures))

pub returns-in_default : goal.returns-in_default
returns-in_default g c = others_told c.parts_of.ensures c.in_default.not-Fields
