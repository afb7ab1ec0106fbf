-- The characters of a text are counted, and the bytes of what is none.
use Rattle.std.proofs.Common.{length, refl}
use Rattle.gob_source.proofs.IdentifierLaws.{width_of_bytes, width_of_text}
use Rattle.gob_source.proofs.names.name_width.Goals as goal

pub returns-in-Ok : goal.returns-in-Ok
returns-in-Ok c =
    width_of_text c.args.name.now c.in-Ok.text.now c.count_of.result c.in-Ok.ensures.cases.0 c.in-Ok.ensures.cases.1
    c.count_of.ensures

pub returns-in-Err : goal.returns-in-Err
returns-in-Err c =
    cc (width_of_bytes c.args.name.now (length c.args.name.now) c.in-Err.ensures.cases.0 refl)
