use Rattle.gob_write.proofs.ShownSaidLaws.{definable_told, neither_said, said_told, same_writer, told_by, wrong_told}
use Rattle.gob_write.proofs.shown.ShownWriter.write.Goals as goal

pub write_said-requires : goal.write_said-requires
write_said-requires g c = definable_told _ _ _ c.args.line.now c.in-Ok.said c.in-Ok.ensures.said

pub returns-in-Ok-clause-says : goal.returns-in-Ok-clause-says
returns-in-Ok-clause-says g c = λ H L items bytes T h.
    said_told H L c.write_said.new.self items bytes T c.args.line.now c.args.number _ _ c.write_said.result
    c.told.result c.told.ensures.told
    (c.write_said.ensures.says H L c.args.line.now items bytes T
    (same_writer c.said.new.self c.in-Ok.ensures.writer c.in-Ok.ensures.form h)
    (told_by c.args.line.now c.in-Ok.said h c.in-Ok.ensures.said))

pub returns-in-Ok-clause-counted : goal.returns-in-Ok-clause-counted
returns-in-Ok-clause-counted g c = c.told.ensures.counted _ _ c.write_said.ensures.counted

pub returns-in-Err-Wrong-clause-says : goal.returns-in-Err-Wrong-clause-says
returns-in-Err-Wrong-clause-says g c = λ H L items bytes T h.
    let none = rw c.in-Err-Wrong.field-0-is at c.in-Err-Wrong.ensures.none in
    let undefined = rw c.in-Err-Wrong.field-0-is at c.in-Err-Wrong.ensures.undefined in
    wrong_told H L c.said.new.self items bytes T c.args.line.now c.args.number _ c.wrong.result c.wrong.ensures
    (λ text. neither_said c.args.line.now h (none tt text) (undefined tt text))
