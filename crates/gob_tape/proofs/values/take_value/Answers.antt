use Rattle.std.proofs.lemmas.Result.{IfOk-weaker}
use Rattle.gob_tape.proofs.ValueLaws.{number_value, raw_value}
use Rattle.gob_tape.proofs.values.take_value.Goals as goal

pub returns-in-Number : goal.returns-in-Number
returns-in-Number c = rw c.in-Number.is (number_value c.args.pool.now c.in-Number.kind c.in-Number.first
    c.in-Number.second c.number_value.ensures)

pub returns-in-Raw : goal.returns-in-Raw
returns-in-Raw c =
    IfOk-weaker c.raw_value.result _ _
    (λ value e. rw c.in-Raw.is (raw_value c.args.pool.now c.in-Raw.kind c.in-Raw.start c.in-Raw.count
    c.raw_bytes.ensures e)) c.raw_value.ensures

pub returns-in-Group : goal.returns-in-Group
returns-in-Group c =
    let w = c.in-Group in
    IfOk-weaker c.take_group.result _ _ (λ value t. rw w.is (t c.args.pool.now w.field-2)) c.take_group.ensures
