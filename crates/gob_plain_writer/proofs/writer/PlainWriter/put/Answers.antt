use Rattle.gob_value.specs.View.{view}
use Rattle.gob_stream.specs.Item.{puts}
use Rattle.gob_plain_writer.specs.Faults.{putting_fault}
use Rattle.gob_plain_writer.specs.Writing.{PutAnswers}
use Rattle.gob_plain_writer.proofs.FrontLaws.{answers_so}
use Rattle.gob_plain_writer.proofs.PutLaws.{same_stream, says_item, value_put, value_refused}
use Rattle.gob_plain_writer.proofs.writer.PlainWriter.put.Goals as goal

pub returns-in_err-write-in-Ok-Some-clause-puts : goal.returns-in_err-write-in-Ok-Some-clause-puts
returns-in_err-write-in-Ok-Some-clause-puts c = λ items bytes T h.
    let w = c.args.self.now in
    let m = c.said.new.self in
    let v = view c.in-Ok-Some.value in
    let f = c.in_err-write-in-Ok-Some.field-0.0 in
    answers_so (λ r. PutAnswers w c.write.new.self items bytes T c.args.text.now r) c.from_residual.result
    (putting_fault f) c.from_residual.ensures.1
    (value_refused w m c.write.new.self items bytes T c.args.text.now (puts m.making.id v) f c.said.ensures.same
    (says_item w m T c.args.text.now v h c.said.ensures.making
    (rw c.in-Ok-Some.field-0-is at c.in-Ok-Some.ensures.said))
    (c.in_err-write-in-Ok-Some.ensures.writes items bytes T (same_stream c.said.ensures.same.stream h)))

pub returns-in_ok-write-in-Ok-Some-clause-puts : goal.returns-in_ok-write-in-Ok-Some-clause-puts
returns-in_ok-write-in-Ok-Some-clause-puts c = λ items bytes T h.
    let w = c.args.self.now in
    let m = c.said.new.self in
    let v = view c.in-Ok-Some.value in
    value_put w m c.write.new.self items bytes T c.args.text.now (puts m.making.id v) tt c.said.ensures.same
    (says_item w m T c.args.text.now v h c.said.ensures.making
    (rw c.in-Ok-Some.field-0-is at c.in-Ok-Some.ensures.said))
    (c.in_ok-write-in-Ok-Some.ensures.writes items bytes T (same_stream c.said.ensures.same.stream h))
