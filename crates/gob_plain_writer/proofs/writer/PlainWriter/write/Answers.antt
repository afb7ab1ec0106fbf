use Rattle.std.proofs.Common.{ap, take, ◌∙◌}
use Rattle.gob_value.specs.View.{view}
use Rattle.gob_stream.specs.Calls.Ends.{writer_of}
use Rattle.gob_stream.specs.Item.{puts}
use Rattle.gob_plain_writer.proofs.PutLaws.{kept_so}
use Rattle.gob_plain_writer.proofs.writer.PlainWriter.write.Goals as goal

pub returns-then-is_err-clause-kept : goal.returns-then-is_err-clause-kept
returns-then-is_err-clause-kept c =
    let w = c.args.self.now in
    let put = c.put-answer in
    kept_so w.stream put.new.self (puts w.making.id (view c.args.value.now)) (writer_of c.new-output.result).items
    (writer_of put.new.output).items w.waiting.items c.truncate.new.self.items c.len-before.result put.result
    put.ensures.effects.usable put.ensures.writes (λ h. (put.ensures.effects.failed h).0) put.ensures.effects.leaves
    (ap (λ v. v.items) (c.new-output.ensures.writer ∙ c.replace.ensures.value)) (c.len-before.ensures ∙ w.waiting.ok.0)
    (c.truncate.ensures.items ∙ ap (λ v. take c.len-before.result v.items) c.into_inner.ensures)
