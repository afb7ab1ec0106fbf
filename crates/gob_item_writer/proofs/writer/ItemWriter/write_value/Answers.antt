use Rattle.std.proofs.Common.{ap, refl, sym, take, ◌∙◌}
use Rattle.gob_filled.specs.Stream.{putting}
use Rattle.gob_stream.specs.Calls.Ends.{writer_of}
use Rattle.gob_item_writer.specs.Writing.{WritesNothing}
use Rattle.gob_item_writer.proofs.PutLaws.{item_cut, item_kept, not_failed, writes_nothing}
use Rattle.gob_item_writer.proofs.writer.ItemWriter.write_value.Goals as goal

pub returns-then-is_err-clause-writes : goal.returns-then-is_err-clause-writes
returns-then-is_err-clause-writes c = λ items bytes T value h spelled.
    let w = c.args.self.now in
    let put = c.put-answer in
    item_cut w (record w { stream = put.new.self; waiting = c.truncate.new.self }) items bytes T
    (putting c.args.id value) (writer_of c.new-output.result).items
    (writer_of put.new.output).items c.len-before.result put.result (sym c.is_err.ensures.value ∙ c.if-is_err.true) refl
    (ap (λ v. v.items) (c.new-output.ensures.writer ∙ c.replace.ensures.value)) (c.len-before.ensures ∙ w.waiting.ok.0)
    (c.truncate.ensures.items ∙ ap (λ v. take c.len-before.result v.items) c.into_inner.ensures)
    (put.ensures.writes items bytes T value h spelled)

pub returns-else-is_err-clause-writes : goal.returns-else-is_err-clause-writes
returns-else-is_err-clause-writes c = λ items bytes T value h spelled.
    let w = c.args.self.now in
    let put = c.put-answer in
    item_kept w (record w { stream = put.new.self; waiting = c.into_inner.result }) items bytes T
    (putting c.args.id value) (writer_of c.new-output.result).items
    (writer_of put.new.output).items put.result (sym c.is_err.ensures.value ∙ c.if-is_err.false) refl
    (ap (λ v. v.items) (c.new-output.ensures.writer ∙ c.replace.ensures.value))
    (ap (λ v. v.items) (sym c.into_inner.ensures)) (put.ensures.writes items bytes T value h spelled)

pub returns-then-is_err-clause-stays : goal.returns-then-is_err-clause-stays
returns-then-is_err-clause-stays c = λ failed.
    let w = c.args.self.now in
    let put = c.put-answer in
    let stays = put.ensures.stays failed in
    writes_nothing w (record w { stream = put.new.self; waiting = c.truncate.new.self })
    (writer_of c.new-output.result).items (writer_of put.new.output).items c.into_inner.result.items
    c.len-before.result put.result stays.0 stays.1 refl
    (ap (λ v. v.items) (c.new-output.ensures.writer ∙ c.replace.ensures.value))
    (ap (λ v. v.items) (ap writer_of stays.2)) (ap (λ v. v.items) c.into_inner.ensures)
    (c.len-before.ensures ∙ w.waiting.ok.0) c.truncate.ensures.items

pub returns-else-is_err-clause-stays : goal.returns-else-is_err-clause-stays
returns-else-is_err-clause-stays c = λ failed.
    let w = c.args.self.now in
    let put = c.put-answer in
    not_failed put.result
    (WritesNothing w (record w { stream = put.new.self; waiting = c.into_inner.result }) put.result)
    (sym c.is_err.ensures.value ∙ c.if-is_err.false) (put.ensures.stays failed).0
