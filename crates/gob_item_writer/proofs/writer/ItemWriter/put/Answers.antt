use Rattle.std.proofs.Common.{ap, ◌∙◌, Ok}
use Rattle.gob_types.specs.Defined.{types}
use Rattle.gob_item_writer.specs.Faults.{of_nodes, of_writing}
use Rattle.gob_item_writer.specs.Writing.{PutAnswers, StaysFailed, limits_of}
use Rattle.gob_item_writer.proofs.PutLaws.{answers_so, bytes_too_long, item_fails, no_item, nodes_refused}
use Rattle.gob_item_writer.proofs.PutLaws.{says_whole, spells, stays_so, type_refused, value_put, value_written}
use Rattle.gob_item_writer.proofs.writer.ItemWriter.put.Goals as goal

pub returns-in_err-admit-clause-puts : goal.returns-in_err-admit-clause-puts
returns-in_err-admit-clause-puts c = λ items bytes T h.
    let w = c.args.self.now in
    let given = c.args.given in
    let f = c.in_err-admit.field-0.0 in
    answers_so (λ r. PutAnswers w w items bytes T c.args.id given.nodes.now given.bytes.now r)
    c.from_residual-in_err-admit.result (of_writing f) c.from_residual-in_err-admit.ensures.1
    (bytes_too_long w items bytes T c.args.id given.nodes.now given.bytes.now f c.in_err-admit.ensures.0
    c.in_err-admit.ensures.1)

pub returns-in_err-judge-clause-puts : goal.returns-in_err-judge-clause-puts
returns-in_err-judge-clause-puts c = λ items bytes T h.
    let w = c.args.self.now in
    let given = c.args.given in
    let f = c.in_err-judge.field-0.0 in
    answers_so (λ r. PutAnswers w w items bytes T c.args.id given.nodes.now given.bytes.now r) c.from_residual.result
    (of_writing f) c.from_residual.ensures.1
    (type_refused w items bytes T (types c.table.result.now) c.args.id given.nodes.now given.bytes.now f
    (ap types c.table.ensures ∙ h.stream.table) c.in_err-judge.ensures)

pub returns-in_err-spell_nodes-clause-puts : goal.returns-in_err-spell_nodes-clause-puts
returns-in_err-spell_nodes-clause-puts c = λ items bytes T h.
    let w = c.args.self.now in
    let given = c.args.given in
    let f = c.in_err-spell_nodes.field-0.0 in
    answers_so (λ r. PutAnswers w w items bytes T c.args.id given.nodes.now given.bytes.now r)
    c.from_residual-in_err-spell_nodes.result (of_nodes f) c.from_residual-in_err-spell_nodes.ensures.1
    (nodes_refused w items bytes T (types c.table-2.result.now) c.args.id c.depth-depth.result given.nodes.now
    given.bytes.now f (ap types c.table-2.ensures ∙ h.stream.table) (c.depth-depth.ensures.depth ∙ ap (λ L. L.depth)
    h.limits)
    c.in_err-spell_nodes.ensures.whole)

pub returns-in_err-write_value-clause-puts : goal.returns-in_err-write_value-clause-puts
returns-in_err-write_value-clause-puts c = λ items bytes T h.
    let w = c.args.self.now in
    let given = c.args.given in
    let f = c.in_err-write_value.field-0.0 in
    let s = says_whole T (types c.table-2.result.now) given.nodes.now given.bytes.now c.args.id (limits_of w).depth
    c.depth-depth.result c.new-body.result.items c.spell_nodes.new.out.items c.deref.result.now
    (ap types c.table-2.ensures ∙ h.stream.table) (c.depth-depth.ensures.depth ∙ ap (λ L. L.depth) h.limits)
    c.new-body.ensures.items c.deref.ensures.value c.in_ok-spell_nodes.ensures.says c.in_ok-spell_nodes.ensures.spelled
    c.in_err-write_value.ensures.holds in
    answers_so (λ r. PutAnswers w c.write_value.new.self items bytes T c.args.id given.nodes.now given.bytes.now r)
    c.from_residual-in_err-write_value.result (of_writing f) c.from_residual-in_err-write_value.ensures.1
    (value_put w c.write_value.new.self items bytes T c.args.id given.nodes.now given.bytes.now c.deref.result.now f s
    (c.in_err-write_value.ensures.writes items bytes T s.filled.value h.stream (spells (limits_of w) s)))

pub returns-clause-puts : goal.returns-clause-puts
returns-clause-puts c = λ items bytes T h.
    let w = c.args.self.now in
    let given = c.args.given in
    let s = says_whole T (types c.table-2.result.now) given.nodes.now given.bytes.now c.args.id (limits_of w).depth
    c.depth-depth.result c.new-body.result.items c.spell_nodes.new.out.items c.deref.result.now
    (ap types c.table-2.ensures ∙ h.stream.table) (c.depth-depth.ensures.depth ∙ ap (λ L. L.depth) h.limits)
    c.new-body.ensures.items c.deref.ensures.value c.in_ok-spell_nodes.ensures.says c.in_ok-spell_nodes.ensures.spelled
    c.in_ok-write_value.ensures.holds in
    value_written w c.write_value.new.self items bytes T c.args.id given.nodes.now given.bytes.now c.deref.result.now s
    (c.in_ok-write_value.ensures.writes items bytes T s.filled.value h.stream (spells (limits_of w) s))

pub returns-in_err-judge-clause-stays : goal.returns-in_err-judge-clause-stays
returns-in_err-judge-clause-stays c = λ failed. stays_so c.args.self.now c.from_residual.result
    c.from_residual.ensures.0

pub returns-in_err-admit-clause-stays : goal.returns-in_err-admit-clause-stays
returns-in_err-admit-clause-stays c = λ failed.
    stays_so c.args.self.now c.from_residual-in_err-admit.result c.from_residual-in_err-admit.ensures.0

pub returns-in_err-spell_nodes-clause-stays : goal.returns-in_err-spell_nodes-clause-stays
returns-in_err-spell_nodes-clause-stays c = λ failed.
    stays_so c.args.self.now c.from_residual-in_err-spell_nodes.result c.from_residual-in_err-spell_nodes.ensures.0

pub returns-in_err-write_value-clause-stays : goal.returns-in_err-write_value-clause-stays
returns-in_err-write_value-clause-stays c = λ failed.
    item_fails c.args.self.now c.write_value.new.self c.in_err-write_value.field-0.0
    c.from_residual-in_err-write_value.result c.from_residual-in_err-write_value.ensures.0
    (c.in_err-write_value.ensures.stays failed)

pub returns-clause-stays : goal.returns-clause-stays
returns-clause-stays c = λ failed.
    no_item c.args.self.now c.write_value.new.self tt
    (StaysFailed c.args.self.now c.write_value.new.self (Ok tt)) (c.in_ok-write_value.ensures.stays failed)
