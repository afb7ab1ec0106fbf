use Rattle.std.proofs.Common.{Ok}
use Rattle.gob_item_writer.specs.Faults.{of_nodes, of_writing}
use Rattle.gob_item_writer.specs.Writing.{DefineAnswers, StaysFailed}
use Rattle.gob_item_writer.proofs.PutLaws.{answers_so, item_fails, names_too_long, no_item, shape_put}
use Rattle.gob_item_writer.proofs.PutLaws.{shape_refused, stays_so}
use Rattle.gob_item_writer.proofs.writer.ItemWriter.define.Goals as goal

pub returns-in_err-admit-clause-defines : goal.returns-in_err-admit-clause-defines
returns-in_err-admit-clause-defines c = λ items bytes T h.
    let w = c.args.self.now in
    let given = c.args.given in
    let f = c.in_err-admit.field-0.0 in
    answers_so (λ r. DefineAnswers w w items bytes T c.args.id given.nodes.now given.bytes.now r) c.from_residual.result
    (of_writing f) c.from_residual.ensures.1
    (names_too_long w items bytes T c.args.id given.nodes.now given.bytes.now f c.in_err-admit.ensures.0
    c.in_err-admit.ensures.1)

pub returns-in_err-shape-clause-defines : goal.returns-in_err-shape-clause-defines
returns-in_err-shape-clause-defines c = λ items bytes T h.
    let w = c.args.self.now in
    let given = c.args.given in
    let f = c.in_err-shape.field-0.0 in
    answers_so (λ r. DefineAnswers w w items bytes T c.args.id given.nodes.now given.bytes.now r)
    c.from_residual-in_err-shape.result (of_nodes f) c.from_residual-in_err-shape.ensures.1
    (shape_refused w items bytes T c.args.id given.nodes.now given.bytes.now f
    (λ e s says d. c.in_err-shape.ensures.whole s says d e))

pub returns-in_err-write_definition-clause-defines : goal.returns-in_err-write_definition-clause-defines
returns-in_err-write_definition-clause-defines c = λ items bytes T h.
    let w = c.args.self.now in
    let given = c.args.given in
    let f = c.in_err-write_definition.field-0.0 in
    answers_so (λ r. DefineAnswers w c.write_definition.new.self items bytes T c.args.id given.nodes.now
    given.bytes.now r)
    c.from_residual-in_err-write_definition.result (of_writing f) c.from_residual-in_err-write_definition.ensures.1
    (shape_put w c.write_definition.new.self items bytes T c.args.id given.nodes.now given.bytes.now
    c.in_ok-shape.shape f
    c.in_ok-shape.ensures.says (c.in_err-write_definition.ensures.writes items bytes T h.stream))

pub returns-clause-defines : goal.returns-clause-defines
returns-clause-defines c = λ items bytes T h. record {
  shape = c.in_ok-shape.shape;
  says = c.in_ok-shape.ensures.says;
  wrote = c.in_ok-write_definition.ensures.writes items bytes T h.stream;
}

pub returns-in_err-admit-clause-stays : goal.returns-in_err-admit-clause-stays
returns-in_err-admit-clause-stays c = λ failed. stays_so c.args.self.now c.from_residual.result
    c.from_residual.ensures.0

pub returns-in_err-shape-clause-stays : goal.returns-in_err-shape-clause-stays
returns-in_err-shape-clause-stays c = λ failed.
    stays_so c.args.self.now c.from_residual-in_err-shape.result c.from_residual-in_err-shape.ensures.0

pub returns-in_err-write_definition-clause-stays : goal.returns-in_err-write_definition-clause-stays
returns-in_err-write_definition-clause-stays c = λ failed.
    item_fails c.args.self.now c.write_definition.new.self c.in_err-write_definition.field-0.0
    c.from_residual-in_err-write_definition.result c.from_residual-in_err-write_definition.ensures.0
    (c.in_err-write_definition.ensures.stays failed)

pub returns-clause-stays : goal.returns-clause-stays
returns-clause-stays c = λ failed.
    no_item c.args.self.now c.write_definition.new.self tt
    (StaysFailed c.args.self.now c.write_definition.new.self (Ok tt)) (c.in_ok-write_definition.ensures.stays failed)
