use Rattle.gob_stream.specs.Bounds.{within_trees}
use Rattle.gob_stream.specs.Calls.Ends.{writer_of}
use Rattle.gob_stream.proofs.Written.WriteStreamSteps.{wrote_none}
use Rattle.gob_write.specs.Making.{definitions_of}
use Rattle.gob_plain_writer.specs.Writing.{WritesFront}
use Rattle.gob_plain_writer.proofs.FrontLaws.{all_written, answers_so, one_stopped, one_written}
use Rattle.gob_plain_writer.proofs.writer.write_definitions.Goals as goal

pub loop-definition-init : goal.loop-definition-init
loop-definition-init g c = record {
  wrote = λ L new. wrote_none (within_trees L) (definitions_of c.args.definitions.now) c.args.stream.now _ new;
}

pub returns-in_err-define : goal.returns-in_err-define
returns-in_err-define g c = λ L new.
    answers_so (λ r. WritesFront (within_trees L) c.args.definitions.now c.define.new.self
    (g.W.Write.contents (writer_of c.args.output.now)) (g.W.Write.contents (writer_of c.define.new.output)) r)
    c.from_residual.result c.in_err-define.field-0.0 c.from_residual.ensures.1
    (one_stopped L c.args.definitions.now c.loop-definition.definition-index c.loop-definition.stream c.define.new.self
    _ c.definition-item.result g.W.Write.contents c.loop-definition.output c.define.new.output
    c.in_err-define.field-0.0 (c.loop-definition.invariant.wrote L new) c.definition-item.is
    c.loop-definition-test.true c.in_err-define.ensures)

pub loop-definition-preserved : goal.loop-definition-preserved
loop-definition-preserved g c = record {
  wrote = λ L new.
      one_written L c.args.definitions.now c.loop-definition.definition-index c.loop-definition.stream
      c.define.new.self _ c.definition-item.result g.W.Write.contents c.loop-definition.output c.define.new.output tt
      (c.loop-definition.invariant.wrote L new) c.definition-item.is c.loop-definition-test.true
      c.in_ok-define.ensures;
}

pub returns : goal.returns
returns g c = λ L new.
    all_written (within_trees L) c.args.definitions.now c.loop-definition.definition-index c.loop-definition.stream _ _
    (c.loop-definition.invariant.wrote L new) c.loop-definition-test.false
