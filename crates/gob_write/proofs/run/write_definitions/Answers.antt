use Rattle.std.proofs.Common.{◌∙◌, refl}
use Rattle.gob_stream.specs.Calls.Ends.{writer_of}
use Rattle.gob_write.specs.Making.{FrontAnswers}
use Rattle.gob_write.proofs.MakeLaws.{all_written, none_yet, one_refused, one_written}
use Rattle.gob_write.proofs.RunLaws.{err_result}
use Rattle.gob_write.proofs.run.write_definitions.Goals as goal

pub loop-definition-init : goal.loop-definition-init
loop-definition-init g c = record {
  wrote = λ S within h. none_yet S c.args.definitions.now c.args.writer.now _ h;
  writes = refl;
}

pub returns-in_err-told-clause-written : goal.returns-in_err-told-clause-written
returns-in_err-told-clause-written g c = λ S within h.
    let w' = c.write_definition-written.new.self in
    err_result (λ r. FrontAnswers S c.args.definitions.now w' (g.W.Write.contents (writer_of c.args.output.now))
    (g.W.Write.contents (writer_of c.write_definition-written.new.output)) r) c.from_residual.result
    c.in_err-told.field-0.0 c.from_residual.ensures.1
    (one_refused w' c.definition-item.result g.W.Write.contents c.loop-definition.output
    c.write_definition-written.new.output c.write_definition-written.result c.in_err-told.field-0.0 within
    (c.loop-definition.invariant.wrote S within h) c.definition-item.is c.loop-definition-test.true
    c.write_definition-written.ensures.answers c.in_err-told.ensures.told)

pub loop-definition-preserved : goal.loop-definition-preserved
loop-definition-preserved g c = record {
  wrote = λ S within h.
      one_written c.write_definition-written.new.self c.definition-item.result g.W.Write.contents
      c.loop-definition.output c.write_definition-written.new.output c.write_definition-written.result tt within
      (c.loop-definition.invariant.wrote S within h) c.definition-item.is c.loop-definition-test.true
      c.write_definition-written.ensures.answers c.in_ok-told.ensures.told c.write_definition-written.ensures.making;
  writes = c.in_ok-told.ensures.counted _ _ c.write_definition-written.ensures.answers.effects.counted
      ∙ c.loop-definition.invariant.writes;
}

pub returns-clause-written : goal.returns-clause-written
returns-clause-written g c = λ S within h.
    all_written (c.loop-definition.invariant.wrote S within h) c.loop-definition-test.false
