use Rattle.std.proofs.Common.{List, refl, subst}
use Rattle.gob_stream.specs.Bounds.{within_trees}
use Rattle.gob_stream.specs.Calls.Ends.{writer_of}
use Rattle.gob_write.specs.Making.{StopsWithin, WroteFront, of_plain}
use Rattle.gob_write.specs.declared.types.Definition.{Definition}
use Rattle.gob_write.proofs.MakeLaws.{front_stops, texts_behind}
use Rattle.gob_write.proofs.run.write_made.Goals as goal

pub returns-in_err-write_definitions-clause-written : goal.returns-in_err-write_definitions-clause-written
returns-in_err-write_definitions-clause-written g c = λ K bytes h e.
    let S = of_plain (within_trees K) c.args.types.now in
    let f = c.in_err-write_definitions.field-0.0 in
    front_stops K c.args.types.now c.from_residual.result f c.from_residual.ensures.1
    (subst (λ (ds : List Definition). StopsWithin S ds (g.W.Write.contents (writer_of c.args.output.now))
    (g.W.Write.contents (writer_of c.write_definitions.new.output)) f) c.deref.ensures.value
    (c.in_err-write_definitions.ensures.written S (K, refl) h))

pub returns-clause-written : goal.returns-clause-written
returns-clause-written g c = λ K bytes h e.
    let S = of_plain (within_trees K) c.args.types.now in
    let old = g.W.Write.contents (writer_of c.args.output.now) in
    let mid = g.W.Write.contents (writer_of c.write_definitions.new.output) in
    let w = c.write_definitions.new.writer in
    texts_behind K c.args.types.now w old mid (subst (λ (ds : List Definition). WroteFront S ds w old mid)
    c.deref.ensures.value (c.in_ok-write_definitions.ensures.written S (K, refl) h))
    (λ R start within h sent. c.write_texts.ensures.written R start bytes within h sent e)
