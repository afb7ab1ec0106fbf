use Rattle.std.proofs.Common.{refl, sym, subst, Result}
use Rattle.std.proofs.KnownBytes.{Keeps-refl}
use Rattle.gob_value.specs.View.{view}
use Rattle.gob_stream.specs.Calls.Ends.{writer_of}
use Rattle.gob_write.specs.Says.{TextAnswers, wrote_nothing}
use Rattle.gob_write.specs.declared.fault.LinesFault.{LinesFault}
use Rattle.gob_write.proofs.PlaceLaws.{line_in}
use Rattle.gob_write.proofs.SaidLaws.{item_said, same_writer, told_answers, value_said, wrong_answers}
use Rattle.gob_write.proofs.writer.PlainWriter.write.Goals as goal

pub returns-in-Ok-Some-clause-says : goal.returns-in-Ok-Some-clause-says
returns-in-Ok-Some-clause-says g c = λ S items bytes T within h.
    let w = c.said.new.self in
    let w' = record w { writer = c.put-written.new.self } in
    let v = view c.in-Ok-Some.value in
    let there = same_writer w c.in-Ok-Some.ensures.writer c.in-Ok-Some.ensures.making h in
    let old = g.W.Write.contents (writer_of c.args.output.now) in
    let now = g.W.Write.contents (writer_of c.put-written.new.output) in
    let says = rw c.in-Ok-Some.field-0-is at c.in-Ok-Some.ensures.said in
    let item = item_said c.in-Ok-Some.ensures.making h.making h.written.table says in
    subst (λ (r : Result (Unit {0}) LinesFault). TextAnswers S w' items bytes T c.args.text.now c.args.start old now r)
    (sym c.told.ensures.told)
    (told_answers S w' items bytes T c.args.text.now c.args.start _ old now c.put-written.result
    (line_in c.value_place.ensures)
    (value_said w' v g.W.Write.contents c.args.output.now c.put-written.new.output c.put-written.result c.args.text.now
    within there item refl c.put-written.ensures))

pub returns-in-Ok-None-clause-says : goal.returns-in-Ok-None-clause-says
returns-in-Ok-None-clause-says g c = λ S items bytes T within h.
    wrote_nothing (rw c.in-Ok-None.field-0-is at c.in-Ok-None.ensures.said)
    (same_writer c.said.new.self c.in-Ok-None.ensures.writer c.in-Ok-None.ensures.making h) (Keeps-refl _)

pub returns-in-Err-Wrong-clause-says : goal.returns-in-Err-Wrong-clause-says
returns-in-Err-Wrong-clause-says g c = λ S items bytes T within h.
    wrong_answers S c.said.new.self items bytes T c.args.text.now c.args.start _ c.wrong_in.result c.wrong_in.ensures
