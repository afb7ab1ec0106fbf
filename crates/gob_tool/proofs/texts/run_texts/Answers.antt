use Rattle.gob_stream.specs.Calls.Ends.{failed_writes, reader_of, writer_of}
use Rattle.gob_tool.specs.Texts.{IsTextBy}
use Rattle.gob_tool.proofs.TextLaws.{texts_ended, unstopped}
use Rattle.gob_tool.proofs.texts.run_texts.Goals as goal

pub returns-clause-written : goal.returns-clause-written
returns-clause-written g c = λ bytes known.
    let D = g.S.Steps.stepping in
    let answer = c.write_items-answer in
    let Is = IsTextBy D (g.M.ItemTexts.of_item c.args.texts.now) (g.M.ItemTexts.of_value c.args.texts.now) in
    texts_ended D Is (D.within c.args.limits) bytes
    (g.R.Read.remaining (reader_of answer.new.input)) (g.W.Write.contents (writer_of c.args.output.now))
    (g.W.Write.contents (writer_of answer.new.output)) (g.W.Write.contents (writer_of c.end_run.new.output))
    answer.result c.end_run.result c.end_run.ensures.bytes c.end_run.ensures.ends
    (unstopped D Is (answer.ensures.written bytes known))

pub returns-clause-writes : goal.returns-clause-writes
returns-clause-writes g c =
    c.end_run.ensures.writes (failed_writes c.args.output.now) c.write_items-answer.ensures.writes

pub returns-clause-flushed : goal.returns-clause-flushed
returns-clause-flushed g c =
    c.end_run.ensures.flushed (failed_writes c.args.output.now) c.write_items-answer.ensures.writes
