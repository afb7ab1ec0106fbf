use Rattle.std.proofs.Common.{◌++◌}
use Rattle.gob_stream.specs.Bounds.{within_trees}
use Rattle.gob_stream.specs.Calls.Ends.{reader_of, writer_of}
use Rattle.gob_salvage.proofs.BehindLaws.{behind_answers}
use Rattle.gob_salvage.proofs.behind.run_salvage_behind.Goals as goal

pub returns-clause-kept : goal.returns-clause-kept
returns-clause-kept g c = λ bytes known.
    behind_answers (within_trees c.args.limits) c.args.front.now bytes
    (g.R.Read.remaining (reader_of c.run_salvage-answer.new.input))
    (g.W.Write.contents (writer_of c.args.output.now))
    (g.W.Write.contents (writer_of c.run_salvage-answer.new.output)) c.run_salvage-answer.new.told
    c.tell_behind.new.told c.run_salvage-answer.result
    (c.run_salvage-answer.ensures.kept (c.args.front.now.bytes.items ++ bytes) known) c.tell_behind.ensures
