use Rattle.std.proofs.Common.{◌++◌}
use Rattle.gob_stream.specs.Bounds.{within_trees}
use Rattle.gob_stream.specs.Calls.Ends.{reader_of}
use Rattle.gob_split.proofs.RunLaws.{split_ended}
use Rattle.gob_split.proofs.run.run_split.Goals as goal

pub returns-clause-split : goal.returns-clause-split
returns-clause-split g c = λ bytes before known old.
    let answer = c.split_items-answer in
    split_ended c.args.size (within_trees c.args.limits) bytes (g.R.Read.remaining (reader_of answer.new.input))
    (λ made. g.P.Parts.are answer.new.parts (before ++ made))
    (λ made. g.P.Parts.are c.end_parts.new.parts (before ++ made))
    answer.result c.end_parts.result (λ parts. c.end_parts.ensures.same (before ++ parts)) c.end_parts.ensures.ends
    (answer.ensures.split bytes before known old)
