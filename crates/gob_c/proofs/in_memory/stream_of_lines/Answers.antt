-- What the run wrote to an output that was empty.
use Rattle.std.proofs.Common.{◌≡◌, ◌∙◌, [], Some, ap, subst}
use Rattle.std.specs.Prelude.{true}
use Rattle.gob_stream.specs.Bounds.{within_trees}
use Rattle.gob_stream.specs.Calls.Ends.{writer_of}
use Rattle.gob_write.specs.Grammar.{RunAnswers}
use Rattle.gob_write.specs.Shown.{filled_lines}
use Rattle.gob_c.specs.Streams.{longest_line}
use Rattle.gob_c.specs.Writing.{standard}
use Rattle.gob_c.proofs.StreamLaws.{written_so}
use Rattle.gob_c.proofs.in_memory.stream_of_lines.Goals as goal

pub returns : goal.returns
returns c =
    let empty : (writer_of c.new-output.result).items ≡ [] = ap (λ w. w.items) c.new-output.ensures.writer
    ∙ c.new.ensures.items in
    let run = c.run_write-answer in
    let written = run.ensures.written c.args.text.now (ap (λ r. Some r.now) c.new-input.ensures.reader) in
    written_so (λ old new. RunAnswers (filled_lines true standard) longest_line c.args.text.now (Some old) (Some new)
    run.result) (writer_of c.new-output.result).items (writer_of run.new.output).items c.into_inner.result.items empty
    (ap (λ w. w.items) c.into_inner.ensures) (subst (λ L. RunAnswers (filled_lines true (within_trees L)) longest_line
    c.args.text.now (Some (writer_of c.new-output.result).items) (Some (writer_of run.new.output).items) run.result)
    c.standard.ensures written)
