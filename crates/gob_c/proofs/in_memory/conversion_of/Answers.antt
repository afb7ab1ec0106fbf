-- What the run wrote to an output that was empty.
use Rattle.std.proofs.Common.{◌≡◌, ◌∙◌, [], Some, ap}
use Rattle.gob_stream.specs.Bounds.{within_trees}
use Rattle.gob_stream.specs.Calls.Ends.{writer_of}
use Rattle.gob_c.proofs.StreamLaws.{converts_so}
use Rattle.gob_c.proofs.in_memory.conversion_of.Goals as goal

pub returns : goal.returns
returns c =
    let empty : (writer_of c.new-output.result).items ≡ [] = ap (λ w. w.items) c.new-output.ensures.writer
    ∙ c.new.ensures.items in
    let options = c.args.options.now in
    let run = c.run_convert-answer in
    let written = run.ensures.converted c.args.wanted.now c.args.bytes.now
    (ap (λ r. Some r.now) c.new-types.ensures.reader) (ap (λ r. Some r.now) c.new-input.ensures.reader) in
    converts_so options.renames.now options.all (within_trees options.limits) c.args.wanted.now c.args.bytes.now
    (writer_of c.new-output.result).items (writer_of run.new.output).items c.into_inner.result.items _ _
    c.new-left_out.result run.new.left_out run.result empty (ap (λ w. w.items) c.into_inner.ensures)
    c.new-left_out.ensures written
