use Rattle.std.proofs.Common.{Some, ap}
use Rattle.gob_stream.specs.Bounds.{within_trees}
use Rattle.gob_words.specs.Words.{text_of}
use Rattle.gob_plain_writer.specs.Opening.{IsWriterOfStream}
use Rattle.gob_plain_writer.proofs.FrontLaws.{opened_so}
use Rattle.gob_plain_writer.proofs.opening.writer_of_stream.Goals as goal

pub returns : goal.returns
returns c =
    let L = within_trees c.args.limits in
    let read = c.in_ok-types.ensures.types c.args.bytes.now (ap (λ r. Some r.now) c.new-input.ensures.reader) in
    opened_so L c.in_ok-types.types c.new.result (IsWriterOfStream L c.args.bytes.now (text_of c.args.named))
    (λ w opened. record { types = c.in_ok-types.types; now = _; given = read; opened = opened }) c.new.ensures
