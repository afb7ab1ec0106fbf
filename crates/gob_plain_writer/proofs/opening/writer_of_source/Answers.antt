use Rattle.gob_stream.specs.Bounds.{within_trees}
use Rattle.gob_words.specs.Words.{text_of}
use Rattle.gob_plain_writer.specs.Opening.{IsWriterOfSource}
use Rattle.gob_plain_writer.proofs.FrontLaws.{opened_so}
use Rattle.gob_plain_writer.proofs.opening.writer_of_source.Goals as goal

pub returns : goal.returns
returns c =
    let L = within_trees c.args.limits in
    opened_so L c.in_ok-types.types c.new.result (IsWriterOfSource L c.args.source.now (text_of c.args.named))
    (λ w opened. record { types = c.in_ok-types.types; given = c.in_ok-types.ensures; opened = opened }) c.new.ensures
