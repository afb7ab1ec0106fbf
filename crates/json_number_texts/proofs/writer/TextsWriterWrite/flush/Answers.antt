-- Nothing waits, and the writer below keeps what it has.
use Rattle.std.proofs.Common.{◌∙◌}
use Rattle.std.proofs.KnownBytes.{append_known-kept}
use Rattle.json_number_texts.proofs.WriterLaws.{kept_some, lines_out, on_ok}
use Rattle.json_number_texts.proofs.writer.TextsWriterWrite.flush.Goals as goal

pub returns-in_err-send-clause-kept : goal.returns-in_err-send-clause-kept
returns-in_err-send-clause-kept g c = λ before given t. record {
  passed = kept_some _ _ _ c.in_err-send.ensures.kept t.passed;
  place = c.in_err-send.ensures.place ∙ t.place;
}

pub returns-clause-kept : goal.returns-clause-kept
returns-clause-kept g c = λ before given t.
    let sent = c.in_ok-send.ensures in record {
      passed = kept_some _ _ _ (append_known-kept _ _ _ c.flush.ensures.bytes) (kept_some _ _ _ sent.kept t.passed);
      place = sent.place ∙ t.place;
    }

pub returns-clause-lines : goal.returns-clause-lines
returns-clause-lines g c = λ before ds whole t.
    let sent = c.in_ok-send.ensures in
    on_ok c.flush.result (lines_out _ _ _ before _ ds whole t.passed sent.kept sent.sent.0 c.flush.ensures.bytes)
