-- What was given grows by the piece.
use Rattle.std.proofs.Common.{◌++◌, ◌∙◌, ap, sym}
use Rattle.json_number_texts.specs.Texts.{place_after, with_texts}
use Rattle.json_number_texts.proofs.WriterLaws.{drop_on, front_again, kept_some, on_err, place_on, taken_on}
use Rattle.json_number_texts.proofs.writer.TextsWriterWrite.write.Goals as goal

pub returns-in_err-send-clause-taken : goal.returns-in_err-send-clause-taken
returns-in_err-send-clause-taken g c = λ before given t.
    on_err _ c.from_residual.result c.from_residual.ensures.0 (record {
      passed = kept_some _ _ _ c.in_err-send.ensures.kept t.passed;
      place = c.in_err-send.ensures.place ∙ t.place;
    })

pub returns-clause-taken : goal.returns-clause-taken
returns-clause-taken g c = λ before given t.
    let sent = c.in_ok-send.ensures in
    let same = front_again c.min.result c.args.buf.now in
    let text = c.send.new.self.text.items in
    let at = c.send.new.self.place in
    let waits = drop_on c.send.new.self.sent text _ _ sent.sent.2
    (c.in-Ok.ensures.texts ∙ ap (λ l. text ++ with_texts at l) (sym same)) in record {
      passed = taken_on _ before given _ _ _ at (kept_some _ _ _ sent.kept t.passed) (sent.place ∙ t.place) waits;
      place = place_on given _ at c.in-Ok.place (sent.place ∙ t.place)
          (c.in-Ok.ensures.behind ∙ ap (place_after at) (sym same));
    }
