-- What the writer has and what was lost are what the run wrote.
use Rattle.std.proofs.Common.{◌≡◌, ◌∙◌, ap, sym}
use Rattle.std.specs.Io.KnownBytes.{append_known}
use Rattle.gob_stream.specs.Calls.Ends.{writer_of}
use Rattle.gob.proofs.settled.Goals as goal

pub returns-clause-settled : goal.returns-clause-settled
returns-clause-settled g c =
    let left = writer_of c.args.output in
    let lost = c.into_parts-pipe.result.1.items in
    let inner : c.into_parts-pipe.result.0.writer ≡ left.inner.writer =
    ap (λ p. p.writer) (c.into_parts-pipe.ensures.inner ∙ ap (λ b. b.inner) c.into_inner.ensures) in
    let buffer : lost ≡ left.buf.items = c.into_parts-pipe.ensures.buffer
    ∙ ap (λ b. b.buf.items) c.into_inner.ensures in
    record {
      lost = lost;
      told = c.but_for_lost-answer.result;
      tells = record {
        whole = λ none. c.but_for_lost-answer.ensures.whole (c.deref.ensures.value ∙ none);
        cut = λ some. c.but_for_lost-answer.ensures.cut (λ none. some (sym c.deref.ensures.value ∙ none));
      };
      answered = c.ended-ending.ensures.answered;
      all = sym (ap (λ w. append_known (g.W.Write.contents w) lost) inner
          ∙ ap (λ l. append_known (g.W.Write.contents left.inner.writer) l) buffer);
    }
