-- No head stands where its first line doesn't, where that is another, and where no empty line does.
use Rattle.std.proofs.Common.{sym, refl, ◌∙◌}
use Rattle.gob_forms.proofs.TextLaws.{no_message}
use Rattle.gob_forms.proofs.http.http_head.Goals as goal

pub returns-in_err-line-clause-none : goal.returns-in_err-line-clause-none
returns-in_err-line-clause-none c = λ _ size h. c.place_of.ensures.none c.in_err-line.was h.line h.ends_line

pub returns-then-not-ends_request-clause-none : goal.returns-then-not-ends_request-clause-none
returns-then-not-ends_request-clause-none c = λ _. no_message c.in_ok-line.ensures.first
    (rw (
      sym c.starts_with.ensures.value ∙ c.if-not-starts_with.true,
      sym c.ends_request.ensures
          ∙ c.if-not-ends_request.true,
    ) refl)

pub returns-in_err-place_of-clause-none : goal.returns-in_err-place_of-clause-none
returns-in_err-place_of-clause-none c = λ _ size h. c.place_of-2.ensures.none c.in_err-place_of.was h.end h.ends
