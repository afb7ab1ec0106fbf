use Rattle.std.proofs.Common.{sym, ◌∙◌, true≢false}
use Rattle.std.proofs.Math.Nat.{lt_of_not-le}
use Rattle.gob_value.proofs.fitting.fits.Goals as goal

pub returns-then-is_within-clause-fault : goal.returns-then-is_within-clause-fault
returns-then-is_within-clause-fault g c =
    let within = c.is_within.ensures.0 c.if-is_within.true in (
      within,
      λ f. true≢false
          (sym (c.fits_type.ensures.1 (record { bytes = f.bytes; spelled = f.spelled; within = within }))
          ∙ c.if-fits_type.false),
    )

pub returns-else-is_within-clause-fault : goal.returns-else-is_within-clause-fault
returns-else-is_within-clause-fault g c =
    lt_of_not-le (λ within. true≢false (sym (c.is_within.ensures.1 within) ∙ c.if-is_within.false))
