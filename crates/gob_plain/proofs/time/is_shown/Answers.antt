-- Each test decides one of the facts of a time that is shown.
use Rattle.std.proofs.Common.{◌∙◌, sym, subst, arith, rules, true≢false, FitsSigned, w32, w64}
use Rattle.std.specs.Int.{w128}
use Rattle.std.proofs.lemmas.Int.{ints, to_z-of_z}
use Rattle.jiff_core.specs.Calendar.{IsWithin}
use Rattle.gob_plain.specs.TimeText.{IsInYears}
use Rattle.gob_plain.proofs.time.is_shown.Goals as goal

pub returns-then-nanos_of-ge1000000000 : goal.returns-then-nanos_of-ge1000000000
returns-then-nanos_of-ge1000000000 c =
    (λ e. absurd (true≢false (sym e)), λ s. absurd (let n = s.nanos in omega arith))

pub returns-then-seconds_of-lt0 : goal.returns-then-seconds_of-lt0
returns-then-seconds_of-lt0 c =
    let fits : FitsSigned w64 c.seconds_of.result = search rules in
    (λ e. absurd (true≢false (sym e)), λ s. absurd (let n = s.start in omega (arith, ints)))

pub returns-then-is_within_a_day : goal.returns-then-is_within_a_day
returns-then-is_within_a_day c =
    let fits : FitsSigned w64 c.seconds_of.result = search rules in
    let ahead = to_z-of_z w32 c.seconds_ahead.result (search rules) ∙ c.seconds_ahead.ensures in
    let nanos = to_z-of_z w128 c.clock_nanos.result (search rules) ∙ c.clock_nanos.ensures in (
      λ e. record {
        layout = c.requires.layout;
        nanos = omega arith;
        start = omega (arith, ints);
        ahead = subst (IsWithin 86_399) ahead (c.is_within_a_day.ensures.0 c.if-is_within_a_day.true);
        year = subst IsInYears nanos (c.is_in_years.ensures.0 e);
      },
      λ s. c.is_in_years.ensures.1 (subst IsInYears (sym nanos) s.year),
    )

pub returns-else-is_within_a_day : goal.returns-else-is_within_a_day
returns-else-is_within_a_day c =
    let ahead = to_z-of_z w32 c.seconds_ahead.result (search rules) ∙ c.seconds_ahead.ensures in (
      λ e. absurd (true≢false (sym e ∙ c.if-is_within_a_day.false)),
      λ s. c.is_within_a_day.ensures.1 (subst (IsWithin 86_399) (sym ahead) s.ahead),
    )
