-- A time that is written is said.
use Rattle.std.proofs.Common.{◌≡◌, ℕ, List, Result}
use Rattle.json.specs.Json.{Json}
use Rattle.json.specs.Json as json
use Rattle.json.specs.Written.{Written}
use Rattle.jiff_core.specs.DateTime.{civil_nanos}
use Rattle.gob_plain.specs.TimeText.{IsShownTime, IsZone, SaysTimeOr, clock_nanos, moment_text}
use Rattle.gob_plain.specs.WritesPlain.{WritesPlain}
use Rattle.gob_plain.specs.declared.time.Moment.{Moment}
use Rattle.gob_plain.proofs.SomeLaws.{some_weaker}

pub time_said : {E : Type 0} {r : Result (Unit {0}) E} {old new : Written} (P : Json → Type 0) (b : List ℕ)
    (m : Moment) → IsShownTime b × (civil_nanos m.clock ≡ clock_nanos b) × IsZone b m.zone
    → WritesPlain r old new (λ j. j ≡ json.string (moment_text m.clock m.zone))
    → WritesPlain r old new (SaysTimeOr P b)
time_said P b m h w =
    some_weaker
    (λ ts p. (
      p.0,
      record {
        shown = λ s. record { clock = m.clock; nanos = h.1; zone = m.zone; ahead = h.2; text = p.1 };
        other = λ n. absurd (n h.0);
      },
      p.2,
    ))
    w
