-- The JSON of a time, as a Time of Go's package time encodes itself. (Go's time/time.go, Time.MarshalBinary and
-- Time.GobEncode; RFC 3339; docs/FORMAT.md, Plain values: this project's own.)
use Rattle.std.specs.Prelude.{◌≡◌, ◌==◌, ◌&&◌, ◌||◌, not, nat_le, IsTrue, IsFalse, ℕ, ◌+◌, ◌<◌, List, [], ◌∷◌, ◌++◌}
use Rattle.std.specs.Prelude.{length, Bool, if◌then◌else◌, codes, Option, Some, None, slice_index, slice_get, int_div}
use Rattle.std.specs.Prelude.{ℤ, pos, neg_ℤ, ◌+ℤ◌, ◌-ℤ◌, ◌*ℤ◌, ◌≤ℤ◌}
use Rattle.std.specs.Int.{from_be_bytes, cast_signed, w8, w16, w32, w64}
use Rattle.jiff.specs.Names.{iso_datetime_text}
use Rattle.jiff_core.specs.Calendar.{IsBetween, IsWithin}
use Rattle.jiff_core.specs.DateTime.{civil_nanos}
use Rattle.jiff_core.specs.declared.civil.datetime.DateTime.{DateTime}
use Rattle.jiff_core.specs.declared.offset.Offset.{Offset}
use Rattle.jiff_fmt.specs.Text.{offset_text}
use Rattle.json.specs.Json.{Json}
use Rattle.json.specs.Json as json

-- ---- the bytes

-- A version, the seconds since 0001-01-01T00:00:00Z in 8 bytes, the nanoseconds behind them in 4, the minutes that the
-- clock is ahead of UTC in 2, and in version 2 the seconds behind these in 1; the high byte first, all but the
-- nanoseconds signed.

-- UTC itself is told by a minute behind UTC, where no zone is
abbrev pub is_utc : List ℕ → Bool
is_utc b = (slice_index b 13 == 255) && (slice_index b 14 == 255)

-- the minutes aren't below 0, or aren't above
abbrev pub has_minutes_ahead : List ℕ → Bool
has_minutes_ahead b = nat_le (slice_index b 13) 127

abbrev pub has_minutes_behind : List ℕ → Bool
has_minutes_behind b = nat_le 128 (slice_index b 13) || ((slice_index b 13 == 0) && (slice_index b 14 == 0))

-- the seconds are from 1 to 59, with the sign of the minutes
abbrev pub has_offset_seconds : List ℕ → Bool
has_offset_seconds b =
    (nat_le 1 (slice_index b 15) && (nat_le (slice_index b 15) 59 && has_minutes_ahead b))
    || (nat_le 197 (slice_index b 15) && (has_minutes_behind b && not (is_utc b)))

abbrev pub has_time_layout : List ℕ → Bool
has_time_layout b =
    ((length b == 15) && (slice_index b 0 == 1))
    || ((length b == 16) && ((slice_index b 0 == 2) && has_offset_seconds b))

-- so many of the bytes, from this place on
abbrev pub two_at : List ℕ → ℕ → List ℕ
two_at b i = slice_index b i ∷ slice_index b (i + 1) ∷ []

abbrev pub four_at : List ℕ → ℕ → List ℕ
four_at b i = two_at b i ++ two_at b (i + 2)

abbrev pub eight_at : List ℕ → ℕ → List ℕ
eight_at b i = four_at b i ++ four_at b (i + 4)

abbrev pub time_seconds : List ℕ → ℤ
time_seconds b = cast_signed w64 (from_be_bytes w64 (eight_at b 1))

abbrev pub time_nanos : List ℕ → ℕ
time_nanos b = from_be_bytes w32 (four_at b 9)

abbrev pub offset_minutes : List ℕ → ℤ
offset_minutes b = cast_signed w16 (from_be_bytes w16 (two_at b 13))

abbrev pub offset_seconds : Option ℕ → ℤ
offset_seconds None = pos 0
offset_seconds (Some n) = cast_signed w8 n

-- the seconds that the clock is ahead of UTC
abbrev pub time_ahead : List ℕ → ℤ
time_ahead b =
    if is_utc b then pos 0 else (offset_minutes b *ℤ pos 60 +ℤ offset_seconds (slice_get b 15))

-- what the clock shows then, in seconds and in nanoseconds since 1970-01-01T00:00:00 there
abbrev pub clock_seconds : List ℕ → ℤ
clock_seconds b = time_seconds b -ℤ pos 62_135_596_800 +ℤ time_ahead b

abbrev pub clock_nanos : List ℕ → ℤ
clock_nanos b = clock_seconds b *ℤ pos 1_000_000_000 +ℤ pos (time_nanos b)

-- ---- the text

-- so many nanoseconds since 1970-01-01T00:00:00 a clock shows a year from 1 to 9999
abbrev pub IsInYears : ℤ → Type 0
IsInYears n = IsBetween (neg_ℤ (pos 62_135_596_800_000_000_000)) (pos 253_402_300_799_999_999_999) n

-- the bytes are a time that can be written: it isn't before Go's first, the clock is less than a day from UTC, and it
-- shows a year from 1 to 9999
pub record IsShownTime (b : List ℕ) : Type 0 where
  pub layout : IsTrue (has_time_layout b)
  pub nanos : time_nanos b < 1_000_000_000
  pub start : pos 0 ≤ℤ time_seconds b
  pub ahead : IsWithin 86_399 (time_ahead b)
  pub year : IsInYears (clock_nanos b)

-- how far the clock is ahead of UTC, without the seconds, or that it is UTC itself
abbrev pub IsZone : List ℕ → Option Offset → Type 0
IsZone b None = IsTrue (is_utc b)
IsZone b (Some o) = IsFalse (is_utc b) × (o.seconds ≡ int_div (time_ahead b) (pos 60) *ℤ pos 60)

abbrev pub zone_text : Option Offset → List ℕ
zone_text None = codes "Z"
zone_text (Some o) = offset_text o

-- RFC 3339 of what a clock shows in a zone
abbrev pub moment_text : DateTime → Option Offset → List ℕ
moment_text clock zone = iso_datetime_text clock ++ zone_text zone

-- that of the time
pub record ShowsTime (b : List ℕ) (j : Json) : Type 0 where
  pub clock : DateTime
  pub nanos : civil_nanos clock ≡ clock_nanos b
  pub zone : Option Offset
  pub ahead : IsZone b zone
  pub text : j ≡ json.string (moment_text clock zone)

-- and of bytes that are no time that can be written this is said
pub record SaysTimeOr (P : Json → Type 0) (b : List ℕ) (j : Json) : Type 0 where
  pub shown : IsShownTime b → ShowsTime b j
  pub other : ¬ IsShownTime b → P j
