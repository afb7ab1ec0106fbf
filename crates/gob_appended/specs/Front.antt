-- What stands at the front of a stream's bytes, where an item is to begin: a count, and so many bytes behind it.
-- (Go's encoding/gob documentation, Encoding Details; docs/FORMAT.md, Numbers and Items.)
use Rattle.std.specs.Prelude.{ℕ, suc, ◌+◌, ◌-◌, ◌%◌, ◌<◌, ◌≤◌, List, [], ◌∷◌, Bool, false, ◌&&◌, ◌==◌, nat_le}
use Rattle.std.specs.Prelude.{nat_lt, Option}
use Rattle.std.specs.Prelude.{None, Some, if◌then◌else◌, length, take, slice_range}
use Rattle.gob_num.specs.Unsigned.{big_endian}
use Rattle.gob_appended.specs.declared.front.Front.{Front}
use Rattle.gob_appended.specs.declared.front.Front.TheVariants as front

-- ---- the number at the front of bytes

-- digits that spell a number: the first isn't 0, and the number needs them
abbrev pub are_least : List ℕ → Bool
are_least [] = false
are_least (d ∷ ds) = nat_lt 0 d && nat_le 128 (big_endian (d ∷ ds))

-- the number of so many digits, with the head before them
abbrev pub with_digits : (count : ℕ) → List ℕ → Option (ℕ × ℕ)
with_digits count ds = if are_least ds then Some (big_endian ds, suc count) else None

-- the number that stands whole at the front, and of how many bytes
abbrev pub number_at : List ℕ → Option (ℕ × ℕ)
number_at [] = None
number_at (h ∷ bytes) =
    if nat_lt h 128 then Some (h, 1)
    else if nat_lt h 248 then None
    else if nat_lt (length bytes) (256 - h) then None
    else with_digits (256 - h) (take (256 - h) bytes)

-- ---- the item

-- behind its count it begins with a negative number, which is spelled as an odd one
abbrev pub starts_odd : Option (ℕ × ℕ) → Bool
starts_odd None = false
starts_odd (Some n) = n.0 % 2 == 1

abbrev pub is_definition : List ℕ → Bool
is_definition body = starts_odd (number_at body)

-- an item of so many bytes, those of its count with them: a definition is looked at if it has 64 KiB at the most
abbrev pub of_size : List ℕ → (behind size : ℕ) → Front
of_size bytes behind size =
    if nat_lt 65536 size then front.Plain size
    else if nat_lt (length bytes) size then front.Nothing
    else if is_definition (slice_range bytes behind size) then front.Definition size
    else front.Plain size

-- it has some bytes, and a definition all that it has
abbrev pub IsSized : List ℕ → Front → Type 0
IsSized bytes front.Nothing = Unit {0}
IsSized bytes (front.Plain n) = 0 < n
IsSized bytes (front.Definition n) = (0 < n) × (n ≤ length bytes)

abbrev pub of_count : List ℕ → Option (ℕ × ℕ) → Front
of_count bytes None = front.Nothing
of_count bytes (Some n) = of_size bytes n.1 (n.0 + n.1)

abbrev pub front_at : List ℕ → Front
front_at bytes = of_count bytes (number_at bytes)
