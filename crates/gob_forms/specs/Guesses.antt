-- Forms that no mark shows: maps of MessagePack and of CBOR, and text in UTF-16. (The specification of MessagePack; RFC
-- 8949, CBOR; RFC 2781, UTF-16.)
use Rattle.std.specs.Prelude.{ℕ, ◌+◌, ◌-◌, ◌==◌, nat_le, Bool, ◌&&◌, ◌||◌, if◌then◌else◌, List, length, take, drop}
use Rattle.std.specs.Prelude.{slice_index}
use Rattle.std.specs.Prelude.{Option, Some, None}
use Rattle.std.specs.Char.{is_ascii_graphic}
use Rattle.std.specs.Int.{is_in_range}
use Rattle.std.specs.List.{list_all}
use Rattle.gob_forms.specs.declared.form.Form.{Form}
use Rattle.gob_forms.specs.declared.form.Form.TheVariants as form

-- a key of so many bytes stands at the front, in ASCII
abbrev pub has_key : (size : ℕ) → List ℕ → Bool
has_key size bytes = nat_le size (length bytes) && list_all is_ascii_graphic (take size bytes)

-- ---- CBOR
-- a map of up to 23 pairs or of any number, whose first key is a text of up to 23 bytes
abbrev pub is_cbor_map : List ℕ → Bool
is_cbor_map bytes = nat_le 2 (length bytes)
    && (is_in_range 161 183 (slice_index bytes 0) || slice_index bytes 0 == 191)
    && is_in_range 97 119 (slice_index bytes 1) && has_key (slice_index bytes 1 - 96) (drop 2 bytes)

-- an array with such a map at its front, which has no more pairs than its first key has bytes: in MessagePack the
-- number of pairs is the length of a key, which ends before that one does
abbrev pub is_cbor_array : List ℕ → Bool
is_cbor_array bytes = nat_le 3 (length bytes) && is_in_range 129 151 (slice_index bytes 0)
    && is_in_range 161 183 (slice_index bytes 1) && is_in_range 97 119 (slice_index bytes 2)
    && nat_le (slice_index bytes 1 - 160) (slice_index bytes 2 - 96)
    && has_key (slice_index bytes 2 - 96) (drop 3 bytes)

-- ---- MessagePack
-- a map of up to 15 pairs whose first key is a text of up to 31 bytes
abbrev pub is_packed_map : List ℕ → Bool
is_packed_map bytes = nat_le 2 (length bytes) && is_in_range 129 143 (slice_index bytes 0)
    && is_in_range 161 191 (slice_index bytes 1) && has_key (slice_index bytes 1 - 160) (drop 2 bytes)

-- an array of up to 15 elements with such a map at its front
abbrev pub is_packed_array : List ℕ → Bool
is_packed_array bytes = nat_le 1 (length bytes) && is_in_range 145 159 (slice_index bytes 0)
    && is_packed_map (drop 1 bytes)

-- what they are of these
abbrev pub form_of_first_map : List ℕ → Option Form
form_of_first_map bytes =
    if is_cbor_array bytes || is_cbor_map bytes then Some form.Cbor
    else if is_packed_array bytes || is_packed_map bytes then Some form.MessagePack
    else None

-- ---- UTF-16
-- a character of ASCII that is printed, or a space
abbrev pub is_ascii_unit : ℕ → Bool
is_ascii_unit b = is_in_range 32 126 b || b == 9 || b == 10 || b == 13

-- such a unit, by its low byte and its high one
abbrev pub is_unit : (low high : ℕ) → Bool
is_unit low high = is_ascii_unit low && high == 0

-- with the low byte first, and with the high byte first
abbrev pub is_low_unit : List ℕ → (place : ℕ) → Bool
is_low_unit bytes place = is_unit (slice_index bytes place) (slice_index bytes (place + 1))

abbrev pub is_high_unit : List ℕ → (place : ℕ) → Bool
is_high_unit bytes place = is_unit (slice_index bytes (place + 1)) (slice_index bytes place)

-- behind its mark one character
abbrev pub is_marked_wide : List ℕ → Bool
is_marked_wide bytes = nat_le 4 (length bytes)
    && ((slice_index bytes 0 == 255 && slice_index bytes 1 == 254 && is_low_unit bytes 2)
    || (slice_index bytes 0 == 254 && slice_index bytes 1 == 255 && is_high_unit bytes 2))

-- or four without one
abbrev pub is_low_wide : List ℕ → Bool
is_low_wide bytes = nat_le 8 (length bytes) && is_low_unit bytes 0 && is_low_unit bytes 2 && is_low_unit bytes 4
    && is_low_unit bytes 6

abbrev pub is_high_wide : List ℕ → Bool
is_high_wide bytes = nat_le 8 (length bytes) && is_high_unit bytes 0 && is_high_unit bytes 2 && is_high_unit bytes 4
    && is_high_unit bytes 6

abbrev pub form_of_units : List ℕ → Option Form
form_of_units bytes =
    if is_marked_wide bytes then Some form.Utf16
    else if is_low_wide bytes then Some form.Utf16Low
    else if is_high_wide bytes then Some form.Utf16High
    else None
