-- The texts of opaque values whose Go types write themselves in binary, and show themselves as texts: UUIDs, and the
-- addresses of net/netip. (RFC 9562, section 4; RFC 5952; Go's net/netip/netip.go, MarshalBinary and MarshalText;
-- docs/FORMAT.md, Plain values: this project's own.)
use Rattle.std.specs.Prelude.{◌≡◌, ◌==◌, ◌&&◌, ◌||◌, nat_le, if◌then◌else◌, ℕ, ◌+◌, ◌-◌, List, [], ◌∷◌, ◌++◌, length}
use Rattle.std.specs.Prelude.{take, drop, Bool, true, false, Option, Some, None, slice_index, codes}
use Rattle.base64.specs.Engines.{standard}
use Rattle.base64.specs.GeneralPurpose.{encode_of}
use Rattle.std.specs.Fmt.{decimal}
use Rattle.std.specs.Int.{from_be_bytes, from_le_bytes, w16}
use Rattle.std.specs.Net.Text.{ipv4_text, ipv6_text}
use Rattle.std.specs.Str.{is_utf8}
use Rattle.uuid.specs.Text.{hyphenated_text, lower}
use Rattle.json.specs.Json.{Json}
use Rattle.json.specs.Json as json

-- the 16 bytes of a UUID
abbrev pub uuid_text : List ℕ → Option (List ℕ)
uuid_text b = if length b == 16 then Some (hyphenated_text lower b) else None

-- ---- addresses

-- the segment of an IPv6 address that begins at this place, and all of them
abbrev pub segment : List ℕ → ℕ → ℕ
segment b i = from_be_bytes w16 (slice_index b i ∷ slice_index b (i + 1) ∷ [])

abbrev pub segments : List ℕ → List ℕ
segments b =
    segment b 0 ∷ segment b 2 ∷ segment b 4 ∷ segment b 6 ∷ segment b 8 ∷ segment b 10 ∷ segment b 12
    ∷ segment b 14 ∷ []

-- behind the 16 bytes of an IPv6 address stands the name of its zone, where it has one
abbrev pub zoned_text : List ℕ → List ℕ → List ℕ
zoned_text address [] = address
zoned_text address (c ∷ cs) = address ++ (codes "%" ++ (c ∷ cs))

-- 4 bytes of IPv4, or 16 of IPv6 and a zone in UTF-8
abbrev pub address_text : List ℕ → Option (List ℕ)
address_text b =
    if length b == 4 then Some (ipv4_text b)
    else (if nat_le 16 (length b) && is_utf8 (drop 16 b) then Some (zoned_text (ipv6_text (segments b)) (drop 16 b))
    else None)

-- the address without a zone, and how many of its bits are the prefix
abbrev pub bits_fit : List ℕ → Bool
bits_fit b =
    ((length b == 5) && nat_le (slice_index b 4) 32) || ((length b == 17) && nat_le (slice_index b 16) 128)

abbrev pub with_bits : ℕ → Option (List ℕ) → Option (List ℕ)
with_bits n None = None
with_bits n (Some address) = Some (address ++ (codes "/" ++ decimal n))

abbrev pub prefix_text : List ℕ → Option (List ℕ)
prefix_text b =
    if bits_fit b then with_bits (slice_index b (length b - 1)) (address_text (take (length b - 1) b)) else None

-- the address, in brackets where it is one of IPv6, and a port, whose low byte comes first
abbrev pub port : List ℕ → ℕ
port b = from_le_bytes w16 (slice_index b (length b - 2) ∷ slice_index b (length b - 1) ∷ [])

abbrev pub with_port : Bool → ℕ → Option (List ℕ) → Option (List ℕ)
with_port v4 n None = None
with_port true n (Some address) = Some (address ++ (codes ":" ++ decimal n))
with_port false n (Some address) = Some (codes "[" ++ (address ++ (codes "]:" ++ decimal n)))

abbrev pub address_port_text : List ℕ → Option (List ℕ)
address_port_text b =
    if nat_le 2 (length b) then with_port (length b == 6) (port b) (address_text (take (length b - 2) b)) else None

-- ---- the JSON

-- the text, or the bytes in base64 where there is none
abbrev pub text_or_bytes : Option (List ℕ) → List ℕ → List ℕ
text_or_bytes (Some text) b = text
text_or_bytes None b = encode_of standard b

abbrev pub SaysKnown : Option (List ℕ) → List ℕ → Json → Type 0
SaysKnown text b j = j ≡ json.string (text_or_bytes text b)
