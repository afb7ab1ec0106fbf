-- The JSON of an opaque value: what is known of its bytes by the name of its type and its way of marshalling, and else
-- base64. That a type of that name is Go's own is a guess, so the bytes must have the layout too. (docs/FORMAT.md,
-- Plain values: this project's own; Go's net/url/url.go and encoding/encoding.go.)
use Rattle.std.specs.Prelude.{◌≡◌, ◌==◌, ℕ, List, [], ◌∷◌, length, Bool, true, false, if◌then◌else◌, codes, Option}
use Rattle.std.specs.Prelude.{Some, None}
use Rattle.std.specs.Str.{bytes_eq, is_utf8}
use Rattle.base64.specs.Engines.{standard}
use Rattle.base64.specs.GeneralPurpose.{encode_of}
use Rattle.json.specs.Json.{Json}
use Rattle.json.specs.Json as json
use Rattle.gob_types.specs.declared.id.TypeId.{TypeId}
use Rattle.gob_types.specs.declared.kind.Kind.{Kind}
use Rattle.gob_types.specs.declared.kind.Kind.TheVariants as kind
use Rattle.gob_types.specs.declared.kind.Marshal.{Marshal}
use Rattle.gob_types.specs.declared.kind.Marshal.TheVariants as marshal
use Rattle.gob_types.specs.declared.kind.Shape.{Shape}
use Rattle.gob_plain.specs.BigInt.{SaysInt}
use Rattle.gob_plain.specs.FloatText.{SaysBigFloat}
use Rattle.gob_plain.specs.KnownText.{SaysKnown, address_port_text, address_text, prefix_text, uuid_text}
use Rattle.gob_plain.specs.RatText.{SaysRat}
use Rattle.gob_plain.specs.TimeText.{SaysTimeOr}
use Rattle.gob_plain.specs.declared.opaque.Content.{Content}
use Rattle.gob_plain.specs.declared.opaque.Content.TheVariants as content
use Rattle.gob_plain.specs.declared.style.Style.{Style}
use Rattle.gob_plain.specs.declared.style.Taken.{Taken}

-- ---- bytes and texts

-- base64 with padding, as Go's encoding/json has it (RFC 4648, section 4)
abbrev pub SaysBytes : List ℕ → Json → Type 0
SaysBytes b j = j ≡ json.string (encode_of standard b)

-- a text as it is where it is UTF-8
abbrev pub SaysText : List ℕ → Json → Type 0
SaysText b j = j ≡ json.string (if is_utf8 b then b else encode_of standard b)

-- ---- by the type

-- an encoding.TextMarshaler's own text; a URL of net/url, whose MarshalBinary gives its text; a UUID; an Addr, AddrPort
-- or Prefix of net/netip; a Time of time; an Int, Float or Rat of math/big; and a Time or an Int where the type has no
-- name, as Go sends one that it met through a pointer
abbrev pub content_as : Marshal → List ℕ → Content
content_as marshal.Text name = content.Text
content_as marshal.Binary name =
    if bytes_eq name (codes "URL") then content.Text
    else (if bytes_eq name (codes "UUID") then content.Uuid
    else (if bytes_eq name (codes "Addr") then content.Address
    else (if bytes_eq name (codes "AddrPort") then content.AddressPort
    else (if bytes_eq name (codes "Prefix") then content.Prefix else content.Bytes))))
content_as marshal.Gob name =
    if bytes_eq name (codes "Int") then content.Int
    else (if bytes_eq name (codes "Time") then content.Time
    else (if bytes_eq name (codes "Float") then content.Float
    else (if bytes_eq name (codes "Rat") then content.Rat
    else (if length name == 0 then content.TimeOrInt else content.Bytes))))

abbrev pub content_by : Kind → List ℕ → Content
content_by (kind.Opaque m) name = content_as m name
content_by _ name = content.Bytes

-- raw, each opaque value is bytes
abbrev pub content_of : Bool → Option Shape → Content
content_of true s = content.Bytes
content_of false None = content.Bytes
content_of false (Some s) = content_by s.kind s.name

abbrev pub SaysContent : Content → List ℕ → Json → Type 0
SaysContent content.Bytes b j = SaysBytes b j
SaysContent content.Text b j = SaysText b j
SaysContent content.Time b j = SaysTimeOr (SaysBytes b) b j
SaysContent content.Int b j = SaysInt b j
SaysContent content.Float b j = SaysBigFloat b j
SaysContent content.Rat b j = SaysRat b j
SaysContent content.Uuid b j = SaysKnown (uuid_text b) b j
SaysContent content.Address b j = SaysKnown (address_text b) b j
SaysContent content.AddressPort b j = SaysKnown (address_port_text b) b j
SaysContent content.Prefix b j = SaysKnown (prefix_text b) b j
SaysContent content.TimeOrInt b j = SaysTimeOr (SaysInt b) b j

-- ---- in a style

-- the later of what was said, where there is some
abbrev pub later : Option Content → Option Content → Option Content
later first None = first
later first (Some c) = Some c

-- what was said that the values of the type are: the last that was, where there is one
abbrev pub taken_as : List Taken → TypeId → Option Content
taken_as [] t = None
taken_as (said ∷ rest) t = later (if said.id.0 == t.0 then Some said.content else None) (taken_as rest t)

-- that, over any guess
abbrev pub said_or : Option Content → Content → Content
said_or None guess = guess
said_or (Some c) guess = c

abbrev pub content_in : Style → TypeId → Option Shape → Content
content_in style t s = said_or (taken_as style.taken.now t) (content_of style.raw s)

-- what the values of each type are taken for, where it has this shape
abbrev pub Takes : Type 0
Takes = TypeId → Option Shape → Content

-- an opaque value of the type, which has this shape
abbrev pub SaysOpaque : Takes → TypeId → Option Shape → List ℕ → Json → Type 0
SaysOpaque how t s b j = SaysContent (how t s) b j
