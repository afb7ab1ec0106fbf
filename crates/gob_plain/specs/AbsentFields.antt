-- What is written of absent fields: their zeros, before the members of the fields that follow.
use Rattle.std.specs.Prelude.{◌≡◌, ℕ, List, [], ◌++◌, Option, Some, None, if◌then◌else◌}
use Rattle.json.specs.Json.{Json, Members}
use Rattle.json.specs.Json as json
use Rattle.json.specs.Token.{Token}
use Rattle.json.specs.Tree.{members_tokens}
use Rattle.gob_types.specs.declared.basic.Basic.{Basic}
use Rattle.gob_types.specs.declared.kind.Field.{Field}
use Rattle.gob_types.specs.declared.kind.Kind.{Kind}
use Rattle.gob_types.specs.declared.kind.Kind.TheVariants as type
use Rattle.gob_types.specs.Table.{Table}
use Rattle.gob_value.specs.Tree.{Tree, Fields}
use Rattle.gob_tape.specs.declared.kind.ValueKind.{ValueKind}
use Rattle.gob_tape.specs.declared.kind.ValueKind.TheVariants as kind
use Rattle.gob_tape.specs.Seeing.{kind_of}
use Rattle.gob_plain.specs.declared.style.Style.{Style}
use Rattle.gob_plain.specs.Filled.{zero_by, zero_at, zeros_before, between}
use Rattle.gob_plain.specs.Leaf.{SaysLeaf}
use Rattle.gob_plain.specs.OpaqueText.{Takes}
use Rattle.gob_plain.specs.Plain.{SayFields}

-- the kind that a tape shows of a zero
abbrev pub shown_kind : Option Tree → Option ValueKind
shown_kind None = None
shown_kind (Some v) = Some (kind_of v)

abbrev pub zero_kind_of : Basic → Option ValueKind
zero_kind_of b = shown_kind (zero_by (type.Basic b))

abbrev pub zero_kind_by : Kind → Option ValueKind
zero_kind_by k = shown_kind (zero_by k)

abbrev pub zero_kind_at : Table → Option Field → Option ValueKind
zero_kind_at T field = shown_kind (zero_at T field)

-- the zero of this kind
abbrev pub SaysZero : ValueKind → Json → Type 0
SaysZero kind.Many j = j ≡ json.array json.no_items
SaysZero k j = SaysLeaf k 0 0 [] j

-- before tokens that say these fields, the tokens say them behind those of absent fields
abbrev pub SaysBefore : Table → List Field → (Fields → Fields) → List Token → Type 0
SaysBefore T types more ts = (how : Takes) (fs : Fields) (ms : Members) → SayFields how T types fs ms
    → (all : Members) × SayFields how T types (more fs) all × (ts ++ members_tokens ms ≡ members_tokens all)

-- the zeros of the n fields from this number on
abbrev pub ZeroTokens : Table → List Field → (from n : ℕ) → List Token → Type 0
ZeroTokens T types from n = SaysBefore T types (λ fs. zeros_before T types from n fs)

-- where the style has zeros, those of the fields from one number on and before another; else nothing
abbrev pub AbsentTokens : Style → Table → List Field → (from to : ℕ) → List Token → Type 0
AbsentTokens style T types from to = SaysBefore T types
    (λ fs. if style.zeros then zeros_before T types from (between types from to) fs else fs)
