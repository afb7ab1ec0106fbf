-- What is said of a part without parts, by what its view shows of it.
use Rattle.std.specs.Prelude.{◌≡◌, ℕ, List}
use Rattle.json.specs.Json.{Json}
use Rattle.json.specs.Json as json
use Rattle.serde_json.specs.Written.{outline}
use Rattle.gob_tape.specs.declared.kind.ValueKind.{ValueKind}
use Rattle.gob_tape.specs.declared.kind.ValueKind.TheVariants as kind
use Rattle.gob_json_writer.specs.TapeJson.{leaf_json}
use Rattle.gob_plain.specs.OpaqueText.{SaysBytes}
use Rattle.gob_plain.specs.Plain.{SaysPattern, SaysBoth}

-- a part of this kind with these numbers and bytes; one with parts counts as nil, and so does an opaque one, of which
-- the type tells more
abbrev pub SaysLeaf : ValueKind → ℕ → ℕ → List ℕ → Json → Type 0
SaysLeaf kind.Float a b s j = SaysPattern a j
SaysLeaf kind.Complex a b s j = SaysBoth (SaysPattern a) (SaysPattern b) j
SaysLeaf kind.Bytes a b s j = SaysBytes s j
SaysLeaf kind.Opaque a b s j = j ≡ json.null
SaysLeaf k a b s j = j ≡ outline (leaf_json k a b s)
