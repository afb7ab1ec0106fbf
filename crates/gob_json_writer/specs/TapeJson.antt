-- Which value a view shows, and the JSON of a part without parts, by what its view shows of it.
-- (docs/FORMAT.md, The JSON lines: this project's own.)
use Rattle.std.specs.Prelude.{ℕ, List, ◌==◌, Option}
use Rattle.serde_json.specs.Data.{Data, null, boolean}
use Rattle.gob_value.specs.Tree.{Tree}
use Rattle.gob_read.specs.Leaf.{signed_of}
use Rattle.gob_tape.specs.declared.kind.ValueKind.{ValueKind}
use Rattle.gob_tape.specs.declared.kind.ValueKind.TheVariants as kind
use Rattle.gob_tape.specs.declared.view.View.{View}
use Rattle.gob_tape.specs.Seeing.{Sees}
use Rattle.gob_json.specs.Json.{hex_json, text_json, opaque_json, pattern_json, pair_json, natural_json, integer_json}

-- the view shows the value, as a field of a struct or not
abbrev pub Shows : View → Tree → Type 0
Shows view v = (f : Option ℕ) × Sees view f v

-- a part of this kind with these numbers and bytes; a part with parts counts as nil
abbrev pub leaf_json : ValueKind → ℕ → ℕ → List ℕ → Data
leaf_json kind.Bool a b s = boolean (a == 1)
leaf_json kind.Int a b s = integer_json (signed_of a)
leaf_json kind.Uint a b s = natural_json a
leaf_json kind.Float a b s = pattern_json a
leaf_json kind.Complex a b s = pair_json (pattern_json a) (pattern_json b)
leaf_json kind.Bytes a b s = hex_json s
leaf_json kind.Str a b s = text_json s
leaf_json kind.Opaque a b s = opaque_json s
leaf_json _ a b s = null
