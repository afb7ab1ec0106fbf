-- What stands before the values of a struct's first fields. For private clauses.
use Rattle.std.specs.Prelude.{◌≡◌, ℕ, ◌<◌, List, Some, false, slice_get}
use Rattle.gob_types.specs.declared.kind.Field.{Field}
use Rattle.gob_types.specs.declared.kind.Kind.{Kind}
use Rattle.gob_types.specs.declared.kind.Kind.TheVariants as kind
use Rattle.gob_json.specs.declared.text.heads.Heads.{Heads}
use Rattle.gob_json.specs.declared.text.piece.Piece.{Piece}
use Rattle.gob_json.specs.Machine.Piece.{piece_text}
use Rattle.gob_json.specs.Machine.TextParts.{field_head}

-- each of the first so many is that of the field of its number
abbrev pub AreHeadsTo : List Field → List (Piece 32) → ℕ → Type 0
AreHeadsTo types heads count = (number : ℕ) (head : Piece 32) (field : Field) → number < count
    → slice_get heads number ≡ Some head → slice_get types number ≡ Some field
    → piece_text head ≡ field_head false number field.name

abbrev pub AreHeads : List Field → Heads → Type 0
AreHeads types h = AreHeadsTo types h.heads h.count

-- where the kind is a struct, they are those of its fields
abbrev pub AreHeadsOf : Kind → Heads → Type 0
AreHeadsOf k h = (types : List Field) → k ≡ kind.Struct types → AreHeads types h
