-- The stages of a session, by what is known of what is expected.
use Rattle.std.specs.Prelude.{ℕ, List}
use Rattle.gob_types.specs.declared.id.TypeId.{TypeId}
use Rattle.gob_value.specs.declared.value.Value.{Value}
use Rattle.gob_read.specs.declared.reader.BodyReader.{BodyReader}
use Rattle.gob_read.specs.declared.tree_builder.TreeBuilder.{TreeBuilder}
use Rattle.gob_stream.specs.declared.stage.Extent.{Extent}
use Rattle.gob_stream.specs.declared.stage.Stage.{Stage}
use Rattle.gob_stream.specs.declared.stage.Stage.TheVariants as stage

-- the count of the item that begins there, of which these bytes came
abbrev pub count_at : {X O : Type 0} → (begin : ℕ) → (number : List ℕ) → Stage X O
count_at begin number = stage.Count (record { begin = begin; number = number })

-- the type number of the body, of which these bytes came
abbrev pub type_number_in : {X O : Type 0} → (body : Extent) → (number : List ℕ) → Stage X O
type_number_in body number = stage.TypeNumber (record { body = body; number = number })

-- a value
abbrev pub value_in : {X O : Type 0} → TypeId → (rest : Extent) → BodyReader X O → Stage X O
value_in t rest reader = stage.Value (record { id = t; rest = rest; reader = reader })

-- a description
abbrev pub description_in : {X O : Type 0} → TypeId → (rest : Extent) → BodyReader TreeBuilder Value → Stage X O
description_in id rest reader = stage.Description (record { id = id; rest = rest; reader = reader })
