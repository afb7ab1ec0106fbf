-- What a builder is told of a value, part by part, in the order of the first bytes.
-- (docs/LIBRARY.md, Events.)
use Rattle.std.specs.Prelude.{ℕ, pos, negsuc, ◌+◌, ◌*◌, Bool, List, [], ◌∷◌, ◌++◌}
use Rattle.gob_types.specs.declared.basic.Basic.{Basic}
use Rattle.gob_types.specs.declared.basic.Basic.TheVariants as basic
use Rattle.gob_value.specs.Tree.{Tree, Trees, no_tree, tree, Pairs, no_pair, pair, Fields, no_field}
use Rattle.gob_value.specs.Tree as Value
use Rattle.gob_value.specs.Spelling.{truth}
use Rattle.gob_read.specs.declared.event.RawKind.{RawKind}
use Rattle.gob_read.specs.declared.event.RawKind.TheVariants as raw
use Rattle.gob_read.specs.declared.event.GroupKind.{GroupKind}
use Rattle.gob_read.specs.declared.event.GroupKind.TheVariants as group

pub data Event : Type 0 where
  -- a whole part of this basic type: its unsigned number as spelled, or its patterns
  number : Basic → ℕ → ℕ → Event
  -- a part of raw bytes begins
  raw_start : RawKind → Event
  -- these bytes follow in it
  raw_more : List ℕ → Event
  -- a part with parts begins
  enter : GroupKind → Event
  -- the number of the next part of the open struct
  field : ℕ → Event
  -- the open part ends
  leave : Event

-- these raw bytes, in any pieces
pub data HasRawEvents : List ℕ → List Event → Type 0 where
  no_bytes : HasRawEvents [] []
  more_bytes : {s : List ℕ} {us : List Event} (c : List ℕ) → HasRawEvents s us
      → HasRawEvents (s ++ c) (us ++ raw_more c ∷ [])

mutual
  pub data HasEvents : Tree → List Event → Type 0 where
    tell_bool : {b : Bool} → HasEvents (Value.bool b) (number basic.Bool (truth b) 0 ∷ [])
    tell_not_negative : {n : ℕ} → HasEvents (Value.int (pos n)) (number basic.Int (2 * n) 0 ∷ [])
    tell_negative : {n : ℕ} → HasEvents (Value.int (negsuc n)) (number basic.Int (2 * n + 1) 0 ∷ [])
    tell_uint : {n : ℕ} → HasEvents (Value.uint n) (number basic.Uint n 0 ∷ [])
    tell_float : {p : ℕ} → HasEvents (Value.float p) (number basic.Float p 0 ∷ [])
    tell_complex : {p q : ℕ} → HasEvents (Value.complex p q) (number basic.Complex p q ∷ [])
    tell_nil : HasEvents Value.nil (number basic.Interface 0 0 ∷ [])
    tell_bytes : {s : List ℕ} {us : List Event} → HasRawEvents s us
        → HasEvents (Value.bytes s) ((raw_start raw.Bytes ∷ us) ++ leave ∷ [])
    tell_text : {s : List ℕ} {us : List Event} → HasRawEvents s us → HasEvents (Value.text s) ((raw_start raw.Str ∷ us)
        ++ leave ∷ [])
    tell_opaque : {s : List ℕ} {us : List Event} → HasRawEvents s us
        → HasEvents (Value.opaque s) ((raw_start raw.Opaque ∷ us) ++ leave ∷ [])
    tell_many : {vs : Trees} {us : List Event} → HaveEvents vs us → HasEvents (Value.many vs) ((enter group.Many ∷ us)
        ++ leave ∷ [])
    tell_pairs : {ps : Pairs} {us : List Event} → PairsHaveEvents ps us
        → HasEvents (Value.pairs ps) ((enter group.Pairs ∷ us) ++ leave ∷ [])
    tell_fields : {fs : Fields} {us : List Event} → FieldsHaveEvents fs us
        → HasEvents (Value.fields fs) ((enter group.Fields ∷ us) ++ leave ∷ [])

  -- the elements of a list, one after another
  pub data HaveEvents : Trees → List Event → Type 0 where
    tell_none : HaveEvents no_tree []
    tell_each : {v : Tree} {vs : Trees} {us ws : List Event} → HasEvents v us → HaveEvents vs ws
        → HaveEvents (tree v vs) (us ++ ws)

  -- a key, its element, and so on
  pub data PairsHaveEvents : Pairs → List Event → Type 0 where
    tell_no_pair : PairsHaveEvents no_pair []
    tell_pair : {k e : Tree} {ps : Pairs} {us ws xs : List Event} → HasEvents k us → HasEvents e ws
        → PairsHaveEvents ps xs → PairsHaveEvents (pair k e ps) (us ++ (ws ++ xs))

  -- the fields that are present, each behind its number
  pub data FieldsHaveEvents : Fields → List Event → Type 0 where
    tell_no_field : FieldsHaveEvents no_field []
    tell_field : {f : ℕ} {v : Tree} {fs : Fields} {us ws : List Event} → HasEvents v us → FieldsHaveEvents fs ws
        → FieldsHaveEvents (Value.field f v fs) (field f ∷ (us ++ ws))
