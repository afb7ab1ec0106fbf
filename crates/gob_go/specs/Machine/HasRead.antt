-- How far a reader of items has come in a stream, by what it expects.
-- It describes the reader's state.
use Rattle.std.specs.Prelude.{Bool, true, IsTrue}
use Rattle.std.specs.Prelude.{◌≡◌, ℕ, pos, negsuc, ◌+◌, ◌^◌, ◌<◌, ◌≤◌, List, [], ◌∷◌, ◌++◌, length}
use Rattle.gob_num.specs.Unsigned.{IsUnsigned, IsUnsignedPrefix, AreBytes}
use Rattle.gob_num.specs.Signed.{IsSigned}
use Rattle.gob_types.specs.declared.id.TypeId.{TypeId}
use Rattle.gob_types.specs.Table.{Table}
use Rattle.gob_types.specs.Base.{base_table, wire_type}
use Rattle.gob_types.specs.Defined.{types}
use Rattle.gob_value.specs.Tree.{Tree}
use Rattle.gob_value.specs.Top.{SpellsTop}
use Rattle.gob_read.specs.Calls.Builders.{tree_building}
use Rattle.gob_stream.specs.declared.stage.Extent.{Extent}
use Rattle.gob_stream.specs.Bounds.{Bounds, within_trees}
use Rattle.gob_stream.specs.Body.{MayDefine, MayPut}
use Rattle.gob_stream.specs.Machine.HasRead.{IsCount, BodyHasRead}
use Rattle.gob_filled.specs.Definition.{Defines}
use Rattle.gob_filled.specs.Filled as spelled
use Rattle.gob_filled.specs.Stream.{FilledItem, putting, IsFilledItem, FilledStream}
use Rattle.gob_filled.specs.Standing.{Level, in_value, in_filling, Stands}
use Rattle.gob_go.specs.Meaning.{AreFillings}
use Rattle.gob_filled.specs.Opens.{Open, opens, defined}
use Rattle.gob_go.specs.Machine.Levels.{LevelAtNil, LevelWithin, FillingsAre, HeldIs, AreOuter}
use Rattle.gob_go.specs.Machine.SessionState.{SessionState}
use Rattle.gob_go.specs.declared.description.DescriptionStage.{DescriptionStage}
use Rattle.gob_go.specs.declared.levels.Levels.{Levels}
use Rattle.gob_go.specs.declared.number.NumberStage.{NumberStage}
use Rattle.gob_go.specs.declared.part.PutPart.{PutPart}
use Rattle.gob_go.specs.declared.part.PutPart.TheVariants as part
use Rattle.gob_go.specs.declared.stage.Stage.{Stage}
use Rattle.gob_go.specs.declared.stage.Stage.TheVariants as stage

-- a count that stands in no segment ends before this
abbrev pub no_end : ℕ
no_end = 18446744073709551615

-- these bytes of a number have come, which begins at the offset in a segment that ends there and goes on
pub record NumberIs (stage : NumberStage) (begin end : ℕ) (number : List ℕ) : Type 0 where
  pub begins : stage.rest.begin ≡ begin
  pub ends : stage.rest.end ≡ end
  pub bytes : stage.number ≡ number
  pub prefix : IsUnsignedPrefix number
  pub room : begin + length number < end

-- the description of the type with this id is read behind its type number a, which stands at the offset in a segment
-- that ends there, and y has come of it
pub record DescriptionIs (L : Bounds) (U : Table) (stage : DescriptionStage) (begin end : ℕ) (a y : List ℕ) : Type
    0 where
  pub size : ℕ
  pub id_is : stage.id.0 ≡ size + 1
  pub number : IsSigned (negsuc size) a
  pub begins : stage.rest.begin ≡ begin + length a
  pub ends : stage.rest.end ≡ end
  pub order : begin + length a ≤ end
  pub may : MayDefine base_table L U stage.id
  pub read : BodyHasRead U wire_type L.depth stage.rest tree_building stage.reader y

-- ---- the item of a value

-- what the bytes have said of open values, the innermost first, is what the program's levels have, where so much is
-- known of the innermost one
pub record OthersAre (keep : Bool) (U : Table) (levels : Levels) (around : List Level) (o : Open) (os : List Open)
    (left : ℕ) : Type
    0 where
  pub fillings : FillingsAre keep U levels.innermost o
  pub outer : AreOuter keep U levels.outer.items around os
  pub left_is : levels.left ≡ left

-- where the segments that the next one of the innermost value stands in ends
abbrev pub end_around : List Level → ℕ
end_around [] = no_end
end_around (around ∷ levels) = around.end

-- the reader has come so far in the value of an item that begins at the offset, where the types were those of T and are
-- those of U
pub data PartHasRead (keep : Bool) (L : Bounds) (T : Table) (offset : ℕ) (U : Table) (levels : Levels) : PutPart
    → List ℕ
    → Type 0 where
  -- within the skeleton of the innermost value
  in_skeleton : {z : List ℕ} {lv : Level} {around : List Level} {left : ℕ} {o : Open} {os : List Open} (c : List ℕ)
      (p : Stands base_table L T offset z U (lv ∷ around) in_value left) → opens p ≡ o ∷ os
      → LevelWithin keep U levels.innermost lv c (offset + length (z ++ c)) → OthersAre keep U levels around o os left
      → PartHasRead keep L T offset U levels part.Value (z ++ c)
  in_name_length : {z : List ℕ} {lv : Level} {around : List Level} {left d : ℕ} {o : Open} {os : List Open}
      {number : NumberStage} (c a : List ℕ)
      (p : Stands base_table L T offset z U (lv ∷ around) in_value left) → opens p ≡ o ∷ os
      → (h : LevelAtNil keep U levels.innermost lv c d) → OthersAre keep U levels around o os left
      → NumberIs number (offset + length (z ++ c)) lv.end a
      → offset + length (z ++ c) + h.announced ≡ length (lv.done ++ c) + lv.end
      → PartHasRead keep L T offset U levels (part.NameLength (record { number = number })) (z ++ (c ++ a))
  in_name : {z : List ℕ} {lv : Level} {around : List Level} {left to_come d n : ℕ} {o : Open} {os : List Open}
      (c a s : List ℕ)
      (p : Stands base_table L T offset z U (lv ∷ around) in_value left) → opens p ≡ o ∷ os
      → (h : LevelAtNil keep U levels.innermost lv c d) → OthersAre keep U levels around o os left
      → offset + length (z ++ c) + h.announced ≡ length (lv.done ++ c) + lv.end
      → IsUnsigned n a → n ≡ length s + to_come → 0 < to_come → n < 2 ^ 64
      → levels.innermost.held.name.items ≡ s → levels.innermost.held.definitions.items ≡ []
      → offset + length (z ++ (c ++ (a ++ s))) < lv.end
      → PartHasRead keep L T offset U levels (part.Name (record { left = to_come })) (z ++ (c ++ (a ++ s)))
  -- behind the name
  in_held_number : {z : List ℕ} {lv : Level} {around : List Level} {left d : ℕ} {o : Open} {os : List Open}
      {number : NumberStage} (a : List ℕ)
      (p : Stands base_table L T offset z U (lv ∷ around) (in_filling d) left) → opens p ≡ o ∷ os
      → LevelAtNil keep U levels.innermost lv [] d → OthersAre keep U levels around o os left
      → HeldIs levels.innermost.held o
      → NumberIs number (offset + length z) lv.end a
      → PartHasRead keep L T offset U levels (part.TypeNumber (record { number = number })) (z ++ a)
  in_held_description : {z : List ℕ} {lv : Level} {around : List Level} {left d : ℕ} {o : Open} {os : List Open}
      {description : DescriptionStage} (a y : List ℕ)
      (p : Stands base_table L T offset z U (lv ∷ around) (in_filling d) left) → opens p ≡ o ∷ os
      → LevelAtNil keep U levels.innermost lv [] d → OthersAre keep U levels around o os left
      → HeldIs levels.innermost.held o
      → DescriptionIs L U description (offset + length z) lv.end a y
      → PartHasRead keep L T offset U levels (part.Description (record { description = description })) (z ++ (a ++ y))
  -- behind a definition, with which the segment has ended
  in_next_count : {z b : List ℕ} {S : Table} {lv : Level} {around : List Level} {left d : ℕ} {id : TypeId} {v : Tree}
      {o : Open} {os : List Open} {number : NumberStage} (q : List ℕ)
      (p : Stands base_table L T offset z S (lv ∷ around) (in_filling d) left) → defined id v (opens p) ≡ o ∷ os
      → Defines base_table L S id v b U → offset + length (z ++ b) ≡ lv.end
      → LevelAtNil keep U levels.innermost lv [] d → OthersAre keep U levels around o os left
      → HeldIs levels.innermost.held o
      → NumberIs number lv.end (end_around around) q
      → PartHasRead keep L T offset U levels (part.NextCount (record { number = number })) (z ++ (b ++ q))
  -- behind the concrete type
  in_inner_count : {z n : List ℕ} {lv : Level} {around : List Level} {left d : ℕ} {u : TypeId}
      {o : Open} {os : List Open} {number : NumberStage} (q : List ℕ)
      (p : Stands base_table L T offset z U (lv ∷ around) (in_filling d) left) → opens p ≡ o ∷ os
      → MayPut U u → IsSigned (pos u.0) n
      → LevelAtNil keep U levels.innermost lv [] d → OthersAre keep U levels around o os left
      → HeldIs levels.innermost.held o
      → NumberIs number (offset + length (z ++ n)) lv.end q
      → PartHasRead keep L T offset U levels (part.InnerCount (record { id = u; number = number })) (z ++ (n ++ q))

-- the bytes are the item, and the program's innermost level, which is the last, has its value, where that is kept
pub record PutIsWhole (keep : Bool) (L : Bounds) (T : Table) (offset : ℕ) (U : Table) (levels : Levels) (z : List ℕ)
    : Type 0 where
  pub value : spelled.Filled
  pub item : IsFilledItem base_table L T offset (putting levels.innermost.id value) z U
  pub tree : Tree
  pub fillings : spelled.Fillings
  pub value_is : value ≡ spelled.filled tree fillings
  pub spelled : IsTrue keep → SpellsTop U levels.innermost.id tree levels.innermost.skeleton.bytes.items
  pub filled : IsTrue keep → AreFillings U levels.innermost.fillings.items fillings

-- ---- any item

-- the reader stands behind these bytes of an item that begins at the offset, where the types were those of T and are
-- those of U
pub data StageHasRead (keep : Bool) (L : Bounds) (T : Table) (offset : ℕ) (U : Table) : Stage → List ℕ → Type 0 where
  in_count : {number : NumberStage} (q : List ℕ) → U ≡ T → NumberIs number offset no_end q
      → StageHasRead keep L T offset U (stage.Count (record { number = number })) q
  in_type_number : {m : ℕ} {c : List ℕ} {body : Extent} {number : NumberStage} (a : List ℕ) → U ≡ T
      → IsCount L offset m c body
      → NumberIs number body.begin body.end a
      → StageHasRead keep L T offset U (stage.TypeNumber (record { number = number })) (c ++ a)
  in_definition : {m : ℕ} {c : List ℕ} {body : Extent} {description : DescriptionStage} (a y : List ℕ) → U ≡ T
      → IsCount L offset m c body → DescriptionIs L U description body.begin body.end a y
      → StageHasRead keep L T offset U (stage.Definition (record { description = description })) (c ++ (a ++ y))
  in_put : {levels : Levels} {part : PutPart} {z : List ℕ} → PartHasRead keep L T offset U levels part z
      → StageHasRead keep L T offset U (stage.Put (record { levels = levels; part = part })) z

-- the reader has given the items, and taken these bytes, and keeps values or not
pub record StandsAfter (keep : Bool) (s : SessionState) (items : List FilledItem) (bytes : List ℕ) : Type 0 where
  pub prefix : List ℕ
  pub under_way : List ℕ
  pub table : Table
  pub whole : bytes ≡ prefix ++ under_way
  pub are_bytes : AreBytes bytes
  pub stream : FilledStream base_table (within_trees s.limits) items prefix table
  pub stage : StageHasRead keep (within_trees s.limits) table (length prefix) (types s.types) s.stage under_way
  pub taken : s.taken ≡ length bytes
  pub room : s.types.most ≡ s.limits.types
  pub kept : s.keeps ≡ keep

-- it keeps values
abbrev pub HasRead : SessionState → List FilledItem → List ℕ → Type 0
HasRead s items bytes = StandsAfter true s items bytes

-- it has given some items, and taken some bytes
pub record StandsSomewhere (s : SessionState) : Type 0 where
  pub items : List FilledItem
  pub bytes : List ℕ
  pub after : StandsAfter s.keeps s items bytes

-- the reader stands after some bytes, or has met a fault
pub data IsUsable (s : SessionState) : Type 0 where
  has_failed : s.stage ≡ stage.Failed → IsUsable s
  stands_after : {items : List FilledItem} {bytes : List ℕ} → StandsAfter s.keeps s items bytes → IsUsable s
