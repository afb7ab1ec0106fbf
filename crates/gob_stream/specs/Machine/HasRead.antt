-- How far a reader of items has come in a stream, by what it expects.
-- It describes the reader's state.
use Rattle.std.specs.Prelude.{◌≡◌, ℕ, pos, negsuc, ◌+◌, ◌-◌, ◌<◌, ◌≤◌, min, List, ◌++◌, length}
use Rattle.gob_num.specs.Unsigned.{IsUnsigned, IsUnsignedPrefix}
use Rattle.gob_num.specs.Signed.{IsSigned}
use Rattle.gob_types.specs.declared.id.TypeId.{TypeId}
use Rattle.gob_types.specs.Table.{Table}
use Rattle.gob_types.specs.Base.{base_table, wire_type}
use Rattle.gob_types.specs.Defined.{types}
use Rattle.gob_read.specs.Building.{Building}
use Rattle.gob_read.specs.Calls.Builders.{tree_building}
use Rattle.gob_read.specs.Viable.{IsViable}
use Rattle.gob_read.specs.Calls.UnderWay.{under_way}
use Rattle.gob_read.specs.Calls.Reader.{ReaderHasRead}
use Rattle.gob_read.specs.declared.reader.BodyReader.{BodyReader}
use Rattle.gob_read.specs.declared.tree_builder.TreeBuilder.{TreeBuilder}
use Rattle.gob_value.specs.declared.value.Value.{Value}
use Rattle.gob_stream.specs.declared.stage.Stage.{Stage}
use Rattle.gob_stream.specs.declared.stage.Stage.TheVariants as stage
use Rattle.gob_stream.specs.declared.stage.Extent.{Extent}
use Rattle.gob_stream.specs.Machine.Stages.{count_at, type_number_in, value_in, description_in}
use Rattle.gob_stream.specs.Machine.SessionState.{SessionState}
use Rattle.gob_stream.specs.Bounds.{Bounds, greatest_depth, no_deeper}
use Rattle.gob_stream.specs.Item.{StreamItem}
use Rattle.gob_stream.specs.Body.{MayDefine, MayPut}
use Rattle.gob_stream.specs.Stream.{Stream}

-- these bytes are the count of an item that begins at the offset, and this is its body, which has so many bytes
pub record IsCount (L : Bounds) (offset m : ℕ) (c : List ℕ) (body : Extent) : Type 0 where
  pub count : IsUnsigned m c
  pub item : m ≤ L.item
  pub stream : offset + length c + m ≤ L.stream
  pub begin : body.begin ≡ offset + length c
  pub end : body.end ≡ body.begin + m

-- this is what is left of the body behind the bytes of its type number
pub record IsRest (body : Extent) (a : List ℕ) (rest : Extent) : Type 0 where
  pub begin : rest.begin ≡ body.begin + length a
  pub end : rest.end ≡ body.end
  pub within : rest.begin ≤ rest.end

-- how many bytes that is
abbrev pub size : Extent → ℕ
size rest = rest.end - rest.begin

-- what reads it stands behind these bytes of it
pub record BodyHasRead (T : Table) (t : TypeId) (limit : ℕ) (rest : Extent) {X O : Type 0} {most : ℕ}
    (building : Building X O most) (reader : BodyReader X O) (z : List ℕ) : Type 0 where
  pub after : ReaderHasRead T t limit (size rest) building.received (under_way reader) z
  pub viable : IsViable T t limit (size rest) z

-- the reader stands behind these bytes of an item that begins at the offset, where the types are those of T
pub data StageHasRead {X O : Type 0} {most : ℕ} (building : Building X O most) (L : Bounds) (T : Table) (offset : ℕ)
    : Stage X O → List ℕ → Type 0 where
  in_count : {number : List ℕ} → IsUnsignedPrefix number
      → StageHasRead building L T offset (count_at offset number) number
  in_type_number : {m : ℕ} {c number : List ℕ} {body : Extent} → IsCount L offset m c body → IsUnsignedPrefix number
      → length number < m
      → StageHasRead building L T offset (type_number_in body number) (c ++ number)
  in_value : {m : ℕ} {c a z : List ℕ} {body rest : Extent} {t : TypeId} {reader : BodyReader X O}
      → IsCount L offset m c body → IsSigned (pos t.0) a → IsRest body a rest
      → MayPut T t → BodyHasRead T t L.depth rest building reader z
      → StageHasRead building L T offset (value_in t rest reader) (c ++ (a ++ z))
  -- a description is read as a tree
  in_description : {m n : ℕ} {c a z : List ℕ} {body rest : Extent} {id : TypeId} {reader : BodyReader TreeBuilder Value}
      → IsCount L offset m c body
      → id.0 ≡ n + 1 → IsSigned (negsuc n) a → IsRest body a rest → MayDefine base_table L T id
      → BodyHasRead T wire_type (min L.depth greatest_depth) rest tree_building reader z
      → StageHasRead building L T offset (description_in id rest reader) (c ++ (a ++ z))

-- the reader has given the items, and taken these bytes
pub record HasRead {X O : Type 0} {most : ℕ} (building : Building X O most) (s : SessionState X O)
    (items : List StreamItem) (bytes : List ℕ) : Type 0 where
  pub prefix : List ℕ
  pub under_way : List ℕ
  pub whole : bytes ≡ prefix ++ under_way
  pub stream : Stream base_table (no_deeper most s.limits) items prefix (types s.types)
  pub stage : StageHasRead building (no_deeper most s.limits) (types s.types) (length prefix) s.stage under_way
  pub taken : s.taken ≡ length bytes
  pub room : s.types.most ≡ s.limits.types

-- it has given some items, and taken some bytes
pub record HasReadOn {X O : Type 0} {most : ℕ} (building : Building X O most) (s : SessionState X O) : Type 0 where
  pub items : List StreamItem
  pub bytes : List ℕ
  pub after : HasRead building s items bytes

-- the reader stands after some bytes, or has met a fault
pub data IsUsable {X O : Type 0} {most : ℕ} (building : Building X O most) (s : SessionState X O) : Type 0 where
  has_failed : s.stage ≡ stage.Failed → IsUsable building s
  stands_after : {items : List StreamItem} {bytes : List ℕ} → HasRead building s items bytes
      → IsUsable building s
