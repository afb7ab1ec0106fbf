-- Why a reader refuses what stands behind the items of a stream: a count, a type number, a value or a description.
-- (docs/FORMAT.md, Refusals: this project's own.)
use Rattle.std.specs.Prelude.{◌≡◌, ℕ, pos, negsuc, ◌+◌, ◌-◌, ◌<◌, ◌≤◌, List, ◌++◌, length}
use Rattle.gob_num.specs.Unsigned.{IsUnsigned, IsUnsignedPrefix, IsBadHead, IsNotMinimal}
use Rattle.gob_num.specs.Signed.{IsSigned}
use Rattle.gob_types.specs.declared.id.TypeId.{TypeId}
use Rattle.gob_types.specs.declared.reason.Reason.{Reason}
use Rattle.gob_types.specs.declared.reason.Reason.TheVariants as reason
use Rattle.gob_types.specs.Table.{Table}
use Rattle.gob_types.specs.Base.{wire_type}
use Rattle.gob_value.specs.Tree.{Tree, depth}
use Rattle.gob_value.specs.Spelling.{Spells}
use Rattle.gob_value.specs.Description.{Misdescribes}
use Rattle.gob_read.specs.Refusal as body
use Rattle.gob_read.specs.First.{IsFirst}
use Rattle.gob_stream.specs.declared.fault.Refusal.{Refusal}
use Rattle.gob_stream.specs.Bounds.{Bounds}
use Rattle.gob_stream.specs.Body.{MayDefine, MayPut}
use Rattle.gob_stream.specs.WriterRefusal.{RefusesId, RefusesType}

-- the refusal of what begins behind so many bytes, counted from the first byte of the stream
abbrev pub behind : ℕ → body.Refusal → Refusal
behind n R = record { place = n + R.place; seen = n + R.seen; reason = R.reason }

-- a refusal at the place, shown by so many bytes
abbrev pub refuses : (place seen : ℕ) → Reason → Refusal
refuses place seen r = record { place = place; seen = seen; reason = r }

-- z is what is there from the count of an item on, which begins at this offset of the stream
pub data RefusesCount (L : Bounds) (offset : ℕ) (z : List ℕ) : Refusal → Type 0 where
  bad_head : IsBadHead z → RefusesCount L offset z (refuses offset (offset + 1) reason.BadHead)
  not_minimal : IsNotMinimal z → RefusesCount L offset z (refuses offset (offset + 2) reason.NotMinimal)
  item_too_long : {m : ℕ} {c : List ℕ} (r : List ℕ) → z ≡ c ++ r → IsUnsigned m c → L.item < m
      → RefusesCount L offset z (refuses offset (offset + length c) reason.ItemTooLong)
  stream_too_long : {m : ℕ} {c : List ℕ} (r : List ℕ) → z ≡ c ++ r → IsUnsigned m c → m ≤ L.item
      → L.stream < offset + length c + m
      → RefusesCount L offset z (refuses offset (offset + length c) reason.StreamTooLong)

-- y is what is there of a body of m bytes, which begins at this offset of the stream, where the types are those of T
pub data RefusesBody (base : Table) (L : Bounds) (T : Table) (offset m : ℕ) (y : List ℕ) : Refusal → Type 0 where
  -- the type number
  bad_head : IsBadHead y → RefusesBody base L T offset m y (refuses offset (offset + 1) reason.BadHead)
  not_minimal : IsNotMinimal y → RefusesBody base L T offset m y (refuses offset (offset + 2) reason.NotMinimal)
  short : length y ≡ m → IsUnsignedPrefix y
      → RefusesBody base L T offset m y (refuses (offset + m) (offset + m) reason.Short)
  refused_id : {id : TypeId} {n : ℕ} {a : List ℕ} {r : Reason} (z : List ℕ) → y ≡ a ++ z → id.0 ≡ n + 1
      → IsSigned (negsuc n) a
      → RefusesId base L T id r → RefusesBody base L T offset m y (refuses offset (offset + length a) r)
  refused_type : {t : TypeId} {a : List ℕ} {r : Reason} (z : List ℕ) → y ≡ a ++ z → IsSigned (pos t.0) a
      → RefusesType T t r → RefusesBody base L T offset m y (refuses offset (offset + length a) r)
  -- what follows it
  refused_value : {t : TypeId} {a : List ℕ} {R : body.Refusal} (z : List ℕ) → y ≡ a ++ z → IsSigned (pos t.0) a
      → MayPut T t
      → IsFirst T t L.depth (m - length a) z R → RefusesBody base L T offset m y (behind (offset + length a) R)
  refused_description : {id : TypeId} {n : ℕ} {a : List ℕ} {R : body.Refusal} (z : List ℕ) → y ≡ a ++ z → id.0 ≡ n + 1
      → IsSigned (negsuc n) a
      → MayDefine base L T id → IsFirst T wire_type L.depth (m - length a) z R
      → RefusesBody base L T offset m y (behind (offset + length a) R)
  -- a whole description that describes no type
  described_wrongly : {id : TypeId} {n : ℕ} {v : Tree} {a z : List ℕ} {r : Reason} → y ≡ a ++ z → length y ≡ m
      → id.0 ≡ n + 1 → IsSigned (negsuc n) a
      → MayDefine base L T id → Spells T wire_type v z → depth v ≤ L.depth → Misdescribes id v r
      → RefusesBody base L T offset m y (refuses (offset + length a) (offset + m) r)
