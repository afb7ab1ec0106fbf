-- What shows that items go on at a place behind bytes that are left out. (docs/FORMAT.md, What is kept of damaged
-- bytes: this project's own.)
use Rattle.std.specs.Prelude.{◌≡◌, ℕ, ◌+◌, ◌-◌, ◌≤◌, List, [], ◌∷◌, ◌++◌, length, take, drop}
use Rattle.std.specs.List.{AllByRecursion}
use Rattle.gob_num.specs.Place.{IsUnsignedAt}
use Rattle.gob_types.specs.declared.id.TypeId.{TypeId}
use Rattle.gob_types.specs.Base.{base_table}
use Rattle.gob_types.specs.Table.{Table}
use Rattle.gob_stream.specs.Bounds.{Bounds}
use Rattle.gob_filled.specs.Filled.{Filled}
use Rattle.gob_filled.specs.Stream.{FilledItem, defining, putting, IsFilledItem, FilledStream}

-- ---- the items that were kept
-- one of them is a value of the type of this number
pub record HasValue (items : List FilledItem) (number : ℕ) : Type 0 where
  pub before : List FilledItem
  pub id : TypeId
  pub value : Filled
  pub after : List FilledItem
  pub whole : items ≡ before ++ putting id value ∷ after
  pub numbered : id.0 ≡ number

-- none is a value
abbrev pub IsDefinition : FilledItem → Type 0
IsDefinition (defining id v) = Unit {0}
IsDefinition (putting t w) = ⊥

abbrev pub AllDefine : List FilledItem → Type 0
AllDefine items = AllByRecursion IsDefinition items

-- ---- what stands at a place
-- between the places stands what may be an item: a count, and so many bytes
pub record IsFrame (bytes : List ℕ) (begin end : ℕ) : Type 0 where
  pub count : ℕ
  pub head : ℕ
  pub counts : IsUnsignedAt count bytes begin head
  pub ends : end ≡ head + count
  pub inside : end ≤ length bytes

-- one behind another stand so many values of types of which a value was kept, which define nothing, among so many other
-- frames
pub data StandsUpTo (L : Bounds) (T : Table) (kept : List FilledItem) (bytes : List ℕ) : (values others end : ℕ)
    → Type 0 where
  nothing_yet : StandsUpTo L T kept bytes 0 0 0
  a_value : {values others begin end : ℕ} {t : TypeId} {w : Filled} → StandsUpTo L T kept bytes values others begin
      → begin ≤ end → end ≤ length bytes → HasValue kept t.0
      → IsFilledItem base_table L T 0 (putting t w) (take (end - begin) (drop begin bytes)) T
      → StandsUpTo L T kept bytes (values + 1) others end
  another : {values others begin end : ℕ} → StandsUpTo L T kept bytes values others begin → IsFrame bytes begin end
      → StandsUpTo L T kept bytes values (others + 1) end

-- the bytes end at the place, or with a line feed there
pub data ReachesEnd (bytes : List ℕ) (at : ℕ) : Type 0 where
  at_the_end : at ≡ length bytes → ReachesEnd bytes at
  at_a_line_feed : drop at bytes ≡ 10 ∷ [] → ReachesEnd bytes at

-- so many are enough, or fewer up to the end
pub data IsEnough (many few : ℕ) (bytes : List ℕ) (count end : ℕ) : Type 0 where
  so_many : many ≤ count → IsEnough many few bytes count end
  up_to_the_end : few ≤ count → ReachesEnd bytes end → IsEnough many few bytes count end

-- a stream of so many items begins there, or of two up to the end
pub record BeginsAnew (L : Bounds) (many : ℕ) (bytes : List ℕ) : Type 0 where
  pub items : List FilledItem
  pub end : ℕ
  pub table : Table
  pub inside : end ≤ length bytes
  pub stream : FilledStream base_table L items (take end bytes) table
  pub enough : IsEnough many 2 bytes (length items) end

-- ---- that items go on there
-- three values of types of which a value was kept, or fewer up to the end; or where no value was kept thirty-two items,
-- or two up to the end
pub data GoOn (L : Bounds) (T : Table) (kept : List FilledItem) (bytes : List ℕ) : Type 0 where
  by_values : {values others end : ℕ} → StandsUpTo L T kept bytes values others end → others ≤ 16
      → IsEnough 3 1 bytes values end → GoOn L T kept bytes
  by_frames : {values others end : ℕ} → AllDefine kept → StandsUpTo L T kept bytes values others end
      → IsEnough 32 2 bytes (values + others) end → GoOn L T kept bytes
  by_a_stream : AllDefine kept → BeginsAnew L 32 bytes → GoOn L T kept bytes
