-- What the search for the places where items go on knows and answers. For private clauses.
use Rattle.std.specs.Prelude.{◌≡◌, ◌⊎◌, ℕ, ◌+◌, ◌-◌, ◌≤◌, List, [], ◌∷◌, ◌++◌, length, take, drop, Bool, true, false}
use Rattle.std.specs.List.{AllByRecursion}
use Rattle.gob_types.specs.declared.id.TypeId.{TypeId}
use Rattle.gob_types.specs.declared.reason.Reason.{Reason}
use Rattle.gob_types.specs.declared.reason.Reason.TheVariants as reason
use Rattle.gob_types.specs.Base.{base_table}
use Rattle.gob_types.specs.Table.{Table}
use Rattle.gob_stream.specs.Bounds.{Bounds}
use Rattle.gob_filled.specs.Filled.{Filled}
use Rattle.gob_filled.specs.Stream.{FilledItem, putting, IsFilledItem, AreFilledItems, FilledStream}
use Rattle.gob_go.specs.Machine.SessionState.{SessionState}
use Rattle.gob_salvage.specs.Taking.{HasReadAll}
use Rattle.gob_salvage.specs.declared.kept_types.KeptTypes.{KeptTypes}
use Rattle.gob_salvage.specs.declared.search.Search.{Search}
use Rattle.gob_salvage.specs.Evidence.{AllDefine, GoOn, HasValue, IsFrame, ReachesEnd, StandsUpTo}

-- ---- types of which a value was kept
-- each of them is the type of one of the items, and where none is noted none of these is a value
pub record AreNoted (k : KeptTypes) (items : List FilledItem) : Type 0 where
  pub each : AllByRecursion (λ n. HasValue items n) k.ids.keys
  pub none : k.any ≡ false → AllDefine items

-- those of the items are noted too
abbrev pub NotesAlso : (old new : KeptTypes) → List FilledItem → Type 0
NotesAlso old new more = (items : List FilledItem) → AreNoted old items → AreNoted new (items ++ more)

-- that of the item that these bytes are
abbrev pub NotesItemOf : List ℕ → (old new : KeptTypes) → Type 0
NotesItemOf bytes old new = (L : Bounds) (T U : Table) (offset : ℕ) (i : FilledItem)
    → IsFilledItem base_table L T offset i bytes U → NotesAlso old new (i ∷ [])

-- those of the items that they are, which define nothing
abbrev pub NotesItemsOf : List ℕ → (old new : KeptTypes) → Type 0
NotesItemsOf bytes old new = (L : Bounds) (T : Table) (offset : ℕ) (items : List FilledItem)
    → AreFilledItems base_table L T offset items bytes T → NotesAlso old new items

-- the first ones of the items end at the place, and of them all ids are kept
pub record HasWalked (L : Bounds) (T : Table) (items : List FilledItem) (bytes : List ℕ) (old new : KeptTypes)
    (at : ℕ) : Type 0 where
  pub done : List FilledItem
  pub left : List FilledItem
  pub offset : ℕ
  pub whole : items ≡ done ++ left
  pub are : AreFilledItems base_table L T offset left (drop at bytes) T
  pub each : (before : List FilledItem) → AllByRecursion (λ n. HasValue before n) old.ids.keys
      → AllByRecursion (λ n. HasValue (before ++ done) n) new.ids.keys

-- ---- refusals
-- the type of a value isn't known
pub record IsUnknown (why : Reason) : Type 0 where
  pub id : TypeId
  pub is : why ≡ reason.UndefinedType id
  pub own : 64 ≤ id.0

-- ---- the search
-- it has spent some, and nothing else has changed
pub record HasSpent (old new : Search) : Type 0 where
  pub limits : new.limits ≡ old.limits
  pub types : new.kept_types ≡ old.kept_types

-- a value of a type of which one was kept stands at the front of the piece
pub record ValueStands (L : Bounds) (T : Table) (kept : List FilledItem) (piece : List ℕ) : Type 0 where
  pub id : TypeId
  pub value : Filled
  pub end : ℕ
  pub known : HasValue kept id.0
  pub frame : IsFrame piece 0 end
  pub item : IsFilledItem base_table L T 0 (putting id value) (take end piece) T

-- so many are enough, or fewer if they are the last
abbrev pub Suffices : (many few count : ℕ) → (is_last : Bool) → Type 0
Suffices many few count is_last = (many ≤ count) ⊎ ((is_last ≡ true) × (few ≤ count))

-- a stream of so many items stands at the front of the piece
pub record BeginsStream (L : Bounds) (piece : List ℕ) (count end : ℕ) : Type 0 where
  pub items : List FilledItem
  pub table : Table
  pub counted : count ≡ length items
  pub inside : end ≤ length piece
  pub stream : FilledStream base_table L items (take end piece) table

-- it has read such a stream
pub record HasReadSome (s : SessionState) (piece : List ℕ) (count end : ℕ) : Type 0 where
  pub read : HasReadAll s (take end piece)
  pub counted : count ≡ length read.items
  pub inside : end ≤ length piece

-- items go on at the place, or what was refused ends there by its count, and the bytes with it, or nothing follows
pub data IsNextPlace (L : Bounds) (T : Table) (kept : List FilledItem) (bytes : List ℕ) (at next : ℕ) : Type 0 where
  at_the_end : next ≡ length bytes → IsNextPlace L T kept bytes at next
  by_its_count : IsFrame bytes at next → drop next bytes ≡ 10 ∷ [] → IsNextPlace L T kept bytes at next
  by_evidence : GoOn L T kept (drop next bytes) → IsNextPlace L T kept bytes at next
