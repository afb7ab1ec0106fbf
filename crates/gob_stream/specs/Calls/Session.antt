-- What contracts see of a session: the items that it has read of the bytes so far, its types and its limits. Each
-- word takes what its builder is, where it speaks of items.
use Rattle.std.specs.Prelude.{◌≡◌, ℕ, ◌++◌, ◌∷◌, [], List, length}
use Rattle.gob_types.specs.Base.{base_table}
use Rattle.gob_types.specs.Defined.{Defined, types}
use Rattle.gob_types.specs.Table.{Table}
use Rattle.gob_types.specs.declared.id.TypeId.{TypeId}
use Rattle.gob_read.specs.Building.{Building}
use Rattle.gob_stream.specs.Machine.SessionState.{SessionState}
use Rattle.gob_stream.specs.declared.stage.Stage.TheVariants as stage
use Rattle.gob_stream.specs.Bounds.{Bounds, no_deeper}
use Rattle.gob_stream.specs.Item.{StreamItem}
use Rattle.gob_stream.specs.Machine.ReadParts.{bytes_wanted}
use Rattle.gob_stream.specs.Stream.{IsItem, AreItems}
use Rattle.gob_stream.specs.Whole.{HasBody, HasBegun, HasItem, HasItems}
use Rattle.gob_stream.specs.Machine.Between.{IsBetween}
-- the items that it has given, of the bytes that it has taken; and what its calls answer
pub use Rattle.gob_stream.specs.Machine.HasRead.{HasRead, HasReadOn}
pub use Rattle.gob_stream.specs.Machine.ReadParts.{StepAnswers}
pub use Rattle.gob_stream.specs.Machine.Between.{ReadsItems}
pub use Rattle.gob_stream.specs.Calls.Reads.{FeedAnswers, FinishAnswers, ReadItemAnswers, ReadItemTakes, FeedsHonestly}
pub use Rattle.gob_stream.specs.Calls.Reads.{ReadsHonestly}

-- it has met a fault, behind which it reads no more
abbrev pub HasFailed : {X O : Type 0} → SessionState X O → Type 0
HasFailed s = s.stage ≡ stage.Failed

-- no byte of an item is under way
abbrev pub IsBetweenItems : {X O : Type 0} → SessionState X O → Type 0
IsBetweenItems s = IsBetween s

-- the types that the items so far have defined, how many bytes were taken, and what it keeps to
abbrev pub table_of : {X O : Type 0} → SessionState X O → Defined
table_of s = s.types

abbrev pub types_of : {X O : Type 0} → SessionState X O → Table
types_of s = types (table_of s)

abbrev pub taken_of : {X O : Type 0} → SessionState X O → ℕ
taken_of s = s.taken

abbrev pub limits_of : {X O : Type 0} → SessionState X O → Bounds
limits_of s = s.limits

-- how many bytes can be taken at once, without going past the end of the item under way
abbrev pub wanted_of : {X O : Type 0} → SessionState X O → ℕ
wanted_of s = bytes_wanted s.stage s.taken

-- nothing in it has changed
abbrev pub StaysAsItWas : {X O : Type 0} → (s s' : SessionState X O) → Type 0
StaysAsItWas s s' = s' ≡ s

-- the first bytes of the piece are the next item, of a value of the type with this body
abbrev pub HasBodyNext : {X O : Type 0} → SessionState X O → TypeId → (body : List ℕ) → (used : ℕ) → (piece : List ℕ)
    → Type 0
HasBodyNext s id body used piece = HasBody (limits_of s) (types_of s) (taken_of s) id body used piece

-- the piece is the first bytes of the next item, which has so many, of a value of the type
abbrev pub HasBegunNext : {X O : Type 0} → SessionState X O → TypeId → (head size : ℕ) → (piece : List ℕ) → Type 0
HasBegunNext s id head size piece = HasBegun (limits_of s) (types_of s) (taken_of s) id head size piece

-- so many bytes may be the next item, which defines nothing
abbrev pub HasItemNext : {X O : Type 0} {most : ℕ} → Building X O most → SessionState X O → (used : ℕ) → Type 0
HasItemNext {most = most} building s used = HasItem (no_deeper most (limits_of s)) (types_of s) (taken_of s) used

-- it has read such an item
abbrev pub ReadsOn : {X O : Type 0} {most : ℕ} → Building X O most → (s s' : SessionState X O) → (used : ℕ) → Type 0
ReadsOn {most = most} building s s' used = (items : List StreamItem) (bytes : List ℕ) (item : StreamItem) (z : List ℕ)
    → HasRead building s items bytes
    → IsItem base_table (no_deeper most (limits_of s)) (types_of s) (taken_of s) item z (types_of s)
    → length z ≡ used
    → HasRead building s' (items ++ item ∷ []) (bytes ++ z)

-- so many bytes may be the next items, which define nothing
abbrev pub HasItemsNext : {X O : Type 0} {most : ℕ} → Building X O most → SessionState X O → (used : ℕ) → Type 0
HasItemsNext {most = most} building s used = HasItems (no_deeper most (limits_of s)) (types_of s) (taken_of s) used

-- it has read such items
abbrev pub ReadsAll : {X O : Type 0} {most : ℕ} → Building X O most → (s s' : SessionState X O) → (used : ℕ) → Type 0
ReadsAll {most = most} building s s' used = (items : List StreamItem) (bytes : List ℕ) (given : List StreamItem)
    (z : List ℕ)
    → HasRead building s items bytes
    → AreItems base_table (no_deeper most (limits_of s)) (types_of s) (taken_of s) given z (types_of s)
    → length z ≡ used
    → HasRead building s' (items ++ given) (bytes ++ z)
