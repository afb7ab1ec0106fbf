-- What the reading calls answer, in the words of streams.
use Rattle.std.specs.Prelude.{◌≡◌, ◌≢◌, ℕ, ◌+◌, ◌≤◌, List, [], ◌++◌, length, Option, Some, Result, Ok, Err}
use Rattle.gob_num.specs.Unsigned.{IsUnsigned}
use Rattle.gob_types.specs.declared.reason.Reason.TheVariants as reason
use Rattle.gob_types.specs.Table.{Table}
use Rattle.gob_types.specs.Base.{base_table}
use Rattle.gob_value.specs.Tree.{Tree}
use Rattle.gob_stream.specs.declared.fault.Refusal.{Refusal}
use Rattle.gob_stream.specs.declared.fault.Fault.{Fault}
use Rattle.gob_stream.specs.declared.fault.Fault.TheVariants as fault
use Rattle.gob_stream.specs.declared.item.Item as declared
use Rattle.gob_stream.specs.Bounds.{Bounds}
use Rattle.gob_stream.specs.Devices.{counts_up, Rose}
use Rattle.gob_stream.specs.Item.{StreamItem, ItemsMean}
use Rattle.gob_stream.specs.Stream.{Stream}
use Rattle.gob_stream.specs.Outcome.{LongestStream, LongestButLast, Outcome, refused}

-- of the bytes that were left, some were taken and these are left now
pub record Taken (before : List ℕ) (now : Option (List ℕ)) (taken : List ℕ) : Type 0 where
  pub left : List ℕ
  pub known : now ≡ Some left
  pub whole : before ≡ taken ++ left

-- some were taken, of which this holds
pub record SomeTaken (before : List ℕ) (now : Option (List ℕ)) (P : List ℕ → Type 0) : Type 0 where
  pub bytes : List ℕ
  pub taken : Taken before now bytes
  pub holds : P bytes

-- the new items are the old ones and then some, of which this holds
pub record Given {A : Type 0} (old new : List A) (P : List A → Type 0) : Type 0 where
  pub given : List A
  pub appended : new ≡ old ++ given
  pub holds : P given

-- the items were given, those stand for items of the stream, and of these and the ones before this holds
pub record GivesOn {O : Type 0} (means : O → Tree → Type 0) (given : List (declared.Item O)) (before : List StreamItem)
    (P : List StreamItem → Type 0) : Type 0 where
  pub more : List StreamItem
  pub mean : ItemsMean means given more
  pub holds : P (before ++ more)

-- the bytes are refused so, for another reason than that they end
pub record ShowsRefusal (L : Bounds) (bytes : List ℕ) (items : List StreamItem) (R : Refusal) : Type 0 where
  pub outcome : Outcome base_table L bytes items (refused R)
  pub shown : R.reason ≢ reason.Ended

-- the bytes begin with the stream of the items, and these are the types behind it
pub record HasTypesBehind (L : Bounds) (bytes : List ℕ) (items : List StreamItem) (T : Table) : Type 0 where
  pub prefix : List ℕ
  pub rest : List ℕ
  pub stream : Stream base_table L items prefix T
  pub whole : bytes ≡ prefix ++ rest

-- or these are the types behind one item more
pub record HasTypesBeyond (L : Bounds) (bytes : List ℕ) (items : List StreamItem) (T : Table) : Type 0 where
  pub more : List StreamItem
  pub at_most_one : length more ≤ 1
  pub behind : HasTypesBehind L bytes (items ++ more) T

-- so many of the bytes were taken, and of the items that these give, all but the last at most are these
pub record GivesOfTaken (L : Bounds) (taken : ℕ) (bytes : List ℕ) (items : List StreamItem) : Type 0 where
  pub prefix : List ℕ
  pub rest : List ℕ
  pub whole : bytes ≡ prefix ++ rest
  pub taken_is : taken ≡ length prefix
  pub given : LongestButLast base_table L prefix items

-- the bytes z of an item that begins at the offset are no more than those that show the refusal, or than its count and
-- its body
pub data IsNoFurther (L : Bounds) (offset : ℕ) (z : List ℕ) (R : Refusal) : Type 0 where
  up_to_the_last_shown : R.seen ≡ offset + length z → IsNoFurther L offset z R
  within_the_item : {m : ℕ} {c : List ℕ} (y : List ℕ) → z ≡ c ++ y → IsUnsigned m c → m ≤ L.item
      → offset + length c + m ≤ L.stream → length y ≤ m
      → IsNoFurther L offset z R

-- the bytes are those of the items, and of the one that is refused behind them no more than that
pub record EndsInItem (L : Bounds) (bytes : List ℕ) (items : List StreamItem) (R : Refusal) : Type 0 where
  pub prefix : List ℕ
  pub item : List ℕ
  pub table : Table
  pub stream : Stream base_table L items prefix table
  pub whole : bytes ≡ prefix ++ item
  pub no_further : IsNoFurther L (length prefix) item R

-- the next item is refused: for what the bytes show with some of the rest, or since all of it ends within the item
pub data RefusesNextItem (L : Bounds) (items : List StreamItem) (bytes rest : List ℕ) (now : Option (List ℕ))
    (R : Refusal) : Type 0 where
  shown : SomeTaken rest now (λ taken. ShowsRefusal L (bytes ++ taken) items R × EndsInItem L (bytes ++ taken) items R)
      → RefusesNextItem L items bytes rest now R
  ended : now ≡ Some [] → Outcome base_table L (bytes ++ rest) items (refused R) → R.reason ≡ reason.Ended
      → RefusesNextItem L items bytes rest now R

-- what stops a session that had given the items, of these bytes, over a reader with the rest left
abbrev pub StopsNext : Bounds → List StreamItem → (bytes rest : List ℕ) → Option (List ℕ) → Fault → Type 0
StopsNext L items bytes rest now (fault.Refused R) = RefusesNextItem L items bytes rest now R
StopsNext L items bytes rest now fault.Read = SomeTaken rest now (λ taken. LongestStream base_table L (bytes ++ taken)
    items)
StopsNext L items bytes rest now fault.Memory = SomeTaken rest now (λ taken. LongestButLast base_table L (bytes
    ++ taken) items)
StopsNext L items bytes rest now fault.Failed = ⊥

-- what reading a whole stream answers, over a reader with these bytes left, where the items were given
abbrev pub ReadsStream : Bounds → List ℕ → Option (List ℕ) → List StreamItem → Result (Unit {0}) Fault → Type 0
ReadsStream L bytes now items (Ok _) = (T : Table) × Stream base_table L items bytes T × (now ≡ Some [])
ReadsStream L bytes now items (Err (fault.Refused R)) = Outcome base_table L bytes items (refused R)
ReadsStream L bytes now items (Err fault.Read) = SomeTaken bytes now (λ taken. LongestStream base_table L taken items)
ReadsStream L bytes now items (Err fault.Memory) =
    SomeTaken bytes now (λ taken. LongestButLast base_table L taken items)
ReadsStream L bytes now items (Err fault.Failed) = ⊥

-- a call answers `Read` exactly where a read failed in it, which ended the call
abbrev pub CountsReads : {A : Type 0} → (failures failures' : ℕ) → Result A Fault → Type 0
CountsReads failures failures' (Ok _) = failures' ≡ failures
CountsReads failures failures' (Err (fault.Refused r)) = failures' ≡ failures
CountsReads failures failures' (Err fault.Read) = (failures' ≡ counts_up failures 1) × Rose failures failures'
CountsReads failures failures' (Err fault.Memory) = failures' ≡ failures
CountsReads failures failures' (Err fault.Failed) = failures' ≡ failures
