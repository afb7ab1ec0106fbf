-- What any bytes give: the items of the longest stream that they begin with, and then its end, or the refusal of what
-- stands behind it. (docs/FORMAT.md, Refusals: this project's own, as Go's decoder says no more of bytes that are no
-- stream.)
use Rattle.std.specs.Prelude.{◌≡◌, ℕ, ◌+◌, ◌≤◌, List, ◌++◌, length, take}
use Rattle.gob_num.specs.Unsigned.{IsUnsigned}
use Rattle.gob_types.specs.Base.{base_table}
use Rattle.gob_types.specs.Table.{Table}
use Rattle.gob_stream.specs.declared.fault.Refusal.{Refusal}
use Rattle.gob_stream.specs.Bounds.{Bounds}
use Rattle.gob_stream.specs.Item.{StreamItem}
use Rattle.gob_stream.specs.Stream.{IsItem}
use Rattle.gob_stream.specs.Grammar.{BeginsWithStreamOf, LongestStreamOf, EndsOf, OutcomeOf, Grammar}
use Rattle.gob_stream.specs.Refusing.{RefusesCount, RefusesBody}
pub use Rattle.gob_stream.specs.Grammar.{Ending, the_end, refused, at_the_end, next_refused, within_an_item}

-- the bytes begin with the stream of the items
abbrev pub BeginsWithStream : (base : Table) (L : Bounds) (bytes : List ℕ) → List StreamItem → Type 0
BeginsWithStream base L bytes items = BeginsWithStreamOf (IsItem base L) base bytes items

-- and with no longer one
abbrev pub LongestStream : (base : Table) (L : Bounds) (bytes : List ℕ) → List StreamItem → Type 0
LongestStream base L bytes items = LongestStreamOf (IsItem base L) base bytes items

-- or with none that has more than one item more: of the items that they give, these are all but the last at most
pub record LongestButLast (base : Table) (L : Bounds) (bytes : List ℕ) (items : List StreamItem) : Type 0 where
  pub begins : BeginsWithStream base L bytes items
  pub but_last : (others : List StreamItem) → BeginsWithStream base L bytes others → length others ≤ length items + 1

-- z is what is there behind the stream: the next item is refused for what these bytes show
pub data RefusesNext (base : Table) (L : Bounds) (T : Table) (offset : ℕ) (z : List ℕ) : Refusal → Type 0 where
  refused_count : {R : Refusal} → RefusesCount L offset z R → RefusesNext base L T offset z R
  refused_body : {m : ℕ} {c : List ℕ} {R : Refusal} (r : List ℕ) → z ≡ c ++ r → IsUnsigned m c → m ≤ L.item
      → offset + length c + m ≤ L.stream
      → RefusesBody base L T (offset + length c) m (take m r) R → RefusesNext base L T offset z R

-- how the bytes go on behind the stream of the items
abbrev pub EndsSo : (base : Table) (L : Bounds) (bytes : List ℕ) → List StreamItem → Ending → Type 0
EndsSo base L bytes items e = EndsOf (IsItem base L) (RefusesNext base L) base bytes items e

-- what the bytes give, and how they end
abbrev pub Outcome : (base : Table) (L : Bounds) (bytes : List ℕ) → List StreamItem → Ending → Type 0
Outcome base L bytes items e = OutcomeOf (IsItem base L) (RefusesNext base L) base bytes items e

-- the grammar of the format
abbrev pub strict : Grammar StreamItem
strict = record { is = IsItem base_table; refuses = RefusesNext base_table }
