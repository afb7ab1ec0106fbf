-- What any bytes give, in any grammar of items: `is` says which bytes are an item, and `refuses` what is none. They
-- give the items of the longest stream that they begin with, and then its end, or the refusal of what stands behind it.
use Rattle.std.specs.Prelude.{◌≡◌, ◌≢◌, ℕ, ◌≤◌, List, [], ◌++◌, length}
use Rattle.gob_types.specs.declared.reason.Reason.TheVariants as reason
use Rattle.gob_types.specs.Base.{base_table}
use Rattle.gob_types.specs.Table.{Table}
use Rattle.gob_stream.specs.declared.fault.Refusal.{Refusal}
use Rattle.gob_stream.specs.Bounds.{Bounds}
use Rattle.gob_stream.specs.Items.{AreItemsOf}
use Rattle.gob_stream.specs.Refusing as refusing

-- the bytes begin with the stream of the items
pub record BeginsWithStreamOf {Told : Type 0} (is : Table → ℕ → Told → List ℕ → Table → Type 0) (base : Table)
    (bytes : List ℕ) (items : List Told) : Type 0 where
  pub prefix : List ℕ
  pub rest : List ℕ
  pub table : Table
  pub stream : AreItemsOf is base 0 items prefix table
  pub whole : bytes ≡ prefix ++ rest

-- and with no longer one
pub record LongestStreamOf {Told : Type 0} (is : Table → ℕ → Told → List ℕ → Table → Type 0) (base : Table)
    (bytes : List ℕ) (items : List Told) : Type 0 where
  pub begins : BeginsWithStreamOf is base bytes items
  pub longest : (others : List Told) → BeginsWithStreamOf is base bytes others → length others ≤ length items

-- what comes behind the stream of the items
pub data Ending : Type 0 where
  the_end : Ending
  refused : Refusal → Ending

-- how the bytes go on behind it
pub data EndsOf {Told : Type 0} (is : Table → ℕ → Told → List ℕ → Table → Type 0)
    (refuses : Table → ℕ → List ℕ → Refusal → Type 0) (base : Table) (bytes : List ℕ) (items : List Told) : Ending
    → Type 0 where
  at_the_end : {T : Table} → AreItemsOf is base 0 items bytes T → EndsOf is refuses base bytes items the_end
  next_refused : {f : List ℕ} {T : Table} {R : Refusal} (z : List ℕ) → AreItemsOf is base 0 items f T → bytes ≡ f ++ z
      → refuses T (length f) z R → EndsOf is refuses base bytes items (refused R)
  within_an_item : {f : List ℕ} {T : Table} (z : List ℕ) → AreItemsOf is base 0 items f T → bytes ≡ f ++ z → z ≢ []
      → ((R : Refusal) → ¬ refuses T (length f) z R)
      → EndsOf is refuses base bytes items (refused (refusing.refuses (length bytes) (length bytes) reason.Ended))

-- what the bytes give, and how they end
pub record OutcomeOf {Told : Type 0} (is : Table → ℕ → Told → List ℕ → Table → Type 0)
    (refuses : Table → ℕ → List ℕ → Refusal → Type 0) (base : Table) (bytes : List ℕ) (items : List Told)
    (e : Ending) : Type 0 where
  pub gives : LongestStreamOf is base bytes items
  pub ends : EndsOf is refuses base bytes items e

-- ---- a grammar of items under limits, over the base table
pub record Grammar (Told : Type 0) : Type 1 where
  -- at this offset the bytes are the item, by the types in front, and the second table is the one behind it
  pub is : Bounds → Table → ℕ → Told → List ℕ → Table → Type 0
  -- what is there at the offset is refused, by the types in front
  pub refuses : Bounds → Table → ℕ → List ℕ → Refusal → Type 0

abbrev pub StreamIn : {Told : Type 0} → Grammar Told → Bounds → List Told → List ℕ → Table → Type 0
StreamIn G L items bytes T = AreItemsOf (G.is L) base_table 0 items bytes T

abbrev pub BeginsIn : {Told : Type 0} → Grammar Told → Bounds → (bytes : List ℕ) → List Told → Type 0
BeginsIn G L bytes items = BeginsWithStreamOf (G.is L) base_table bytes items

abbrev pub LongestIn : {Told : Type 0} → Grammar Told → Bounds → (bytes : List ℕ) → List Told → Type 0
LongestIn G L bytes items = LongestStreamOf (G.is L) base_table bytes items

abbrev pub OutcomeIn : {Told : Type 0} → Grammar Told → Bounds → (bytes : List ℕ) → List Told → Ending → Type 0
OutcomeIn G L bytes items e = OutcomeOf (G.is L) (G.refuses L) base_table bytes items e

-- the bytes give the items, those of the longest stream that they begin with, and these are the types behind them
pub record GivesIn {Told : Type 0} (G : Grammar Told) (L : Bounds) (T : Table) (items : List Told) (bytes : List ℕ)
    : Type 0 where
  pub gives : LongestIn G L bytes items
  pub table : gives.begins.table ≡ T

-- the bytes are refused so behind the items, and these are the types behind those
pub record RefusesIn {Told : Type 0} (G : Grammar Told) (L : Bounds) (T : Table) (items : List Told) (bytes : List ℕ)
    (R : Refusal) : Type 0 where
  pub outcome : OutcomeIn G L bytes items (refused R)
  pub table : outcome.gives.begins.table ≡ T
