-- The laws of items and outcomes in the profile.
-- (They follow from docs/FORMAT.md, What Go's encoder writes beyond its documentation.)
use Rattle.std.specs.Prelude.{◌≡◌, ◌≢◌, ℕ, ◌+◌, ◌-◌, ◌≤◌, List, ◌++◌, length, take}
use Rattle.gob_types.specs.declared.id.TypeId.{TypeId}
use Rattle.gob_types.specs.declared.reason.Reason.TheVariants as reason
use Rattle.gob_types.specs.Table.{Table}
use Rattle.gob_types.specs.Base.{base_table, wire_type}
use Rattle.gob_value.specs.Tree.{Tree}
use Rattle.gob_value.specs.Top.{HasStructs}
use Rattle.gob_num.specs.Unsigned.{AreBytes}
use Rattle.gob_stream.specs.declared.fault.Refusal.{Refusal}
use Rattle.gob_stream.specs.Bounds.{Bounds}
use Rattle.gob_stream.specs.Item.{StreamItem, defines, puts}
use Rattle.gob_stream.specs.Stream.{IsItem}
use Rattle.gob_stream.specs.Outcome.{RefusesNext}
use Rattle.gob_filled.specs.Filled.{Filled, filled, no_filling}
use Rattle.gob_filled.specs.Stream.{FilledItem, defining, putting, IsFilledItem}
use Rattle.gob_filled.specs.Standing.{IsWholeItem}
use Rattle.gob_filled.specs.Outcome.{RefusesFilled, Ending, FilledOutcome}

-- an item of the format as one whose value isn't filled
abbrev pub unfilled_item : StreamItem → FilledItem
unfilled_item (defines id v) = defining id v
unfilled_item (puts t v) = putting t (filled v no_filling)

-- each item of the format is one of the profile
abbrev pub ItemsStay : Type 0
ItemsStay = (base : Table) (L : Bounds) (T U : Table) (offset : ℕ) (i : StreamItem) (b : List ℕ) → AreBytes b
    → IsItem base L T offset i b U
    → IsFilledItem base L T offset (unfilled_item i) b U

-- and each refusal but InterfaceValue and WrongId is one
abbrev pub RefusalsStay : Type 0
RefusalsStay = (base : Table) (L : Bounds) (T : Table) (offset : ℕ) (z : List ℕ) (R : Refusal) → HasStructs T wire_type
    → RefusesNext base L T offset z R → R.reason ≢ reason.InterfaceValue
    → R.reason ≢ reason.WrongId → RefusesFilled base L T offset z R

-- no item begins another
abbrev pub ItemsEndByThemselves : Type 0
ItemsEndByThemselves = (base : Table) (L : Bounds) (T U V : Table) (offset : ℕ) (i j : FilledItem) (b c x y : List ℕ)
    → IsFilledItem base L T offset i b U → IsFilledItem base L T offset j c V → b ++ x ≡ c ++ y
    → (i ≡ j) × (b ≡ c) × (U ≡ V)

-- bytes that stand so to their end are an item, and an item stands so
abbrev pub StandingIsReading : Type 0
StandingIsReading = (base : Table) (L : Bounds) (T U : Table) (offset : ℕ) (b : List ℕ) → AreBytes b
    → IsWholeItem base L T offset b U
    → (t : TypeId) × (w : Filled) × IsFilledItem base L T offset (putting t w) b U

abbrev pub ItemsStand : Type 0
ItemsStand = (base : Table) (L : Bounds) (T U : Table) (offset : ℕ) (t : TypeId) (w : Filled) (b : List ℕ)
    → IsFilledItem base L T offset (putting t w) b U → IsWholeItem base L T offset b U

-- the main law: any bytes have one outcome
abbrev pub HaveOneOutcome : Type 0
HaveOneOutcome = (L : Bounds) (bytes : List ℕ) (items others : List FilledItem) (e f : Ending)
    → FilledOutcome base_table L bytes items e → FilledOutcome base_table L bytes others f → (items ≡ others) × (e ≡ f)

-- one refusal is given of bytes
abbrev pub RefuseOnce : Type 0
RefuseOnce = (base : Table) (L : Bounds) (T : Table) (offset : ℕ) (z : List ℕ) (R S : Refusal) → HasStructs T wire_type
    → RefusesFilled base L T offset z R → RefusesFilled base L T offset z S → R ≡ S

-- and none where they begin with an item: of a value, as it stands, or a definition
abbrev pub StandingIsNotRefused : Type 0
StandingIsNotRefused = (base : Table) (L : Bounds) (T U : Table) (offset : ℕ) (b y : List ℕ) (R : Refusal)
    → IsWholeItem base L T offset b U
    → ¬ RefusesFilled base L T offset (b ++ y) R

abbrev pub DefinitionsAreNotRefused : Type 0
DefinitionsAreNotRefused = (base : Table) (L : Bounds) (T U : Table) (offset : ℕ) (id : TypeId) (v : Tree)
    (b y : List ℕ) (R : Refusal)
    → IsFilledItem base L T offset (defining id v) b U → ¬ RefusesFilled base L T offset (b ++ y) R

-- no item begins where the bytes are refused
abbrev pub RefusedIsNoItem : Type 0
RefusedIsNoItem = (base : Table) (L : Bounds) (T U : Table) (offset : ℕ) (i : FilledItem) (b y : List ℕ) (R : Refusal)
    → IsFilledItem base L T offset i b U → ¬ RefusesFilled base L T offset (b ++ y) R

-- the bytes that show a refusal are there, and it is the one of all bytes that begin with them
abbrev pub RefusalsStayShown : Type 0
RefusalsStayShown = (base : Table) (L : Bounds) (T : Table) (offset : ℕ) (z others : List ℕ) (R : Refusal)
    → HasStructs T wire_type → RefusesFilled base L T offset z R
    → take (R.seen - offset) others ≡ take (R.seen - offset) z
    → (R.seen ≤ offset + length z) × RefusesFilled base L T offset others R
