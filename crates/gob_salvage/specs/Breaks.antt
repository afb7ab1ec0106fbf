-- Where another encoder's stream begins: an item defines a type again, in another way, and is read behind the
-- definitions that are in force without those of the ids that it defines. (docs/FORMAT.md, What is kept of damaged
-- bytes: this project's own.)
use Rattle.std.specs.Prelude.{◌≡◌, ℕ, ◌+◌, ◌≤◌, ◌<◌, List, [], ◌∷◌, ◌++◌, length, take, drop, Some}
use Rattle.gob_types.specs.declared.id.TypeId.{TypeId}
use Rattle.gob_types.specs.declared.kind.Shape.{Shape}
use Rattle.gob_types.specs.declared.reason.Reason.{Reason}
use Rattle.gob_types.specs.declared.reason.Reason.TheVariants as reason
use Rattle.gob_types.specs.Base.{base_table}
use Rattle.gob_types.specs.Table.{Table, IsDefined, shape_of}
use Rattle.gob_stream.specs.Bounds.{Bounds}
use Rattle.gob_filled.specs.Stream.{FilledItem, FilledStream}
use Rattle.gob_salvage.specs.declared.gap.Gap.{Gap}
use Rattle.gob_salvage.specs.Salvage.{Front, IsSalvage}

-- the refusal is of a type that is defined twice
pub record IsTwice (why : Reason) : Type 0 where
  pub id : TypeId
  pub is : why ≡ reason.DefinedTwice id

-- what the first table says of types the second one says too
abbrev pub SaysNoMore : (own T : Table) → Type 0
SaysNoMore own T = (id : TypeId) (s : Shape) → shape_of own id ≡ Some s → shape_of T id ≡ Some s

-- behind a front of definitions that are in force, where the types are those of the table, items stand at the front of
-- the bytes; and behind them each type is defined that was defined: no definition is lost but of an id that they define
-- again
pub record BeginsBehind (L : Bounds) (T : Table) (front bytes : List ℕ) : Type 0 where
  pub first : Front L front
  pub in_force : SaysNoMore first.types T
  pub items : List FilledItem
  pub end : ℕ
  pub some : 0 < end
  pub within : end ≤ length bytes
  pub behind : Table
  pub stream : FilledStream base_table L (first.items ++ items) (front ++ take end bytes) behind
  pub all : (id : TypeId) → IsDefined T id → IsDefined behind id
  pub room : length front + length bytes ≤ L.stream

-- another stream begins there behind this front: the last gap begins there, with an item that defines a type again, and
-- runs up to the end of the bytes
pub record BreaksAt (L : Bounds) (T : Table) (begin : ℕ) (front : List ℕ) (gaps : List Gap) (bytes : List ℕ) : Type 0
  where
    pub before : List Gap
    pub gap : Gap
    pub gaps_are : gaps ≡ before ++ gap ∷ []
    pub twice : IsTwice gap.reason
    pub to_end : gap.end ≡ length bytes
    pub some : 0 < begin
    pub here : begin ≡ gap.begin
    pub inside : begin ≤ length bytes
    pub anew : BeginsBehind L T front (drop begin bytes)

-- the bytes don't go on as one stream
pub record Breaks (L : Bounds) (bytes : List ℕ) : Type 0 where
  pub count : ℕ
  pub out : List ℕ
  pub gaps : List Gap
  pub salvage : IsSalvage L bytes count out gaps
  pub begin : ℕ
  pub front : List ℕ
  pub at : BreaksAt L salvage.table begin front gaps bytes
