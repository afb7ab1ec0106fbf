-- What the parts of a reader answer: a count, a type number, what follows it, an item.
use Rattle.std.specs.Prelude.{◌≡◌, ◌≢◌, ℕ, ◌+◌, ◌-◌, ◌^◌, ◌<◌, ◌≤◌, List, [], ◌∷◌, ◌++◌, length, take, Option, Some}
use Rattle.std.specs.Prelude.{None, Result, Ok, Err, IfOk}
use Rattle.gob_num.specs.Unsigned.{IsUnsigned, IsUnsignedPrefix}
use Rattle.gob_types.specs.declared.id.TypeId.{TypeId}
use Rattle.gob_types.specs.declared.kind.Shape.{Shape}
use Rattle.gob_types.specs.declared.reason.Reason.{Reason}
use Rattle.gob_types.specs.declared.reason.Reason.TheVariants as reason
use Rattle.gob_types.specs.Table.{Table}
use Rattle.gob_types.specs.Base.{base_table, wire_type}
use Rattle.gob_types.specs.Defined.{Defined, types}
use Rattle.gob_value.specs.Tree.{Tree}
use Rattle.gob_value.specs.View.{view}
use Rattle.gob_value.specs.Description.{Describes, Misdescribes}
use Rattle.gob_value.specs.declared.value.Value.{Value}
use Rattle.gob_read.specs.Building.{Building}
use Rattle.gob_read.specs.Calls.Builders.{tree_building}
use Rattle.gob_read.specs.Refusal as body
use Rattle.gob_read.specs.First.{IsFirst}
use Rattle.gob_read.specs.Calls.Reader.{ReaderHasRead, IsMade}
use Rattle.gob_read.specs.Calls.UnderWay.{under_way}
use Rattle.gob_read.specs.declared.reader.BodyReader.{BodyReader}
use Rattle.gob_read.specs.declared.stop.Stop.{Stop}
use Rattle.gob_read.specs.declared.stop.Stop.TheVariants as stop
use Rattle.gob_read.specs.declared.tree_builder.TreeBuilder.{TreeBuilder}
use Rattle.gob_stream.specs.declared.fault.Refusal.{Refusal}
use Rattle.gob_stream.specs.declared.fault.Fault.{Fault}
use Rattle.gob_stream.specs.declared.fault.Fault.TheVariants as fault
use Rattle.gob_types.specs.declared.denial.Denial.{Denial}
use Rattle.gob_stream.specs.declared.item.Item as declared
use Rattle.gob_stream.specs.declared.item.Item.TheVariants as item
use Rattle.gob_stream.specs.declared.stage.Stage.{Stage}
use Rattle.gob_stream.specs.declared.stage.Stage.TheVariants as stage
use Rattle.gob_stream.specs.declared.stage.Stepped.{Stepped}
use Rattle.gob_stream.specs.declared.stage.Extent.{Extent}
use Rattle.gob_types.specs.Denial.{IsDenial}
use Rattle.gob_stream.specs.Machine.Stages.{count_at, type_number_in, value_in, description_in}
use Rattle.gob_stream.specs.Machine.SessionState.{SessionState}
use Rattle.gob_stream.specs.declared.session.Advance.{Advance}
use Rattle.gob_stream.specs.Bounds.{Bounds, no_deeper}
use Rattle.gob_stream.specs.Item.{StreamItem, ItemMeans}
use Rattle.gob_stream.specs.Stream.{IsItem}
use Rattle.gob_stream.specs.Refusing.{RefusesCount, behind, refuses}
use Rattle.gob_stream.specs.Outcome.{RefusesNext}
use Rattle.gob_stream.specs.Machine.HasRead.{StageHasRead, HasRead, IsCount, BodyHasRead, size}
use Rattle.gob_stream.specs.Reading.{ShowsRefusal}

-- more of the count was taken, or all of it
pub data CountGoesOn {X O : Type 0} (L : Bounds) (begin : ℕ) (number piece : List ℕ) : Stepped X O → Type 0 where
  more_of_count : IsUnsignedPrefix (number ++ piece)
      → CountGoesOn L begin number piece (record {
        used = length piece;
        stage = count_at begin (number ++ piece);
        item =
            None;
      })
  whole_count : {m used : ℕ} {body : Extent} → used ≤ length piece → IsCount L begin m (number ++ take used piece) body
      → 0 < m
      → CountGoesOn L begin number piece (record { used = used; stage = type_number_in body []; item = None })

-- the count is refused, or the empty body behind it
pub data IsCountRefused (L : Bounds) (begin : ℕ) (z : List ℕ) : Refusal → Type 0 where
  count_refused : {R : Refusal} → RefusesCount L begin z R → IsCountRefused L begin z R
  empty_body : {c : List ℕ} (r : List ℕ) → z ≡ c ++ r → IsUnsigned 0 c → begin + length c ≤ L.stream
      → IsCountRefused L begin z (refuses (begin + length c) (begin + length c) reason.Short)

-- why a count is refused that is whole
pub data CountJudged (L : Bounds) (begin end count : ℕ) : Refusal → Type 0 where
  above_item : L.item < count → CountJudged L begin end count (refuses begin end reason.ItemTooLong)
  above_stream : count ≤ L.item → L.stream < end + count
      → CountJudged L begin end count (refuses begin end reason.StreamTooLong)
  no_body : count ≡ 0 → end ≤ L.stream → CountJudged L begin end count (refuses end end reason.Short)

-- what taking bytes of a count answers, of which the number came before
abbrev pub CountAnswers : {X O : Type 0} → Bounds → (begin : ℕ) → (number piece : List ℕ) → Result (Stepped X O) Fault
    → Type 0
CountAnswers L begin number piece (Ok stepped) = CountGoesOn L begin number piece stepped
CountAnswers L begin number piece (Err (fault.Refused R)) = IsCountRefused L begin (number ++ piece) R
CountAnswers L begin number piece (Err _) = ⊥

-- what judging a count from `begin` to `end` answers
abbrev pub JudgesCount : Bounds → (begin end count : ℕ) → Result Extent Refusal → Type 0
JudgesCount L begin end count (Ok body) = (0 < count) × (count ≤ L.item) × (end + count ≤ L.stream) × (body.begin ≡ end)
    × (body.end ≡ end + count)
JudgesCount L begin end count (Err R) = CountJudged L begin end count R

-- what reads this part of the stream stands after some bytes of it
pub record IsBodyUnderWay (T : Table) (t : TypeId) (rest : Extent) {X O : Type 0} {most : ℕ}
    (building : Building X O most) (reader : BodyReader X O) : Type 0 where
  pub limit : ℕ
  pub bytes : List ℕ
  pub after : ReaderHasRead T t limit (size rest) building.received (under_way reader) bytes
  pub order : rest.begin ≤ rest.end

-- places and counts behind this offset are numbers of 64 bits
abbrev pub StopsWithin : ℕ → Stop → Type 0
StopsWithin begin (stop.Refused place seen reason) = (begin + place < 2 ^ 64) × (begin + seen < 2 ^ 64)
StopsWithin begin _ = Unit {0}

-- a stop of what begins at this offset, as a fault of the stream
abbrev pub fault_behind : ℕ → Stop → Fault
fault_behind begin (stop.Refused place seen reason) = fault.Refused (refuses (begin + place) (begin + seen) reason)
fault_behind begin stop.Memory = fault.Memory
fault_behind begin stop.Failed = fault.Failed

-- what became of a piece, where z was read of a value of the type
pub data ReadsValueIn {X O : Type 0} {most : ℕ} (building : Building X O most) (T : Table) (t : TypeId) (limit : ℕ)
    (rest : Extent) (z piece : List ℕ) : Result (Stepped X O) Fault → Type 0 where
  value_goes_on : {reader : BodyReader X O} → BodyHasRead T t limit rest building reader (z ++ piece)
      → ReadsValueIn building T t limit rest z piece
      (Ok (record { used = length piece; stage = value_in t rest reader; item = None }))
  value_ends : {out : O} {used : ℕ} → used ≤ length piece → IsMade T t limit (size rest) building.means out (z
      ++ take used piece)
      → ReadsValueIn building T t limit rest z piece
      (Ok (record { used = used; stage = count_at rest.end []; item = Some (item.Put t out) }))
  value_refused : {R : body.Refusal} → IsFirst T t limit (size rest) (z ++ take (size rest - length z) piece) R
      → ReadsValueIn building T t limit rest z piece (Err (fault.Refused (behind rest.begin R)))
  no_memory_for_value : ReadsValueIn building T t limit rest z piece (Err fault.Memory)

-- what is made of a description
abbrev pub IsView : Value → Tree → Type 0
IsView described v = view described ≡ v

-- the whole description was read, with so many bytes of the piece
pub record IsDescribed (T : Table) (limit : ℕ) (rest : Extent) (z piece : List ℕ) (described : Value) (used : ℕ) : Type
    0 where
  pub within : used ≤ length piece
  pub made : IsMade T wire_type limit (size rest) IsView described (z ++ take used piece)

-- behind the types of d stands the one that the description gives
pub record Defines (id : TypeId) (v : Tree) (d d' : Defined) : Type 0 where
  pub shape : Shape
  pub describes : Describes id v shape
  pub behind : types d' ≡ types d ++ (id, shape) ∷ []
  pub most : d'.most ≡ d.most

-- what defining a type as it is described answers
abbrev pub DefineAnswers : TypeId → Tree → (d d' : Defined) → Result (Unit {0}) Denial → Type 0
DefineAnswers id v d d' (Ok _) = Defines id v d d'
DefineAnswers id v d d' (Err denial) = IsDenial (Misdescribes id v) denial × (d' ≡ d)

-- what became of a piece, where z was read of the description of the type and the table was d; the second table is the
-- one behind it
pub data ReadsDescription {X O : Type 0} (d : Defined) (id : TypeId) (limit : ℕ) (rest : Extent) (z piece : List ℕ)
    : Defined → Result (Stepped X O) Fault → Type 0 where
  description_goes_on : {reader : BodyReader TreeBuilder Value} {d' : Defined} → d' ≡ d
      → BodyHasRead (types d) wire_type limit rest tree_building reader (z ++ piece)
      → ReadsDescription d id limit rest z piece d'
      (Ok (record { used = length piece; stage = description_in id rest reader; item = None }))
  description_ends : {described : Value} {d' : Defined} {used : ℕ} → IsDescribed (types d) limit rest z piece described
      used → Defines id (view described) d d'
      → ReadsDescription d id limit rest z piece d'
      (Ok (record { used = used; stage = count_at rest.end []; item = Some (item.Define id described) }))
  description_refused : {R : body.Refusal} {d' : Defined} → d' ≡ d → IsFirst (types d) wire_type limit (size rest) (z
      ++ take (size rest - length z) piece) R
      → ReadsDescription d id limit rest z piece d' (Err (fault.Refused (behind rest.begin R)))
  describes_nothing : {described : Value} {used : ℕ} {r : Reason} {d' : Defined} → d' ≡ d
      → IsDescribed (types d) limit rest z piece described used → Misdescribes id (view described) r
      → ReadsDescription d id limit rest z piece d' (Err (fault.Refused (refuses rest.begin rest.end r)))
  no_memory_for_description : {d' : Defined} → d' ≡ d → ReadsDescription d id limit rest z piece d'
      (Err fault.Memory)

-- descriptions are spelled as in the base table
pub record HasWireType (T : Table) : Type 0 where
  pub more : Table
  pub grown : T ≡ base_table ++ more

-- what became of a piece behind the bytes z of an item that begins at the offset, where the table was d; the second
-- table is the one behind it
pub data StepsOn {X O : Type 0} {most : ℕ} (building : Building X O most) (L : Bounds) (d : Defined) (offset : ℕ)
    (z piece : List ℕ) : Defined → Result (Stepped X O) Fault → Type 0 where
  goes_on : {expects : Stage X O} {d' : Defined} {used : ℕ} → d' ≡ d → used ≤ length piece
      → StageHasRead building L (types d) offset expects (z ++ take used piece)
      → StepsOn building L d offset z piece d' (Ok (record { used = used; stage = expects; item = None }))
  gives : {given : declared.Item O} {i : StreamItem} {d' : Defined} {used next : ℕ} → d'.most ≡ d.most
      → used ≤ length piece → IsItem base_table L (types d) offset i (z ++ take used piece) (types d')
      → ItemMeans building.means given i → next ≡ offset + length (z ++ take used piece)
      → StepsOn building L d offset z piece d'
      (Ok (record { used = used; stage = count_at next []; item = Some given }))
  refuses_it : {R : Refusal} {d' : Defined} → d' ≡ d → RefusesNext base_table L (types d) offset (z ++ piece) R
      → R.reason ≢ reason.Ended
      → StepsOn building L d offset z piece d' (Err (fault.Refused R))
  no_memory : {d' : Defined} → d' ≡ d → StepsOn building L d offset z piece d' (Err fault.Memory)

-- and some of the piece was taken, all of it where so many bytes are sure to be of the item
pub record StageTakesOn {X O : Type 0} {most : ℕ} (building : Building X O most) (L : Bounds) (d : Defined) (offset : ℕ)
    (z piece : List ℕ) (wanted : ℕ) (d' : Defined) (result : Result (Stepped X O) Fault) : Type 0 where
  pub steps : StepsOn building L d offset z piece d' result
  pub some : IfOk result (λ stepped. 0 < stepped.used)
  pub whole : length piece ≤ wanted → IfOk result (λ stepped. stepped.used ≡ length piece)

-- the body of some item, as its count says
pub record HasBodyCount (L : Bounds) (body : Extent) : Type 0 where
  pub offset : ℕ
  pub size : ℕ
  pub bytes : List ℕ
  pub is : IsCount L offset size bytes body

-- what is known of the types of a stream under the limits
pub record AreTypes (L : Bounds) (d : Defined) : Type 0 where
  pub base : HasWireType (types d)
  pub most : d.most ≡ L.types

-- the reader expects this behind some bytes of an item, with which so many bytes of the stream were taken
pub record IsWithinItem {X O : Type 0} {most : ℕ} (building : Building X O most) (L : Bounds) (d : Defined) (taken : ℕ)
    (expects : Stage X O) : Type 0 where
  pub offset : ℕ
  pub bytes : List ℕ
  pub in_item : StageHasRead building L (types d) offset expects bytes
  pub taken_is : taken ≡ offset + length bytes
  pub within : offset ≤ L.stream
  pub known : AreTypes L d

-- how many bytes are sure to be of the item under way, where so many of the stream were taken
abbrev pub bytes_wanted : {X O : Type 0} → Stage X O → (taken : ℕ) → ℕ
bytes_wanted (stage.Value value) taken = value.rest.end - taken
bytes_wanted (stage.Description description) taken = description.rest.end - taken
bytes_wanted _ taken = 1

-- what a step over a piece answers, where this was expected behind so many bytes of the stream
pub record StageAnswers {X O : Type 0} {most : ℕ} (building : Building X O most) (L : Bounds) (d : Defined) (taken : ℕ)
    (expects : Stage X O) (piece : List ℕ) (d' : Defined) (result : Result (Stepped X O) Fault) : Type 0 where
  pub each : (offset : ℕ) (z : List ℕ) → StageHasRead building L (types d) offset expects z
      → StageTakesOn building L d offset z piece (bytes_wanted expects taken) d' result

-- the front of the piece was taken, one byte at least of a piece that has any, and an item is whole with it or not
pub data AdvancesOver {X O : Type 0} {most : ℕ} (building : Building X O most) (s' : SessionState X O)
    (items : List StreamItem) (bytes piece : List ℕ) : ℕ → Option (declared.Item O)
    → Type 0 where
  over_some : {used : ℕ} → (0 < length piece → 0 < used) → used ≤ length piece
      → HasRead building s' items (bytes ++ take used piece)
      → AdvancesOver building s' items bytes piece used None
  over_item : {used : ℕ} {given : declared.Item O} {i : StreamItem} → 0 < used → used ≤ length piece
      → ItemMeans building.means given i
      → HasRead building s' (items ++ i ∷ []) (bytes ++ take used piece)
      → AdvancesOver building s' items bytes piece used (Some given)

-- what a step over the front of a piece answers, behind these bytes, of which the items were given
abbrev pub StepAnswers : {X O : Type 0} {most : ℕ} → Building X O most → (s s' : SessionState X O) → List StreamItem
    → (bytes piece : List ℕ) → Result (Advance (declared.Item O)) Fault → Type 0
StepAnswers building s s' items bytes piece (Ok step) =
    AdvancesOver building s' items bytes piece step.used step.item
StepAnswers {most = most} building s s' items bytes piece (Err (fault.Refused R)) =
    ShowsRefusal (no_deeper most s.limits) (bytes ++ piece) items R × (length bytes < R.seen)
StepAnswers building s s' items bytes piece (Err fault.Memory) = Unit {0}
StepAnswers building s s' items bytes piece (Err _) = ⊥

-- the type number goes on where the body does
pub data GoesOnIn {X O : Type 0} (body : Extent) (taken : ℕ) (number : List ℕ) (used : ℕ) : Result (Stepped X O) Fault
    → Type 0 where
  more_of_it : taken < body.end
      → GoesOnIn body taken number used (Ok (record { used = used; stage = type_number_in body number; item = None }))
  ends_there : taken ≡ body.end
      → GoesOnIn body taken number used (Err (fault.Refused (refuses body.end body.end reason.Short)))
