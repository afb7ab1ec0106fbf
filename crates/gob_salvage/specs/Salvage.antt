-- What is kept of bytes in which some are damaged: items that stand whole one behind another, under the definitions of
-- those before them. Other bytes are left out, and only from a place on where no item stands that continues what was
-- kept. (docs/FORMAT.md, What is kept of damaged bytes: this project's own.)
use Rattle.std.specs.Prelude.{◌≡◌, ◌≢◌, ℕ, ℤ, pos, ◌<ℤ◌, ◌+◌, ◌-◌, ◌<◌, ◌≤◌, List, [], ◌∷◌, ◌++◌, length, take, drop}
use Rattle.std.specs.Prelude.{Bool, true, false, not, slice_range}
use Rattle.std.specs.List.{AllByRecursion, list_any, sum_by}
use Rattle.gob_num.specs.Place.{IsUnsignedAt}
use Rattle.gob_num.specs.Signed.{IsSigned}
use Rattle.gob_types.specs.declared.id.TypeId.{TypeId}
use Rattle.gob_types.specs.Base.{base_table}
use Rattle.gob_types.specs.Table.{Table}
use Rattle.gob_types.specs.declared.reason.Reason.TheVariants as reason
use Rattle.gob_stream.specs.Bounds.{Bounds}
use Rattle.gob_stream.specs.Devices.{counts_up}
use Rattle.gob_stream.specs.Refusing as refusing
use Rattle.gob_stream.specs.declared.fault.Refusal.{Refusal}
use Rattle.gob_filled.specs.Outcome.{RefusesFilled}
use Rattle.gob_filled.specs.Stream.{FilledItem, IsFilledItem, FilledStream}
use Rattle.gob_salvage.specs.declared.gap.Gap.{Gap}
use Rattle.gob_salvage.specs.Evidence.{AllDefine, GoOn, IsFrame}

-- no item stands at the front of the bytes that continues a stream of so many bytes, behind which the types are these
abbrev pub NoItemNext : Bounds → Table → (kept : ℕ) → List ℕ → Type 0
NoItemNext L T kept z = (i : FilledItem) (U : Table) (b y : List ℕ) → IsFilledItem base_table L T kept i b U
    → ¬ (z ≡ b ++ y)

-- these are all bytes that stand at the offset, behind a stream with these types: they are refused so, or end within an
-- item
pub data RefusesHere (L : Bounds) (T : Table) (offset : ℕ) (z : List ℕ) : Refusal → Type 0 where
  for_bytes : {R : Refusal} → RefusesFilled base_table L T offset z R → RefusesHere L T offset z R
  for_the_end : z ≢ [] → ((R : Refusal) → ¬ RefusesFilled base_table L T offset z R)
      → RefusesHere L T offset z (refusing.refuses (offset + length z) (offset + length z) reason.Ended)

-- why these bytes are left out where so many were kept: behind no more of them, with the same types, they are refused
-- for this reason, and at the place that is as far behind where they begin
pub record TellsWhy (L : Bounds) (T : Table) (kept : ℕ) (z : List ℕ) (g : Gap) : Type 0 where
  pub behind : ℕ
  pub few : behind ≤ kept
  pub refusal : Refusal
  pub refuses : RefusesHere L T behind z refusal
  pub reason_is : g.reason ≡ refusal.reason
  pub place_is : g.place ≡ counts_up g.begin (refusal.place - behind)

-- where an item of this kind is refused, it is left out by its count alone: its type isn't known, or it is a definition
-- that is kept already
pub data IsAlone (g : Gap) : Type 0 where
  of_unknown_type : {id : TypeId} → g.reason ≡ reason.UndefinedType id → 64 ≤ id.0 → IsAlone g
  of_repeated : g.is_repeated ≡ true → IsAlone g

-- why so many bytes are left out, and no fewer, where these items were kept and their last one, or what is left out by
-- its count alone, ends there or not: nothing follows, or what shows that items go on, or a line feed at the end; or
-- they are one that is left out by its count alone
pub data Resumes (L : Bounds) (T : Table) (before : List FilledItem) (in_step : Bool) (d z : List ℕ) (g : Gap) :
    (still : Bool) → Type 0 where
  at_the_end : z ≡ [] → Resumes L T before in_step d z g false
  where_they_go_on : GoOn L T before z → Resumes L T before in_step d z g false
  at_a_line_feed : IsFrame (d ++ z) 0 (length d) → z ≡ 10 ∷ [] → Resumes L T before in_step d z g false
  behind_its_count : in_step ≡ true → IsFrame (d ++ z) 0 (length d) → IsAlone g
      → Resumes L T before in_step d z g true

-- from this offset of the bytes on, where so many bytes were kept before, which are these items, and the types are
-- those of the first table, in step or not: what is there, the items that are kept of it, their bytes, and what is left
-- out, by offsets; the types behind them are those of the last table
pub data Salvages (L : Bounds) : Table → (before : List FilledItem) → (in_step : Bool) → (kept offset : ℕ)
    → (bytes : List ℕ) → List FilledItem → (out : List ℕ) → List Gap → Table → Type 0 where
  nothing_is_left : {T : Table} {before : List FilledItem} {in_step : Bool} {kept offset : ℕ}
      → Salvages L T before in_step kept offset [] [] [] [] T
  keeps : {T U V : Table} {before : List FilledItem} {in_step : Bool} {kept offset next on : ℕ} {i : FilledItem}
      {items : List FilledItem} {b z out : List ℕ} {gaps : List Gap} → IsFilledItem base_table L T kept i b U
      → next ≡ kept + length b → on ≡ offset + length b
      → Salvages L U (before ++ i ∷ []) true next on z items out gaps V
      → Salvages L T before in_step kept offset (b ++ z) (i ∷ items) (b ++ out) gaps V
  leaves_out : {T V : Table} {before : List FilledItem} {in_step still : Bool} {kept offset on : ℕ}
      {items : List FilledItem} {z out : List ℕ} {gaps : List Gap} {g : Gap} (d : List ℕ) → 0 < length d
      → NoItemNext L T kept (d ++ z) → TellsWhy L T kept (d ++ z) g → Resumes L T before in_step d z g still
      → g.begin ≡ offset → g.end ≡ on → on ≡ offset + length d
      → Salvages L T before still kept on z items out gaps V
      → Salvages L T before in_step kept offset (d ++ z) items out (g ∷ gaps) V

-- the bytes stand in what is kept
pub record StandsIn (b out : List ℕ) : Type 0 where
  pub before : List ℕ
  pub after : List ℕ
  pub whole : out ≡ before ++ (b ++ after)

-- at the place stands a count, and behind it the number of a type
pub record HasTypeAt (bytes : List ℕ) (place : ℕ) (number : ℤ) : Type 0 where
  pub count : ℕ
  pub head : ℕ
  pub counts : IsUnsignedAt count bytes place head
  pub end : ℕ
  pub order : head < end
  pub inside : end ≤ length bytes
  pub spelled : IsSigned number (take (end - head) (drop head bytes))

-- the bytes from one place up to the other define a type, as their number says, and stand in what is kept
pub record IsDefinedAgain (bytes : List ℕ) (begin end : ℕ) (out : List ℕ) : Type 0 where
  pub number : ℤ
  pub type_at : HasTypeAt bytes begin number
  pub defines : number <ℤ pos 0
  pub stands : StandsIn (slice_range bytes begin end) out

-- a gap is told to be a definition that is kept already only where it is one: refused since the type is defined, and
-- kept in the very same bytes
pub record IsRepeated (bytes out : List ℕ) (g : Gap) : Type 0 where
  pub id : TypeId
  pub twice : g.reason ≡ reason.DefinedTwice id
  pub again : IsDefinedAgain bytes g.begin g.end out

abbrev pub TellsRepeated : (bytes out : List ℕ) → Gap → Type 0
TellsRepeated bytes out g = g.is_repeated ≡ true → IsRepeated bytes out g

-- so many items are kept of all the bytes
pub record IsSalvage (L : Bounds) (bytes : List ℕ) (count : ℕ) (out : List ℕ) (gaps : List Gap) : Type 0 where
  pub items : List FilledItem
  pub table : Table
  pub salvages : Salvages L base_table [] true 0 0 bytes items out gaps table
  pub counted : count ≡ length items
  pub repeated : AllByRecursion (TellsRepeated bytes out) gaps

-- ---- behind definitions
-- the bytes are a stream of definitions, which stand in front
pub record Front (L : Bounds) (bytes : List ℕ) : Type 0 where
  pub items : List FilledItem
  pub types : Table
  pub stream : FilledStream base_table L items bytes types
  pub only : AllDefine items

-- behind these definitions, of the bytes: the items that are kept and their bytes, with those of the front, and what is
-- left out, by offsets of the bytes; the types behind them are those of the table
pub record SalvagesBehind (L : Bounds) (front : List ℕ) (f : Front L front) (bytes : List ℕ)
    (items : List FilledItem) (out : List ℕ) (gaps : List Gap) (T : Table) : Type 0 where
  pub more : List FilledItem
  pub rest : List ℕ
  pub items_are : items ≡ f.items ++ more
  pub out_is : out ≡ front ++ rest
  pub salvages : Salvages L f.types f.items true (length front) 0 bytes more rest gaps T

-- so many items are kept of all the bytes behind the front, with its own
pub record IsSalvageBehind (L : Bounds) (front bytes : List ℕ) (count : ℕ) (out : List ℕ) (gaps : List Gap) : Type 0
  where
    pub first : Front L front
    pub items : List FilledItem
    pub table : Table
    pub salvages : SalvagesBehind L front first bytes items out gaps table
    pub counted : count ≡ length items
    pub repeated : AllByRecursion (TellsRepeated bytes out) gaps

-- ---- what is told of the gaps
-- how many bytes one leaves out
abbrev pub gap_length : Gap → ℕ
gap_length g = g.end - g.begin

-- how many all of them do
abbrev pub left_out : List Gap → ℕ
left_out gaps = sum_by gap_length gaps

-- whether one is more than a definition that is kept already
abbrev pub is_damaged : List Gap → Bool
is_damaged gaps = list_any (λ g. not g.is_repeated) gaps
