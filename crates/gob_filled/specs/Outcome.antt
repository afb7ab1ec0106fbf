-- Why bytes are refused in the profile, and what any bytes give. Within a level that is what the format says of the
-- skeleton, in all cases but where it says InterfaceValue: there the filling begins. So no refusal of values is defined
-- anew.
-- (docs/FORMAT.md, What Go's encoder writes beyond its documentation, Refusals.)
use Rattle.std.specs.Prelude.{◌≡◌, ◌≢◌, ℕ, pos, ◌+◌, ◌-◌, ◌<◌, ◌≤◌, List, [], ◌∷◌, ◌++◌, length, take}
use Rattle.gob_num.specs.Unsigned.{IsUnsigned, IsUnsignedPrefix, IsBadHead, IsNotMinimal}
use Rattle.gob_num.specs.Signed.{IsSigned}
use Rattle.gob_types.specs.declared.id.TypeId.{TypeId}
use Rattle.gob_types.specs.declared.reason.Reason.TheVariants as reason
use Rattle.gob_types.specs.Base.{base_table}
use Rattle.gob_types.specs.Table.{Table}
use Rattle.gob_value.specs.Tree.{Tree}
use Rattle.gob_read.specs.Expected.{a_number, nil}
use Rattle.gob_read.specs.Expects.{ExpectsTop}
use Rattle.gob_read.specs.Viable.{IsShallow}
use Rattle.gob_read.specs.Refusal as body
use Rattle.gob_read.specs.First.{IsFirst}
use Rattle.gob_stream.specs.declared.fault.Refusal.{Refusal}
use Rattle.gob_stream.specs.Bounds.{Bounds}
use Rattle.gob_stream.specs.Body.{MayPut}
use Rattle.gob_filled.specs.Definition.{Defines}
use Rattle.gob_stream.specs.Refusing.{RefusesCount, RefusesBody, refuses}
use Rattle.gob_stream.specs.Grammar.{BeginsWithStreamOf, LongestStreamOf, EndsOf, OutcomeOf, Grammar}
use Rattle.gob_filled.specs.Stream.{FilledItem, IsFilledItem}
use Rattle.gob_filled.specs.Standing.{Level, Next, in_value, in_filling, Stands}
pub use Rattle.gob_stream.specs.Grammar.{Ending, the_end, refused, at_the_end, next_refused, within_an_item}

-- a count that stands in a segment which ends at the end, q being what is there of it: it begins no number, or ends the
-- segment, or counts more than is left, for which the reason ItemTooLong will do
pub data RefusesInner (at end : ℕ) (q : List ℕ) : Refusal → Type 0 where
  bad_head : IsBadHead q → RefusesInner at end q (refuses at (at + 1) reason.BadHead)
  not_minimal : IsNotMinimal q → RefusesInner at end q (refuses at (at + 2) reason.NotMinimal)
  short : at + length q ≡ end → IsUnsignedPrefix q → RefusesInner at end q (refuses end end reason.Short)
  too_long : {m : ℕ} {c : List ℕ} (r : List ℕ) → q ≡ c ++ r → IsUnsigned m c → end < at + length c + m
      → RefusesInner at end q (refuses at (at + length c) reason.ItemTooLong)

-- the count of the next segment, of the item or within the level around
abbrev pub RefusesNextCount : Bounds → (left at : ℕ) → List Level → List ℕ → Refusal → Type 0
RefusesNextCount L left at [] q R = RefusesCount (record L { item = left }) at q R
RefusesNextCount L left at (around ∷ levels) q R = RefusesInner at around.end (take (around.end - at) q) R

-- of a body of m bytes these are there, and neither does a type whose values may come stand at their prefix, nor are
-- they a whole definition
pub record NothingStands (base : Table) (L : Bounds) (T : Table) (m : ℕ) (y : List ℕ) : Type 0 where
  pub no_type : (u : TypeId) (n r : List ℕ) → y ≡ n ++ r → IsSigned (pos u.0) n → ¬ MayPut T u
  pub no_definition : (id : TypeId) (v : Tree) (U : Table) → length y ≡ m → ¬ Defines base L T id v y U

-- the bytes z lead so far, and w is there behind them
pub data RefusesAt (base : Table) (L : Bounds) (at : ℕ) (U : Table) (w : List ℕ) : List Level → Next → ℕ → Refusal
    → Type 0 where
  -- within a value: what a reader of its skeleton says
  in_skeleton : {lv : Level} {levels : List Level} {left : ℕ} {S : body.Refusal} {R : Refusal}
      → IsFirst lv.table lv.type lv.limit (length lv.done + (lv.end - at)) (lv.done ++ take (lv.end - at) w) S
      → S.reason ≢ reason.InterfaceValue
      → length lv.done + R.place ≡ at + S.place → length lv.done + R.seen ≡ at + S.seen → R.reason ≡ S.reason
      → RefusesAt base L at U w (lv ∷ levels) in_value left R
  -- the segment ends within the name
  short_name : {lv : Level} {levels : List Level} {left d n : ℕ} {a : List ℕ} (c r : List ℕ)
      → ExpectsTop lv.table lv.type (lv.done ++ c) (a_number nil) d → d ≤ lv.limit
      → IsShallow lv.table lv.type lv.limit (lv.done ++ c)
      → take (lv.end - at) w ≡ c ++ (a ++ r) → IsUnsigned n a
      → length (take (lv.end - at) w) ≡ lv.end - at → length r < n
      → RefusesAt base L at U w (lv ∷ levels) in_value left (refuses lv.end lv.end reason.Short)
  -- behind a name, up to the end of the segment: as in an item, where no type follows whose values may come
  as_in_an_item : {lv : Level} {levels : List Level} {left d : ℕ} {R : Refusal}
      → RefusesBody base L U at (lv.end - at) (take (lv.end - at) w) R
      → NothingStands base L U (lv.end - at) (take (lv.end - at) w)
      → RefusesAt base L at U w (lv ∷ levels) (in_filling d) left R
  -- behind such a type: the count
  inner_count : {lv : Level} {levels : List Level} {left d : ℕ} {u : TypeId} {n q : List ℕ} {R : Refusal}
      → take (lv.end - at) w ≡ n ++ q
      → IsSigned (pos u.0) n → MayPut U u → RefusesInner (at + length n) lv.end q R
      → RefusesAt base L at U w (lv ∷ levels) (in_filling d) left R
  -- behind a definition: the count of the next segment
  next_count : {V : Table} {lv : Level} {levels : List Level} {left d : ℕ} {id : TypeId} {v : Tree} {b : List ℕ}
      {R : Refusal} (q : List ℕ)
      → w ≡ b ++ q → Defines base L U id v b V → at + length b ≡ lv.end → RefusesNextCount L left lv.end levels q R
      → RefusesAt base L at U w (lv ∷ levels) (in_filling d) left R

-- z is what is there behind the stream: the next item is refused for what these bytes show
pub data RefusesFilled (base : Table) (L : Bounds) (T : Table) (offset : ℕ) (z : List ℕ) : Refusal → Type 0 where
  refused_count : {R : Refusal} → RefusesCount L offset z R → RefusesFilled base L T offset z R
  -- a type number, or a description
  refused_body : {m : ℕ} {c : List ℕ} {R : Refusal} (r : List ℕ) → z ≡ c ++ r → IsUnsigned m c → m ≤ L.item
      → offset + length c + m ≤ L.stream
      → RefusesBody base L T (offset + length c) m (take m r) R
      → NothingStands base L T m (take m r) → RefusesFilled base L T offset z R
  -- a value
  refused_value : {U : Table} {y w : List ℕ} {levels : List Level} {next : Next} {left : ℕ} {R : Refusal} → z ≡ y ++ w
      → Stands base L T offset y U levels next left → RefusesAt base L (offset + length y) U w levels next left R
      → RefusesFilled base L T offset z R

-- how the bytes go on behind the stream of the items
abbrev pub EndsFilled : (base : Table) (L : Bounds) (bytes : List ℕ) → List FilledItem → Ending → Type 0
EndsFilled base L bytes items e = EndsOf (IsFilledItem base L) (RefusesFilled base L) base bytes items e

-- the bytes begin with the stream of the items
abbrev pub BeginsFilled : (base : Table) (L : Bounds) (bytes : List ℕ) → List FilledItem → Type 0
BeginsFilled base L bytes items = BeginsWithStreamOf (IsFilledItem base L) base bytes items

-- and with no longer one
abbrev pub LongestFilled : (base : Table) (L : Bounds) (bytes : List ℕ) → List FilledItem → Type 0
LongestFilled base L bytes items = LongestStreamOf (IsFilledItem base L) base bytes items

-- what the bytes give, and how they end
abbrev pub FilledOutcome : (base : Table) (L : Bounds) (bytes : List ℕ) → List FilledItem → Ending → Type 0
FilledOutcome base L bytes items e = OutcomeOf (IsFilledItem base L) (RefusesFilled base L) base bytes items e

-- the grammar of the profile
abbrev pub profile : Grammar FilledItem
profile = record { is = IsFilledItem base_table; refuses = RefusesFilled base_table }
