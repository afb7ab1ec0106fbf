-- What the reading calls answer, in the words of streams.
use Rattle.std.specs.Prelude.{◌≡◌, ◌≢◌, ℕ, ◌+◌, ◌≤◌, List, ◌∷◌, ◌++◌, length}
use Rattle.gob_types.specs.declared.id.TypeId.{TypeId}
use Rattle.gob_types.specs.declared.reason.Reason.TheVariants as reason
use Rattle.gob_types.specs.Table.{Table}
use Rattle.gob_types.specs.Base.{base_table}
use Rattle.gob_value.specs.Tree.{Tree}
use Rattle.gob_stream.specs.declared.fault.Refusal.{Refusal}
use Rattle.gob_stream.specs.Bounds.{Bounds}
use Rattle.gob_filled.specs.Stream.{FilledItem, IsFilledItem, FilledStream}
use Rattle.gob_filled.specs.Definition.{Defines}
use Rattle.gob_filled.specs.Standing.{Level, Next, in_filling, Stands}
use Rattle.gob_filled.specs.Outcome.{RefusesAt, in_skeleton, short_name, as_in_an_item, inner_count, next_count}
use Rattle.gob_filled.specs.Outcome.{RefusesFilled, refused_count, refused_body, refused_value, FilledOutcome, refused}
use Rattle.gob_filled.specs.Outcome.{BeginsFilled}
use Rattle.gob_go.specs.Meaning.{ItemsMean}
use Rattle.gob_go.specs.declared.item.GoItem.{GoItem}

-- the items were given, those stand for items of the stream, and of these and the ones before this holds
pub record GivesOn (T : Table) (given : List GoItem) (before : List FilledItem) (P : List FilledItem → Type 0) : Type
    0 where
  pub more : List FilledItem
  pub mean : ItemsMean T given more
  pub holds : P (before ++ more)

-- the types where the bytes are refused, with those of each definition that is whole before
abbrev pub types_at : {base : Table} {L : Bounds} {at : ℕ} {U : Table} {w : List ℕ} {levels : List Level} {next : Next}
    {left : ℕ} {R : Refusal} → RefusesAt base L at U w levels next left R → Table
types_at {U = U} (in_skeleton f n p s r) = U
types_at {U = U} (short_name c r ex dl sh t u l k) = U
types_at {U = U} (as_in_an_item b n) = U
types_at {U = U} (inner_count t sg may r) = U
types_at (next_count {V = V} q t def e r) = V

abbrev pub types_refused : {base : Table} {L : Bounds} {T : Table} {offset : ℕ} {z : List ℕ} {R : Refusal}
    → RefusesFilled base L T offset z R → Table
types_refused {T = T} (refused_count r) = T
types_refused {T = T} (refused_body r e u l k b n) = T
types_refused (refused_value e p r) = types_at r

-- the next item is refused for what the bytes show, and these are the types there
pub record RefusesWith (L : Bounds) (T : Table) (offset : ℕ) (z : List ℕ) (R : Refusal) (U : Table) : Type 0 where
  pub refuses : RefusesFilled base_table L T offset z R
  pub table : U ≡ types_refused refuses
  pub shown : R.reason ≢ reason.Ended

-- the bytes are refused so behind the items, and these are the types there
pub record RefusesBehind (L : Bounds) (bytes : List ℕ) (items : List FilledItem) (R : Refusal) (U : Table) : Type
    0 where
  pub prefix : List ℕ
  pub rest : List ℕ
  pub table : Table
  pub stream : FilledStream base_table L items prefix table
  pub whole : bytes ≡ prefix ++ rest
  pub refuses : RefusesWith L table (length prefix) rest R U

-- the bytes are refused so, for another reason than that they end
pub record ShowsRefusal (L : Bounds) (bytes : List ℕ) (items : List FilledItem) (R : Refusal) : Type 0 where
  pub outcome : FilledOutcome base_table L bytes items (refused R)
  pub shown : R.reason ≢ reason.Ended

-- these are the types where bytes of an item lead, which begins at the offset: those before it, or those behind a
-- definition within it that is whole
pub data LeadsToTypes (L : Bounds) (T : Table) (offset : ℕ) (bytes : List ℕ) (U : Table) : Type 0 where
  before_item : U ≡ T → LeadsToTypes L T offset bytes U
  behind_whole : {y b : List ℕ} {S : Table} {lv : Level} {levels : List Level} {d left : ℕ} {id : TypeId} {v : Tree}
      (r : List ℕ) → Stands base_table L T offset y S (lv ∷ levels) (in_filling d) left
      → Defines base_table L S id v b U → offset + length (y ++ b) ≡ lv.end → bytes ≡ y ++ (b ++ r)
      → LeadsToTypes L T offset bytes U

-- and no more types stand where the bytes lead
pub record LeadsAtMostTo (L : Bounds) (T : Table) (offset : ℕ) (bytes : List ℕ) (U : Table) : Type 0 where
  pub leads : LeadsToTypes L T offset bytes U
  pub last : (V : Table) → LeadsToTypes L T offset bytes V → (more : Table) × (U ≡ V ++ more)

-- so it is behind the items
pub record LeadsBehind (L : Bounds) (bytes : List ℕ) (items : List FilledItem) (U : Table) : Type 0 where
  pub prefix : List ℕ
  pub rest : List ℕ
  pub table : Table
  pub stream : FilledStream base_table L items prefix table
  pub whole : bytes ≡ prefix ++ rest
  pub types : LeadsAtMostTo L table (length prefix) rest U

-- so many of the bytes were taken, and of the items that these give, all but the last at most are these
pub record GivesOfTaken (L : Bounds) (taken : ℕ) (bytes : List ℕ) (items : List FilledItem) : Type 0 where
  pub prefix : List ℕ
  pub rest : List ℕ
  pub whole : bytes ≡ prefix ++ rest
  pub taken_is : taken ≡ length prefix
  pub given : BeginsFilled base_table L prefix items
  pub but_last : (others : List FilledItem) → BeginsFilled base_table L prefix others
      → length others ≤ length items + 1

-- these are the types in an item that begins at the offset with some of the bytes, or behind it
pub data HasTypesWithin (L : Bounds) (T : Table) (offset : ℕ) (bytes : List ℕ) (U : Table) : Type 0 where
  as_before : U ≡ T → HasTypesWithin L T offset bytes U
  behind_item : {i : FilledItem} {b : List ℕ} (r : List ℕ) → IsFilledItem base_table L T offset i b U → bytes ≡ b ++ r
      → HasTypesWithin L T offset bytes U
  within_value : {y : List ℕ} {levels : List Level} {next : Next} {left : ℕ} (r : List ℕ)
      → Stands base_table L T offset y U levels next left → bytes ≡ y ++ r → HasTypesWithin L T offset bytes U
  behind_definition : {y b : List ℕ} {S : Table} {levels : List Level} {d left : ℕ} {id : TypeId} {v : Tree}
      (r : List ℕ) → Stands base_table L T offset y S levels (in_filling d) left → Defines base_table L S id v b U
      → bytes ≡ y ++ (b ++ r) → HasTypesWithin L T offset bytes U

-- behind the items
pub record HasTypesBeyond (L : Bounds) (bytes : List ℕ) (items : List FilledItem) (U : Table) : Type 0 where
  pub prefix : List ℕ
  pub rest : List ℕ
  pub table : Table
  pub stream : FilledStream base_table L items prefix table
  pub whole : bytes ≡ prefix ++ rest
  pub within : HasTypesWithin L table (length prefix) rest U
