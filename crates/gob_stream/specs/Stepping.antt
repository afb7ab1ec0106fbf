-- What contracts see of a session in any grammar of items: what it has read, and what its calls answer.
use Rattle.std.specs.Prelude.{◌≡◌, ℕ, ◌+◌, ◌≤◌, List, [], ◌∷◌, ◌++◌, length, take, Option, Some, None, Result, Ok, Err}
use Rattle.gob_types.specs.Base.{base_table}
use Rattle.gob_types.specs.Defined.{Defined, types}
use Rattle.gob_types.specs.Table.{Table}
use Rattle.gob_types.specs.declared.id.TypeId.{TypeId}
use Rattle.gob_stream.specs.Bounds.{Bounds}
use Rattle.gob_stream.specs.Grammar.{Grammar, StreamIn, GivesIn, RefusesIn}
use Rattle.gob_stream.specs.Item.{StreamItem}
use Rattle.gob_stream.specs.Stream.{IsItem}
use Rattle.gob_stream.specs.Whole.{HasBody, HasBegun}
use Rattle.gob_stream.specs.declared.fault.Fault.{Fault}
use Rattle.gob_stream.specs.declared.fault.Fault.TheVariants as fault
use Rattle.gob_stream.specs.declared.session.Advance.{Advance}

pub record Stepping (X Item Told : Type 0) : Type 1 where
  -- the grammar of its items, and what that keeps to of the limits of a session: all of that for an item
  pub grammar : Grammar Told
  pub within : Bounds → Bounds
  pub keeps : (L : Bounds) → (within L).item ≡ L.item
  -- the limits that it was made with, how many bytes were taken, and the types so far
  pub limits : X → Bounds
  pub taken : X → ℕ
  pub table : X → Defined
  -- no byte of an item is under way
  pub between : X → Type 0
  -- it has met a fault, behind which it reads no more
  pub failed : X → Type 0
  -- it has given these items, of these bytes, and these are the types behind them
  pub read : X → List Told → List ℕ → Type 0
  pub behind : (s : X) (items : List Told) (bytes : List ℕ) → read s items bytes → Table
  -- what is handed out stands for the item, where the types are those of the table
  pub means : Table → Item → Told → Type 0
  -- an item of the format, as one of the grammar
  pub told : StreamItem → Told
  -- these are the types to which the bytes lead behind the items, up to a fault
  pub leads : Bounds → List ℕ → List Told → Table → Type 0
  -- what a step over the piece answers, in its own words
  pub steps : X → X → List ℕ → Result (Advance Item) Fault → Type 0

-- the items of what a step gave
pub data GivesItemsOf {Item Told : Type 0} (means : Item → Told → Type 0) : Option Item → List Told → Type 0 where
  gives_none : GivesItemsOf means None []
  gives_one : {given : Item} {i : Told} → means given i → GivesItemsOf means (Some given) (i ∷ [])

-- what it has given is all that the bytes give which it has read
abbrev pub GivesAllBy : {X Item Told : Type 0} → Stepping X Item Told → X → Type 0
GivesAllBy {Told = Told} d s = (items : List Told) (bytes : List ℕ) (h : d.read s items bytes)
    → GivesIn d.grammar (d.within (d.limits s)) (d.behind s items bytes h) items bytes

-- wherever it stands: it has given no more items than it has read bytes, of which there are no more than the limit for
-- the stream, and a count; the items are all that the bytes give; and between two items the types behind them are its
-- own
pub record StandsBy {X Item Told : Type 0} (d : Stepping X Item Told) (s : X) : Type 0 where
  pub few : (items : List Told) (bytes : List ℕ) → d.read s items bytes
      → (length items ≤ d.taken s) × (d.taken s ≤ (d.limits s).stream + 9)
  pub gives : GivesAllBy d s
  pub settled : (items : List Told) (bytes : List ℕ) (h : d.read s items bytes) → d.between s
      → d.behind s items bytes h ≡ types (d.table s)

-- and with the piece behind them
abbrev pub GivesNoMoreBy : {X Item Told : Type 0} → Stepping X Item Told → X → (piece : List ℕ) → Type 0
GivesNoMoreBy {Told = Told} d s piece = (items : List Told) (bytes : List ℕ) (h : d.read s items bytes)
    → GivesIn d.grammar (d.within (d.limits s)) (d.behind s items bytes h) items (bytes ++ piece)

-- ---- what a step and the end answer
pub record AdvancesBy {X Item Told : Type 0} (d : Stepping X Item Told) (s s' : X) (items : List Told)
    (bytes piece : List ℕ) (step : Advance Item) : Type 0 where
  pub more : List Told
  pub gives : GivesItemsOf (d.means (types (d.table s'))) step.item more
  pub after : d.read s' (items ++ more) (bytes ++ take step.used piece)
  pub onward : d.taken s' ≡ d.taken s + step.used

-- a session that had given the items, of the bytes, with these types behind them: what refuses the piece refuses it
-- whatever follows
abbrev pub StepAnswersBy : {X Item Told : Type 0} → Stepping X Item Told → Table → (s s' : X) → List Told
    → (bytes piece : List ℕ) → Result (Advance Item) Fault → Type 0
StepAnswersBy d T s s' items bytes piece (Ok step) = AdvancesBy d s s' items bytes piece step
StepAnswersBy d T s s' items bytes piece (Err (fault.Refused R)) =
    ((rest : List ℕ) → RefusesIn d.grammar (d.within (d.limits s)) T items ((bytes ++ piece) ++ rest) R)
    × d.leads (d.within (d.limits s)) (bytes ++ piece) items (types (d.table s'))
StepAnswersBy d T s s' items bytes piece (Err fault.Read) = ⊥
StepAnswersBy d T s s' items bytes piece (Err fault.Memory) =
    GivesIn d.grammar (d.within (d.limits s)) T items bytes
StepAnswersBy d T s s' items bytes piece (Err fault.Failed) = ⊥

abbrev pub FinishAnswersBy : {X Item Told : Type 0} → Stepping X Item Told → Table → (s s' : X) → List Told
    → (bytes : List ℕ) → Result (Unit {0}) Fault → Type 0
FinishAnswersBy d T s s' items bytes (Ok _) =
    StreamIn d.grammar (d.within (d.limits s)) items bytes (types (d.table s)) × (d.taken s ≡ length bytes)
FinishAnswersBy d T s s' items bytes (Err (fault.Refused R)) =
    RefusesIn d.grammar (d.within (d.limits s)) T items bytes R
    × d.leads (d.within (d.limits s)) bytes items (types (d.table s'))
FinishAnswersBy d T s s' items bytes (Err _) = ⊥

-- ---- items of the format that define nothing, where they stand whole
-- the first bytes of the piece are a count, the number of the type and this body, as of the next item
abbrev pub HasBodyNextBy : {X Item Told : Type 0} → Stepping X Item Told → X → TypeId → (body : List ℕ) → (used : ℕ)
    → (piece : List ℕ) → Type 0
HasBodyNextBy d s id body used piece = HasBody (d.limits s) (types (d.table s)) (d.taken s) id body used piece

-- the piece is the first bytes of the next item, of which so many come at once, of a value of the type
abbrev pub HasBegunNextBy : {X Item Told : Type 0} → Stepping X Item Told → X → TypeId → (head size : ℕ)
    → (piece : List ℕ) → Type 0
HasBegunNextBy d s id head size piece = HasBegun (d.limits s) (types (d.table s)) (d.taken s) id head size piece

-- the bytes are this item of the format, as the next one, and it defines nothing
abbrev pub IsNextBy : {X Item Told : Type 0} → Stepping X Item Told → X → StreamItem → List ℕ → Type 0
IsNextBy d s i z = IsItem base_table (d.within (d.limits s)) (types (d.table s)) (d.taken s) i z (types (d.table s))

-- they are this item of the grammar, as the next one, and it defines nothing
pub data IsToldNextBy {X Item Told : Type 0} (d : Stepping X Item Told) (s : X) : Told → List ℕ → Type 0 where
  -- one of the format
  in_format : {i : StreamItem} {z : List ℕ} → IsNextBy d s i z → IsToldNextBy d s (d.told i) z
  in_grammar : {i : Told} {z : List ℕ}
      → d.grammar.is (d.within (d.limits s)) (types (d.table s)) (d.taken s) i z (types (d.table s))
      → IsToldNextBy d s i z

-- they are some item
abbrev pub HasItemNextBy : {X Item Told : Type 0} → Stepping X Item Told → X → List ℕ → Type 0
HasItemNextBy {Told = Told} d s z = (i : Told) × IsToldNextBy d s i z

-- it has read the item that these bytes are
abbrev pub ReadsOnBy : {X Item Told : Type 0} → Stepping X Item Told → (s s' : X) → List ℕ → Type 0
ReadsOnBy {Told = Told} d s s' z = (items : List Told) (bytes : List ℕ) (i : Told) → d.read s items bytes
    → IsToldNextBy d s i z → d.read s' (items ++ i ∷ []) (bytes ++ z)

-- it stands behind so many items, the first bytes of the piece
pub record ReadsItemsBy {X Item Told : Type 0} (d : Stepping X Item Told) (s s' : X) (count used : ℕ)
    (piece : List ℕ) : Type 0 where
  pub given : List Told
  pub counted : count ≡ length given
  pub within : used ≤ length piece
  pub none : count ≡ 0 → used ≡ 0
  pub passed : (items : List Told) (bytes : List ℕ) → d.read s items bytes
      → d.read s' (items ++ given) (bytes ++ take used piece)
