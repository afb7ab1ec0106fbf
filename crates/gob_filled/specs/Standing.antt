-- How far bytes have come in the item of a filled value: a level for each filled nil that is open, the innermost first.
-- Each is a value whose skeleton is read. Only whole things stand here: counts, names, definitions, type numbers and
-- values.
-- (docs/FORMAT.md, Fillings and segments.)
use Rattle.std.specs.Prelude.{◌≡◌, ℕ, pos, ◌+◌, ◌-◌, ◌<◌, ◌≤◌, List, [], ◌∷◌, ◌++◌, length}
use Rattle.gob_num.specs.Unsigned.{IsUnsigned}
use Rattle.gob_num.specs.Signed.{IsSigned}
use Rattle.gob_types.specs.declared.id.TypeId.{TypeId}
use Rattle.gob_types.specs.Table.{Table}
use Rattle.gob_value.specs.Tree.{Tree, depth}
use Rattle.gob_value.specs.Top.{SpellsTop}
use Rattle.gob_read.specs.Expected.{a_number, nil}
use Rattle.gob_read.specs.Expects.{ExpectsTop}
use Rattle.gob_read.specs.Viable.{IsShallow}
use Rattle.gob_stream.specs.Bounds.{Bounds}
use Rattle.gob_stream.specs.Body.{MayPut}
use Rattle.gob_filled.specs.Definition.{Defines}

-- a value under way
pub record Level : Type 0 where
  -- the types where it began
  pub table : Table
  pub type : TypeId
  -- the greatest depth of its parts
  pub limit : ℕ
  -- its spelling so far, up to a nil that is filled, and with it once that is whole
  pub done : List ℕ
  -- where its open segment ends in the stream
  pub end : ℕ

abbrev pub new_level : Table → TypeId → (limit end : ℕ) → Level
new_level T t limit end = record { table = T; type = t; limit = limit; done = []; end = end }

-- what comes next
pub data Next : Type 0 where
  -- more of the innermost value
  in_value : Next
  -- behind the name of what fills a nil of this depth: a definition, or the concrete type
  in_filling : ℕ → Next

-- behind a segment of the innermost level that ends at the offset, these bytes are the count of its next one, which
-- ends there; the segments of an item have so many bytes left together
pub data IsNextCount (L : Bounds) (offset left : ℕ) : List Level → List ℕ → (end left' : ℕ) → Type 0 where
  of_item : {m end left' : ℕ} {c : List ℕ} → IsUnsigned m c → m ≤ left → end ≡ offset + length c + m → end ≤ L.stream
      → left' ≡ left - m
      → IsNextCount L offset left [] c end left'
  within : {m end : ℕ} {c : List ℕ} {around : Level} {levels : List Level} → IsUnsigned m c
      → end ≡ offset + length c + m → end ≤ around.end
      → IsNextCount L offset left (around ∷ levels) c end left

-- the bytes of an item that begins at the offset, where the types are those of T, lead to these levels
pub data Stands (base : Table) (L : Bounds) (T : Table) (offset : ℕ) : List ℕ → Table → List Level → Next → (left : ℕ)
    → Type 0 where
  at_value : {t : TypeId} {m end left : ℕ} {c a : List ℕ} → IsUnsigned m c → m ≤ L.item → end ≡ offset + length c + m
      → end ≤ L.stream
      → IsSigned (pos t.0) a → length a ≤ m → MayPut T t → left ≡ L.item - m
      → Stands base L T offset (c ++ a) T (new_level T t L.depth end ∷ []) in_value left
  -- a filled nil, and its name
  behind_name : {U : Table} {z a : List ℕ} {lv : Level} {levels : List Level} {d left : ℕ} (c s : List ℕ)
      → Stands base L T offset z U (lv ∷ levels) in_value left
      → ExpectsTop lv.table lv.type (lv.done ++ c) (a_number nil) d → d ≤ lv.limit
      → IsShallow lv.table lv.type lv.limit (lv.done ++ c)
      → 0 < length s → IsUnsigned (length s) a → offset + length (z ++ (c ++ (a ++ s))) ≤ lv.end
      → Stands base L T offset (z ++ (c ++ (a ++ s))) U (record lv { done = lv.done ++ c } ∷ levels) (in_filling d) left
  -- a definition, which ends the segment, and the count of the next one
  behind_definition : {U V : Table} {z b c : List ℕ} {lv : Level} {levels : List Level} {id : TypeId} {v : Tree}
      {d end left left' : ℕ}
      → Stands base L T offset z U (lv ∷ levels) (in_filling d) left → Defines base L U id v b V
      → offset + length (z ++ b) ≡ lv.end
      → IsNextCount L lv.end left levels c end left'
      → Stands base L T offset (z ++ (b ++ c)) V (record lv { end = end } ∷ levels) (in_filling d) left'
  -- the concrete type, and the count of the first segment of its value
  at_inner : {U : Table} {z n c : List ℕ} {lv : Level} {levels : List Level} {u : TypeId} {d m end left : ℕ}
      → Stands base L T offset z U (lv ∷ levels) (in_filling d) left → MayPut U u → IsSigned (pos u.0) n
      → IsUnsigned m c
      → end ≡ offset + length (z ++ (n ++ c)) + m → end ≤ lv.end
      → Stands base L T offset (z ++ (n ++ c)) U (new_level U u (lv.limit - d) end ∷ (lv ∷ levels)) in_value left
  -- the inner value is whole, and its segment with it: the nil that it fills is read
  behind_inner : {U : Table} {z : List ℕ} {lv around : Level} {levels : List Level} {v : Tree} {left : ℕ} (b : List ℕ)
      → Stands base L T offset z U (lv ∷ (around ∷ levels)) in_value left → SpellsTop lv.table lv.type v (lv.done ++ b)
      → depth v ≤ lv.limit
      → offset + length (z ++ b) ≡ lv.end
      → Stands base L T offset (z ++ b) U (record around { done = around.done ++ 0 ∷ [] } ∷ levels) in_value left

-- the bytes are the whole item of a value
pub record IsWholeItem (base : Table) (L : Bounds) (T : Table) (offset : ℕ) (bytes : List ℕ) (U : Table) : Type 0 where
  pub before : List ℕ
  pub rest : List ℕ
  pub level : Level
  pub left : ℕ
  pub value : Tree
  pub stands : Stands base L T offset before U (level ∷ []) in_value left
  pub spelled : SpellsTop level.table level.type value (level.done ++ rest)
  pub not_deep : depth value ≤ level.limit
  pub ends : offset + length (before ++ rest) ≡ level.end
  pub whole : bytes ≡ before ++ rest
