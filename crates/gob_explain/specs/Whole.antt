-- How far rows lead in a whole value of Go's encoder, whose interfaces may hold others: over all of it.
-- (docs/FORMAT.md, Fillings and segments; Explained bytes: this project's own.)
use Rattle.std.specs.Prelude.{◌≡◌, ℕ, ◌+◌, ◌*◌, ◌<◌, ◌≤◌, Bool, true, List, [], ◌∷◌, ◌++◌, length}
use Rattle.std.specs.List.{AllByRecursion}
use Rattle.gob_num.specs.Unsigned.{IsUnsigned}
use Rattle.gob_types.specs.Base.{wire_type}
use Rattle.gob_types.specs.declared.id.TypeId.{TypeId}
use Rattle.gob_types.specs.Ready.{IsReady}
use Rattle.gob_types.specs.Table.{Table}
use Rattle.gob_value.specs.Top.{HasStructs, SpellsTop}
use Rattle.gob_value.specs.Tree.{Tree}
use Rattle.gob_stream.specs.Body.{MayPut}
use Rattle.gob_stream.specs.Bounds.{Bounds}
use Rattle.gob_filled.specs.Filled.{cut, Filled, filled, SpellsFilled}
use Rattle.gob_filled.specs.Stream.{FilledItem, IsFilledItem}
use Rattle.gob_explain.specs.declared.row.Row.{Row}
use Rattle.gob_explain.specs.Body.{EndsSo, begins_value}
use Rattle.gob_explain.specs.Items.{LinesOfItem, ShowsItem}
use Rattle.gob_explain.specs.Open.{Open, a_value}
use Rattle.gob_explain.specs.Walk.{RowsLead}

-- the bytes are the letters, with a number in the place of each cut, where the count of the next segment stands
pub data HasCounts : List ℕ → List ℕ → Type 0 where
  no_letter : HasCounts [] []
  a_byte : {x : ℕ} {ls b : List ℕ} → x < 256 → HasCounts ls b → HasCounts (x ∷ ls) (x ∷ b)
  a_count : {n : ℕ} {c ls b : List ℕ} → IsUnsigned n c → HasCounts ls b → HasCounts (cut ∷ ls) (c ++ b)

-- no row lies deeper
abbrev pub HasNoneDeeper : (most : ℕ) → List Row → Type 0
HasNoneDeeper most rows = AllByRecursion (λ r. r.depth ≤ most) rows

-- a filled value with nil in its interfaces
abbrev pub with_nils : Filled → Tree
with_nils (filled v fs) = v

-- rows lead over all of the body to where this value is whole, none of them deeper than so much; and wherever rows of
-- the body stop for a limit that none of these is above, a value is whole, and nothing is left of the body
pub record LeadsOverAll (T : Table) (t : TypeId) (v : Tree) (body : List ℕ) (deepest : ℕ) : Type 0 where
  pub rows : List Row
  pub skeleton : List ℕ
  pub spelled : SpellsTop T t v skeleton
  pub lead : RowsLead T body (begins_value t) 0 rows (a_value t 0 skeleton ∷ []) (length body)
  pub deep : HasNoneDeeper deepest rows
  pub stops : (most place : ℕ) (ss : List Row) (opens : List Open) (whole : Bool) → HasNoneDeeper most rows
      → RowsLead T body (begins_value t) 0 ss opens place → EndsSo T t body most whole opens place
      → (whole ≡ true) × (place ≡ length body)

-- rows lead over all of a whole value behind its type number, and over what fills its interfaces. A value in another
-- lies two deeper than the interface, and only one as its limit counts; a description has a limit of its own
abbrev pub LeadOverWholeValues : Type 0
LeadOverWholeValues = (base : Table) (L : Bounds) (T U : Table) (t : TypeId) (limit : ℕ) (v : Filled)
    (letters body : List ℕ) → HasStructs T wire_type → IsReady T wire_type → MayPut T t
    → SpellsFilled base L T t limit v letters U → HasCounts letters body
    → LeadsOverAll U t (with_nils v) body (2 * limit + L.depth)

-- so lines show all of an item of Go's encoder, and none is of what is left of it, where its limit of depth is no more
-- than a third of the depth up to which rows are told
abbrev pub ShowWholeItems : Type 0
ShowWholeItems = (base : Table) (L : Bounds) (T U : Table) (begin offset : ℕ) (i : FilledItem) (item text : List ℕ)
    → HasStructs T wire_type → IsReady T wire_type → 3 * L.depth ≤ 1000 → IsFilledItem base L T begin i item U
    → ShowsItem U offset item text → LinesOfItem U offset item (length item) text
