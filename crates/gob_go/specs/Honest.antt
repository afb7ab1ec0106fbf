-- The place of a refusal is honest in what a session reads: in the value at hand, in the whole value of the item, and
-- in a description. (docs/FORMAT.md, Refusals: the place of a refusal is honest.)
use Rattle.std.specs.Prelude.{◌≡◌, ℕ, negsuc, ◌+◌, ◌-◌, ◌≤◌, List, ◌∷◌, ◌++◌, length, take}
use Rattle.gob_num.specs.Signed.{IsSigned}
use Rattle.gob_types.specs.Base.{base_table, wire_type}
use Rattle.gob_types.specs.Table.{Table}
use Rattle.gob_read.specs.Refusal as body
use Rattle.gob_read.specs.Honest.{IsHonestBody}
use Rattle.gob_stream.specs.declared.fault.Refusal.{Refusal}
use Rattle.gob_stream.specs.Bounds.{Bounds}
use Rattle.gob_stream.specs.Honest.{from}
use Rattle.gob_stream.specs.Refusing.{RefusesBody}
use Rattle.gob_filled.specs.Honest.{IsCountedFrom, IsHonestValue}
use Rattle.gob_filled.specs.Outcome.{RefusesAt}
use Rattle.gob_filled.specs.Standing.{Level, Next, in_value, Stands}
use Rattle.gob_filled.specs.Stream.{FilledItem, FilledStream}
use Rattle.gob_filled.specs.Uncounted.{type_of, uncounted}

-- the bytes are the stream of the items, and behind it those of an item that lead so far, and w
pub record LeadsTo (L : Bounds) (bytes : List ℕ) (items : List FilledItem) (T U : Table) (levels : List Level)
    (next : Next) (w : List ℕ) : Type 0 where
  pub prefix : List ℕ
  pub item : List ℕ
  pub left : ℕ
  pub stream : FilledStream base_table L items prefix T
  pub stands : Stands base_table L T (length prefix) item U levels next left
  pub whole : bytes ≡ prefix ++ (item ++ w)

abbrev pub offset_of : {L : Bounds} {bytes : List ℕ} {items : List FilledItem} {T U : Table} {levels : List Level}
    {next : Next} {w : List ℕ} → LeadsTo L bytes items T U levels next w → ℕ
offset_of h = length h.prefix + length h.item

-- a refusal within the innermost value is honest in it, and in the whole value of the item
pub record IsHonest (L : Bounds) (bytes : List ℕ) (items : List FilledItem) (R : Refusal) : Type 0 where
  pub value : (T U : Table) (lv : Level) (around : List Level) (w : List ℕ) (S : body.Refusal)
      (h : LeadsTo L bytes items T U (lv ∷ around) in_value w)
      → RefusesAt base_table L (offset_of h) U w (lv ∷ around) in_value h.left R
      → IsCountedFrom (length lv.done) (offset_of h) R S
      → IsHonestBody lv.table lv.type lv.limit (lv.done ++ take (lv.end - offset_of h) w) S
  pub whole : (T U : Table) (lv : Level) (around : List Level) (w : List ℕ) (S : body.Refusal)
      (h : LeadsTo L bytes items T U (lv ∷ around) in_value w)
      → RefusesAt base_table L (offset_of h) U w (lv ∷ around) in_value h.left R
      → IsCountedFrom (length (uncounted h.stands)) (offset_of h) R S
      → IsHonestValue base_table T (type_of h.stands) L.depth
      (uncounted h.stands ++ take (lv.end - offset_of h) w) S
  pub definition : (T U : Table) (levels : List Level) (next : Next) (w q a z : List ℕ) (m n : ℕ)
      (h : LeadsTo L bytes items T U levels next w) → RefusesBody base_table L U (offset_of h) m q R → q ≡ a ++ z
      → IsSigned (negsuc n) a → offset_of h + length a ≤ R.place
      → IsHonestBody U wire_type L.depth z (from (offset_of h + length a) R)
