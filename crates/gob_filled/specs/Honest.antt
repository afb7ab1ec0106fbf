-- The place of a refusal is honest: what the bytes begin before it, and those that show it. That is said of the value
-- at hand, with 00 for what fills its nils, as in its level; and of the whole value of the item, without the counts of
-- its segments.
-- (docs/FORMAT.md, Refusals: the place of a refusal is honest.)
use Rattle.std.specs.Prelude.{◌≡◌, ℕ, negsuc, ◌+◌, ◌-◌, ◌<◌, ◌≤◌, List, ◌∷◌, ◌++◌, length, take}
use Rattle.gob_num.specs.Signed.{IsSigned}
use Rattle.gob_types.specs.declared.id.TypeId.{TypeId}
use Rattle.gob_types.specs.declared.reason.Reason.TheVariants as reason
use Rattle.gob_types.specs.Base.{base_table, wire_type}
use Rattle.gob_types.specs.Table.{Table}
use Rattle.gob_read.specs.Refusal as body
use Rattle.gob_read.specs.Honest.{IsHonestBody}
use Rattle.gob_read.specs.Laws.{IsOfNumber}
use Rattle.gob_stream.specs.declared.fault.Refusal.{Refusal}
use Rattle.gob_stream.specs.Bounds.{Bounds}
use Rattle.gob_stream.specs.Honest.{from}
use Rattle.gob_stream.specs.Refusing.{RefusesBody}
use Rattle.gob_filled.specs.Stream.{FilledItem, FilledStream}
use Rattle.gob_filled.specs.Standing.{Level, Next, in_value, Stands}
use Rattle.gob_filled.specs.Uncounted.{BeginsFilledValue, type_of, uncounted}
use Rattle.gob_filled.specs.Outcome.{RefusesAt}

-- a refusal in the stream, counted from the first byte of a value of which so many bytes lead to this offset
pub record IsCountedFrom (done at : ℕ) (R : Refusal) (S : body.Refusal) : Type 0 where
  pub place : done + R.place ≡ at + S.place
  pub seen : done + R.seen ≡ at + S.seen
  pub reason : R.reason ≡ S.reason

-- behind a stream, where bytes lead so far and are refused within the innermost value, the refusal is honest in that
-- value
abbrev pub ValuesAreHonest : Type 0
ValuesAreHonest = (L : Bounds) (items : List FilledItem) (f y w : List ℕ) (T U : Table) (lv : Level)
    (levels : List Level) (left at : ℕ) (R : Refusal) (S : body.Refusal) → FilledStream base_table L items f T
    → at ≡ length f + length y → Stands base_table L T (length f) y U (lv ∷ levels) in_value left
    → RefusesAt base_table L at U w (lv ∷ levels) in_value left R → IsCountedFrom (length lv.done) at R S
    → IsHonestBody lv.table lv.type lv.limit (lv.done ++ take (lv.end - at) w) S

-- and within a definition, which stands as the body of an item does: behind the type number a, in its description
abbrev pub DefinitionsAreHonest : Type 0
DefinitionsAreHonest = (L : Bounds) (items : List FilledItem) (f y q a z : List ℕ) (T U : Table)
    (levels : List Level) (next : Next) (left at m n : ℕ) (R : Refusal) → FilledStream base_table L items f T
    → Stands base_table L T (length f) y U levels next left → RefusesBody base_table L U at m q R
    → q ≡ a ++ z → IsSigned (negsuc n) a → at + length a ≤ R.place
    → IsHonestBody U wire_type L.depth z (from (at + length a) R)

-- z is what is there of a filled value of the type, without the counts of its segments
pub record IsHonestValue (base T : Table) (t : TypeId) (limit : ℕ) (z : List ℕ) (R : body.Refusal) : Type 0 where
  -- where a number is refused, the bytes before it begin a filled value, and those up to its end begin none
  pub number : IsOfNumber R.reason
      → BeginsFilledValue base T t (take R.place z) × (¬ BeginsFilledValue base T t (take R.seen z))
  -- where a part is too deep, the bytes before it begin a filled value, and only values that are too deep
  pub deep : R.reason ≡ reason.TooDeep → BeginsFilledValue base T t (take R.place z)
      × ((v : BeginsFilledValue base T t (take R.place z)) → limit < v.deepest)

-- so a refusal within the innermost value is honest in the whole value of the item
abbrev pub WholeValuesAreHonest : Type 0
WholeValuesAreHonest = (L : Bounds) (items : List FilledItem) (f y w : List ℕ) (T U : Table) (lv : Level)
    (levels : List Level) (left at : ℕ) (R : Refusal) (S : body.Refusal) → FilledStream base_table L items f T
    → at ≡ length f + length y → (p : Stands base_table L T (length f) y U (lv ∷ levels) in_value left)
    → RefusesAt base_table L at U w (lv ∷ levels) in_value left R → IsCountedFrom (length (uncounted p)) at R S
    → IsHonestValue base_table T (type_of p) L.depth (uncounted p ++ take (lv.end - at) w) S
