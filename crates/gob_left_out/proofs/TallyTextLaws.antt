-- The text of a tally, field by field.
use Rattle.std.proofs.Common.{◌≡◌, ◌∙◌, ℕ, ◌+◌, ◌<◌, ◌≤◌, ◌⊎◌, inl, inr, List, [], ◌∷◌, ◌++◌}
use Rattle.std.proofs.Common.{Option, Some, None, refl, sym, ap}
use Rattle.std.proofs.Common.{arith, take, drop, length, get_or, min, slice_get}
use Rattle.std.specs.List.{flat_map}
use Rattle.std.specs.Option.{option_map}
use Rattle.std.proofs.lemmas.List.{take_more, flat_map_more, drop-append-le, length-take, take_all}
use Rattle.std.proofs.lemmas.Option.{get_or_from_slice_get, none-some, slice_get_within, slice_get-get_or}
use Rattle.gob_types.proofs.PublicLaws.{some_injective}
use Rattle.gob_match.proofs.SearchLaws.{below_or_past}
use Rattle.gob_left_out.specs.declared.tally.TalliedField.{TalliedField}
use Rattle.gob_left_out.specs.TallyText.{later_text}
use Rattle.gob_left_out.specs.Tally.{TallyRow, tallied}

-- the fields before this place, but for the first
abbrev later_before : ℕ → List TallyRow → List ℕ
later_before place rows = flat_map (λ (row : TallyRow). later_text row.1) (drop 1 (take place rows))

pub none_before : (rows : List TallyRow) → later_before 1 rows ≡ []
none_before [] = refl
none_before (row ∷ rows) = refl

next_row : (rows : List TallyRow) (place : ℕ) (row : TallyRow) → 1 ≤ place → slice_get rows place ≡ Some row
    → later_before place rows ++ later_text row.1 ≡ later_before (place + 1) rows
next_row rows place row past e =
    let within : place < length rows = slice_get_within rows place row e in
    let is : row ≡ get_or rows place row = sym (get_or_from_slice_get rows place row row e) in
    let behind : 1 ≤ length (take place rows) = omega (arith, length-take place rows) in
    flat_map_more (λ (row : TallyRow). later_text row.1) [] (drop 1 (take place rows)) row
    ∙ ap (flat_map (λ (row : TallyRow). later_text row.1)) (sym (drop-append-le 1 (take place rows) (row ∷ []) behind)
    ∙ ap (drop 1) (ap (λ y. take place rows ++ y ∷ []) is ∙ sym (take_more rows place row within)))

-- with the text of the field of this place
pub next_field : (rows : List TallyRow) (place : ℕ) (field : TalliedField) → 1 ≤ place
    → Some field ≡ option_map tallied (slice_get rows place)
    → later_before place rows ++ later_text field ≡ later_before (place + 1) rows
next_field rows place field past e = by (slice_get rows place) refl
  where
    by : (found : Option TallyRow) → slice_get rows place ≡ found
        → later_before place rows ++ later_text field ≡ later_before (place + 1) rows
    by None is = absurd (none-some _ (sym (e ∙ ap (option_map tallied) is)))
    by (Some row) is =
        let same : field ≡ row.1 = some_injective (e ∙ ap (option_map tallied) is) in
        ap (λ f. later_before place rows ++ later_text f) same ∙ next_row rows place row past is

pub field_there : (rows : List TallyRow) (place : ℕ) → place < length rows
    → None ≡ option_map tallied (slice_get rows place) → ⊥
field_there [] place within e = absurd (omega (arith, within))
field_there (row ∷ rows) place within e =
    none-some _ (e ∙ ap (option_map tallied) (slice_get-get_or (row ∷ rows) place row within))

-- where the loop ends all are told that are told one by one
pub told_all : (rows : List TallyRow) (place end : ℕ) → end ≡ min (length rows) 20 → end ≤ place
    → (1 ≤ end → place ≤ end) → take place rows ≡ take 20 rows
told_all rows place end is past within = by (below_or_past 20 (length rows))
  where
    by : (20 < length rows) ⊎ (length rows ≤ 20) → take place rows ≡ take 20 rows
    by (inl more) =
        let last : end ≡ 20 = omega (arith, is, more) in
        let at : place ≡ 20 = omega (arith, last, past, within (omega (arith, last))) in
        ap (λ n. take n rows) at
    by (inr few) =
        let all : length rows ≤ place = omega (arith, is, few, past) in
        take_all place rows all ∙ sym (take_all 20 rows few)
