-- Tallies, row by row.
use Rattle.std.proofs.Common.{◌≡◌, ℕ, ◌+◌, ◌-◌, ◌^◌, Bool, true, false, ◌&&◌, ◌||◌, not, cond}
use Rattle.std.proofs.Common.{List, [], ◌∷◌, ◌++◌}
use Rattle.std.proofs.Common.{map, filter, min, refl, sym, ap, ◌∙◌, subst, true≢false, arith, append-nil, append_assoc}
use Rattle.std.proofs.Common.{Some, None, length, ◌<◌, ◌≤◌}
use Rattle.std.specs.List.{flat_map, IsDistinct, AllByRecursion}
use Rattle.std.specs.Map.{keys_of, lookup, set_value}
use Rattle.std.proofs.lemmas.Bool.{eq-eqb}
use Rattle.std.proofs.lemmas.Grind.{flat_map-append}
use Rattle.std.proofs.lemmas.List.{map-append}
use Rattle.std.proofs.lemmas.List.Elements.{filter-append}
use Rattle.std.proofs.lemmas.List.Folds.{list_any-append}
use Rattle.std.proofs.lemmas.List.Sums.{sum_by-append, sum_by-cons}
use Rattle.std.proofs.lemmas.Map.Keys.{IsDistinct-head, IsDistinct-tail}
use Rattle.std.proofs.lemmas.Option.{none-some}
use Rattle.indexmap.specs.IndexMap.{insert_entry}
use Rattle.gob_types.proofs.PublicLaws.{some_injective}
use Rattle.gob_left_out.specs.declared.field.UnwantedField.{UnwantedField}
use Rattle.gob_left_out.specs.declared.tally.TalliedField.{TalliedField}
use Rattle.gob_left_out.specs.LeftOut.{Row}
use Rattle.gob_left_out.specs.Machine.Tallying.{one_more, with_row, with_rows}
use Rattle.gob_left_out.specs.Tally.{TallyRow, first_rows, has_field, same_field, tally_of, tally_row, values_without}
use Rattle.gob_left_out.proofs.NoteLaws.{same_exact_field}

-- ---- one field
and_true : (a b : Bool) → a ≡ true → b ≡ true → (a && b) ≡ true
and_true a b p q = ap (λ v. v && b) p ∙ q

same_itself : (x : UnwantedField) → same_field x x ≡ true
same_itself x = and_true _ _ (and_true _ _ (eq-eqb x.pair.stream.0 x.pair.stream.0 refl)
    (eq-eqb x.pair.wanted.0 x.pair.wanted.0 refl)) (eq-eqb x.number x.number refl)

same_back : (x y : UnwantedField) → same_field x y ≡ true → same_field y x ≡ true
same_back x y e = subst (λ z. same_field z x ≡ true) (same_exact_field x y e) (same_itself x)

same_sym : (x y : UnwantedField) → same_field x y ≡ same_field y x
same_sym x y = by (same_field x y) (same_field y x) refl refl
  where
    by : (a b : Bool) → same_field x y ≡ a → same_field y x ≡ b → same_field x y ≡ same_field y x
    by true b e f = e ∙ sym (same_back x y e)
    by false true e f = absurd (true≢false (sym (same_back y x f) ∙ e))
    by false false e f = e ∙ sym f

or_first : (a b : Bool) → (a || b) ≡ false → a ≡ false
or_first true b e = absurd (true≢false e)
or_first false b e = refl

or_second : (a b : Bool) → (a || b) ≡ false → b ≡ false
or_second true b e = absurd (true≢false e)
or_second false b e = e

-- ---- a row in a map
pub set_known : (ts : List TallyRow) (row : Row) (v : TalliedField) (n : ℕ) → lookup (same_field row.0) ts ≡ Some v
    → n ≡ min (v.values + 1) (2 ^ 64 - 1)
    → set_value (same_field row.0) ts (record { path = v.path; values = n }) ≡ with_row ts row
set_known [] row v n e s = absurd (none-some _ e)
set_known (t ∷ ts) row v n e s = by (same_field row.0 t.0) refl (λ e. set_known ts row v n e s)
  where
    w : TalliedField
    w = record { path = v.path; values = n }

    by : (b : Bool) → same_field row.0 t.0 ≡ b
        → (lookup (same_field row.0) ts ≡ Some v → set_value (same_field row.0) ts w ≡ with_row ts row)
        → set_value (same_field row.0) (t ∷ ts) w ≡ with_row (t ∷ ts) row
    by true is rest =
        let q : v ≡ t.1 =
        some_injective (sym e ∙ ap (λ c. cond c (Some t.1) (lookup (same_field row.0) ts)) is) in
        let s : n ≡ min (t.1.values + 1) (2 ^ 64 - 1) =
        s ∙ ap (λ (z : TalliedField). min (z.values + 1) (2 ^ 64 - 1)) q in
        let one : (t.0, w) ≡ one_more t = (λ i. (t.0, record { path = (q i).path; values = s i })) in
        ap (λ c. cond c ((t.0, w) ∷ ts) (t ∷ set_value (same_field row.0) ts w)) is ∙ ap (λ t. t ∷ ts) one
        ∙ sym (ap (λ c. cond c (one_more t ∷ ts) (t ∷ with_row ts row)) is)
    by false is rest =
        ap (λ c. cond c ((t.0, w) ∷ ts) (t ∷ set_value (same_field row.0) ts w)) is
        ∙ ap (λ ts. t ∷ ts) (rest (sym (ap (λ c. cond c (Some t.1) (lookup (same_field row.0) ts)) is) ∙ e))
        ∙ sym (ap (λ c. cond c (one_more t ∷ ts) (t ∷ with_row ts row)) is)

pub put_new : (ts : List TallyRow) (row : Row) → lookup (same_field row.0) ts ≡ None
    → insert_entry same_field ts row.0 (record { path = row.1; values = 1 }) ≡ with_row ts row
put_new [] row e = refl
put_new (t ∷ ts) row e = by (same_field row.0 t.0) refl (put_new ts row)
  where
    first : TalliedField
    first = record { path = row.1; values = 1 }

    by : (b : Bool) → same_field row.0 t.0 ≡ b
        → (lookup (same_field row.0) ts ≡ None → insert_entry same_field ts row.0 first ≡ with_row ts row)
        → insert_entry same_field (t ∷ ts) row.0 first ≡ with_row (t ∷ ts) row
    by true is rest =
        absurd (none-some _ (sym e ∙ ap (λ c. cond c (Some t.1) (lookup (same_field row.0) ts)) is))
    by false is rest =
        ap (λ c. cond c ((t.0, first) ∷ ts) (t ∷ insert_entry same_field ts row.0 first)) is
        ∙ ap (λ ts. t ∷ ts) (rest (sym (ap (λ c. cond c (Some t.1) (lookup (same_field row.0) ts)) is) ∙ e))
        ∙ sym (ap (λ c. cond c (one_more t ∷ ts) (t ∷ with_row ts row)) is)

-- ---- the first row of each field
-- no row has the field of one after it
data AreApart : List Row → Type 0 where
  none_apart : AreApart []
  one_apart : {row : Row} {rows : List Row} → has_field row.0 rows ≡ false → AreApart rows → AreApart (row ∷ rows)

abbrev others_of : UnwantedField → List Row → List Row
others_of x rows = filter (λ other. not (same_field x other.0)) rows

-- the test of a row decides whether it stays among the others
other_kept : (x : UnwantedField) (row : Row) (rows : List Row) → same_field x row.0 ≡ false
    → others_of x (row ∷ rows) ≡ row ∷ others_of x rows
other_kept x row rows e = ap (λ c. cond (not c) (row ∷ others_of x rows) (others_of x rows)) e

other_gone : (x : UnwantedField) (row : Row) (rows : List Row) → same_field x row.0 ≡ true
    → others_of x (row ∷ rows) ≡ others_of x rows
other_gone x row rows e = ap (λ c. cond (not c) (row ∷ others_of x rows) (others_of x rows)) e

others_have : (x y : UnwantedField) (rows : List Row) → same_field y x ≡ false
    → has_field x (others_of y rows) ≡ has_field x rows
others_have x y [] e = refl
others_have x y (row ∷ rows) e = by (same_field y row.0) refl (others_have x y rows e)
  where
    by : (b : Bool) → same_field y row.0 ≡ b → has_field x (others_of y rows) ≡ has_field x rows
        → has_field x (others_of y (row ∷ rows)) ≡ has_field x (row ∷ rows)
    by true is rest =
        let apart : same_field row.0 x ≡ false =
        subst (λ z. same_field z x ≡ false) (same_exact_field y row.0 is) e in
        ap (has_field x) (other_gone y row rows is) ∙ rest ∙ sym (ap (λ c. c || has_field x rows) apart)
    by false is rest =
        ap (has_field x) (other_kept y row rows is) ∙ ap (λ c. same_field row.0 x || c) rest

others_lack : (x : UnwantedField) (rows : List Row) → has_field x (others_of x rows) ≡ false
others_lack x [] = refl
others_lack x (row ∷ rows) = by (same_field x row.0) refl (others_lack x rows)
  where
    by : (b : Bool) → same_field x row.0 ≡ b → has_field x (others_of x rows) ≡ false
        → has_field x (others_of x (row ∷ rows)) ≡ false
    by true is rest = ap (has_field x) (other_gone x row rows is) ∙ rest
    by false is rest =
        ap (has_field x) (other_kept x row rows is)
        ∙ ap (λ c. c || has_field x (others_of x rows)) (same_sym row.0 x ∙ is) ∙ rest

others_lack_more : (x y : UnwantedField) (rows : List Row) → has_field x rows ≡ false
    → has_field x (others_of y rows) ≡ false
others_lack_more x y [] e = refl
others_lack_more x y (row ∷ rows) e =
    by (same_field y row.0) refl
    (others_lack_more x y rows (or_second (same_field row.0 x) (has_field x rows) e))
  where
    by : (b : Bool) → same_field y row.0 ≡ b → has_field x (others_of y rows) ≡ false
        → has_field x (others_of y (row ∷ rows)) ≡ false
    by true is rest = ap (has_field x) (other_gone y row rows is) ∙ rest
    by false is rest =
        ap (has_field x) (other_kept y row rows is)
        ∙ ap (λ c. c || has_field x (others_of y rows)) (or_first (same_field row.0 x) (has_field x rows) e) ∙ rest

others_apart : (y : UnwantedField) (rows : List Row) → AreApart rows → AreApart (others_of y rows)
others_apart y [] a = a
others_apart y (row ∷ rows) (one_apart e a) = by (same_field y row.0) refl (others_apart y rows a)
  where
    by : (b : Bool) → same_field y row.0 ≡ b → AreApart (others_of y rows) → AreApart (others_of y (row ∷ rows))
    by true is rest = subst AreApart (sym (other_gone y row rows is)) rest
    by false is rest =
        subst AreApart (sym (other_kept y row rows is)) (one_apart (others_lack_more row.0 y rows e) rest)

firsts_apart : (rows : List Row) → AreApart (first_rows rows)
firsts_apart [] = none_apart
firsts_apart (row ∷ rows) =
    one_apart (others_lack row.0 (first_rows rows)) (others_apart row.0 (first_rows rows) (firsts_apart rows))

firsts_have : (x : UnwantedField) (rows : List Row) → has_field x (first_rows rows) ≡ has_field x rows
firsts_have x [] = refl
firsts_have x (row ∷ rows) = by (same_field row.0 x) refl (firsts_have x rows)
  where
    by : (b : Bool) → same_field row.0 x ≡ b → has_field x (first_rows rows) ≡ has_field x rows
        → has_field x (first_rows (row ∷ rows)) ≡ has_field x (row ∷ rows)
    by true is rest =
        ap (λ c. c || has_field x (others_of row.0 (first_rows rows))) is ∙ sym (ap (λ c. c || has_field x rows) is)
    by false is rest =
        ap (λ c. same_field row.0 x || c) (others_have x row.0 (first_rows rows) is ∙ rest)

-- a row behind the others is a first one where none has its field
first_new : (rows : List Row) (r : Row) → has_field r.0 rows ≡ false
    → first_rows (rows ++ r ∷ []) ≡ first_rows rows ++ r ∷ []
first_new [] r e = refl
first_new (row ∷ rows) r e =
    let none = or_first (same_field row.0 r.0) (has_field r.0 rows) e in
    ap (λ l. row ∷ others_of row.0 l) (first_new rows r (or_second (same_field row.0 r.0) (has_field r.0 rows) e))
    ∙ ap (λ l. row ∷ l) (filter-append (λ (other : Row). not (same_field row.0 other.0)) (first_rows rows) (r ∷ []))
    ∙ ap (λ l. row ∷ (others_of row.0 (first_rows rows) ++ l)) (other_kept row.0 r [] none)

first_old : (rows : List Row) (r : Row) → has_field r.0 rows ≡ true → first_rows (rows ++ r ∷ []) ≡ first_rows rows
first_old [] r e = absurd (true≢false (sym e))
first_old (row ∷ rows) r e = by (has_field r.0 rows) refl (first_old rows r)
  where
    by : (b : Bool) → has_field r.0 rows ≡ b
        → (has_field r.0 rows ≡ true → first_rows (rows ++ r ∷ []) ≡ first_rows rows)
        → first_rows (row ∷ (rows ++ r ∷ [])) ≡ first_rows (row ∷ rows)
    by true is rest = ap (λ l. row ∷ others_of row.0 l) (rest is)
    by false is rest =
        ap (λ l. row ∷ others_of row.0 l) (first_new rows r is)
        ∙ ap (λ l. row ∷ l) (filter-append (λ (other : Row). not (same_field row.0 other.0)) (first_rows rows) (r ∷ []))
        ∙ ap (λ l. row ∷ (others_of row.0 (first_rows rows) ++ l)) (other_gone row.0 r [] (known is))
        ∙ ap (λ l. row ∷ l) (append-nil (others_of row.0 (first_rows rows)))
      where
        known : has_field r.0 rows ≡ false → same_field row.0 r.0 ≡ true
        known is = at (same_field row.0 r.0) refl
          where
            at : (b : Bool) → same_field row.0 r.0 ≡ b → same_field row.0 r.0 ≡ true
            at true f = f
            at false f = absurd (true≢false (sym e ∙ ap (λ c. c || has_field r.0 rows) f ∙ is))

-- ---- how many values leave out a field
abbrev whole : List (List Row) → List Row
whole all = flat_map (λ rows. rows) all

whole_more : (all : List (List Row)) (rows : List Row) → whole (all ++ rows ∷ []) ≡ whole all ++ rows
whole_more all rows =
    flat_map-append (λ (rows : List Row). rows) all (rows ∷ []) ∙ ap (λ l. whole all ++ l) (append-nil rows)

counted_more : (x : UnwantedField) (all : List (List Row)) (rows : List Row) (b : Bool) → has_field x rows ≡ b
    → values_without x (all ++ rows ∷ []) ≡ values_without x all + (cond b 1 0)
counted_more x all rows b e =
    sum_by-append (λ (rows : List Row). cond (has_field x rows) 1 0) all (rows ∷ [])
    ∙ ap (λ c. values_without x all + (0 + cond c 1 0)) e ∙ omega arith

none_counted : (x : UnwantedField) (all : List (List Row)) → has_field x (whole all) ≡ false
    → values_without x all ≡ 0
none_counted x [] e = refl
none_counted x (rows ∷ all) e =
    let both = sym (list_any-append (λ (row : Row). same_field row.0 x) rows (whole all)) ∙ e in
    sum_by-cons (λ (rows : List Row). cond (has_field x rows) 1 0) rows all
    ∙ ap (λ c. cond c 1 0 + values_without x all) (or_first (has_field x rows) (has_field x (whole all)) both)
    ∙ ap (λ n. 0 + n) (none_counted x all (or_second (has_field x rows) (has_field x (whole all)) both))

capped : (n m k : ℕ) → k ≡ n + 0 → min (n + 1) m ≡ min (min k m + 1) m
capped n m k e = omega arith

abbrev valued : Row → ℕ → TallyRow
valued row n = (row.0, record { path = row.1; values = n })

has_more : (x : UnwantedField) (xs : List Row) (r : Row) (a b : Bool) → has_field x xs ≡ a → same_field r.0 x ≡ b
    → has_field x (xs ++ r ∷ []) ≡ (a || (b || false))
has_more x xs r a b e f =
    list_any-append (λ (row : Row). same_field row.0 x) xs (r ∷ []) ∙ ap (λ c. c || (same_field r.0 x || false)) e
    ∙ ap (λ c. a || (c || false)) f

-- ---- one row more of the last value
module _ (all : List (List Row)) (xs : List Row) (r : Row) (absent : has_field r.0 xs ≡ false) where
  abbrev before : List (List Row)
  before = all ++ xs ∷ []

  abbrev after : List (List Row)
  after = all ++ (xs ++ r ∷ []) ∷ []

  -- the other fields are told as before
  unaffected : (row : Row) → same_field r.0 row.0 ≡ false → tally_row before row ≡ tally_row after row
  unaffected row e = by (has_field row.0 xs) refl
    where
      by : (b : Bool) → has_field row.0 xs ≡ b → tally_row before row ≡ tally_row after row
      by true is = ap (λ (n : ℕ). valued row (min n (2 ^ 64 - 1)))
          (counted_more row.0 all xs true is
          ∙ sym (counted_more row.0 all (xs ++ r ∷ []) true (has_more row.0 xs r true false is e)))
      by false is = ap (λ (n : ℕ). valued row (min n (2 ^ 64 - 1)))
          (counted_more row.0 all xs false is
          ∙ sym (counted_more row.0 all (xs ++ r ∷ []) false (has_more row.0 xs r false false is e)))

  -- of the row's field one value more is told
  counted_once : (row : Row) → same_field r.0 row.0 ≡ true → tally_row after row ≡ one_more (tally_row before row)
  counted_once row e =
      let lacks = subst (λ z. has_field z xs ≡ false) (same_exact_field r.0 row.0 e) absent in
      let was = counted_more row.0 all xs false lacks in
      let now = counted_more row.0 all (xs ++ r ∷ []) true (has_more row.0 xs r false true lacks e) in
      ap (λ (n : ℕ). valued row (min n (2 ^ 64 - 1))) now
      ∙ ap (λ (n : ℕ). valued row n)
      (capped (values_without row.0 all) (2 ^ 64 - 1) (values_without row.0 before) was)

  told_first : has_field r.0 (whole all) ≡ false → tally_row after r ≡ valued r 1
  told_first e =
      ap (λ (n : ℕ). valued r (min n (2 ^ 64 - 1)))
      (counted_more r.0 all (xs ++ r ∷ []) true (has_more r.0 xs r false true absent (same_itself r.0))
      ∙ ap (λ n. n + 1) (none_counted r.0 all e))

  unaffected_all : (rows : List Row) → has_field r.0 rows ≡ false
      → map (tally_row before) rows ≡ map (tally_row after) rows
  unaffected_all [] e = refl
  unaffected_all (row ∷ rows) e =
      let one = unaffected row (same_sym r.0 row.0 ∙ or_first (same_field row.0 r.0) (has_field r.0 rows) e) in
      ap (λ t. t ∷ map (tally_row before) rows) one
      ∙ ap (λ l. tally_row after row ∷ l)
      (unaffected_all rows (or_second (same_field row.0 r.0) (has_field r.0 rows) e))

  counted_in : (rows : List Row) → AreApart rows → has_field r.0 rows ≡ true
      → with_row (map (tally_row before) rows) r ≡ map (tally_row after) rows
  counted_in [] a e = absurd (true≢false (sym e))
  counted_in (row ∷ rows) (one_apart n a) e = by (same_field r.0 row.0) refl (counted_in rows a)
    where
      by : (b : Bool) → same_field r.0 row.0 ≡ b
          → (has_field r.0 rows ≡ true → with_row (map (tally_row before) rows) r ≡ map (tally_row after) rows)
          → with_row (map (tally_row before) (row ∷ rows)) r ≡ map (tally_row after) (row ∷ rows)
      by true is rest =
          let lacks = subst (λ z. has_field z rows ≡ false) (sym (same_exact_field r.0 row.0 is)) n in
          ap (λ c. cond c (one_more (tally_row before row) ∷ map (tally_row before) rows)
          (tally_row before row ∷ with_row (map (tally_row before) rows) r)) is
          ∙ ap (λ t. t ∷ map (tally_row before) rows) (sym (counted_once row is))
          ∙ ap (λ l. tally_row after row ∷ l) (unaffected_all rows lacks)
      by false is rest =
          let there = sym (ap (λ c. c || has_field r.0 rows) (same_sym row.0 r.0 ∙ is)) ∙ e in
          ap (λ c. cond c (one_more (tally_row before row) ∷ map (tally_row before) rows)
          (tally_row before row ∷ with_row (map (tally_row before) rows) r)) is
          ∙ ap (λ t. t ∷ with_row (map (tally_row before) rows) r) (unaffected row is)
          ∙ ap (λ l. tally_row after row ∷ l) (rest there)

  told_behind : (rows : List Row) → has_field r.0 rows ≡ false
      → with_row (map (tally_row before) rows) r ≡ map (tally_row after) rows ++ valued r 1 ∷ []
  told_behind [] e = refl
  told_behind (row ∷ rows) e =
      let apart = same_sym r.0 row.0 ∙ or_first (same_field row.0 r.0) (has_field r.0 rows) e in
      ap (λ c. cond c (one_more (tally_row before row) ∷ map (tally_row before) rows)
      (tally_row before row ∷ with_row (map (tally_row before) rows) r)) apart
      ∙ ap (λ t. t ∷ with_row (map (tally_row before) rows) r) (unaffected row apart)
      ∙ ap (λ l. tally_row after row ∷ l)
      (told_behind rows (or_second (same_field row.0 r.0) (has_field r.0 rows) e))

  one_row : with_row (tally_of before) r ≡ tally_of after
  one_row = by (has_field r.0 (whole before)) refl
    where
      grown : whole after ≡ whole before ++ r ∷ []
      grown =
          whole_more all (xs ++ r ∷ []) ∙ sym (append_assoc (whole all) xs (r ∷ []))
          ∙ ap (λ l. l ++ r ∷ []) (sym (whole_more all xs))

      by : (b : Bool) → has_field r.0 (whole before) ≡ b → with_row (tally_of before) r ≡ tally_of after
      by true is =
          counted_in (first_rows (whole before)) (firsts_apart (whole before)) (firsts_have r.0 (whole before) ∙ is)
          ∙ ap (map (tally_row after)) (sym (ap first_rows grown ∙ first_old (whole before) r is))
      by false is =
          let none = sym (list_any-append (λ (row : Row). same_field row.0 r.0) (whole all) xs)
          ∙ sym (ap (has_field r.0) (whole_more all xs)) ∙ is in
          told_behind (first_rows (whole before)) (firsts_have r.0 (whole before) ∙ is)
          ∙ ap (λ t. map (tally_row after) (first_rows (whole before)) ++ t ∷ [])
          (sym (told_first (or_first (has_field r.0 (whole all)) (has_field r.0 xs) none)))
          ∙ sym (ap (map (tally_row after)) (ap first_rows grown ∙ first_new (whole before) r is)
          ∙ map-append (tally_row after) (first_rows (whole before)) (r ∷ []))

-- ---- all rows of the last value
-- none of the second rows has a field of the first ones
AllAbsent : List Row → List Row → Type 0
AllAbsent xs [] = Unit {0}
AllAbsent xs (r ∷ rs) = (has_field r.0 xs ≡ false) × AllAbsent xs rs

absent_first : (rows : List Row) → AllAbsent [] rows
unfolding AllAbsent
absent_first [] = tt
absent_first (r ∷ rs) = (refl, absent_first rs)

absent_more : (xs : List Row) (r : Row) (rs : List Row) → AllAbsent xs rs
    → AllByRecursion (λ (x : UnwantedField). same_field r.0 x ≡ false) (keys_of rs) → AllAbsent (xs ++ r ∷ []) rs
unfolding AllAbsent
absent_more xs r [] a apart = tt
absent_more xs r (s ∷ rs) a apart =
    (has_more s.0 xs r false false a.0 apart.0, absent_more xs r rs a.1 apart.1)

more_rows : (all : List (List Row)) (xs rows : List Row) → IsDistinct same_field (keys_of rows) → AllAbsent xs rows
    → with_rows (tally_of (all ++ xs ∷ [])) rows ≡ tally_of (all ++ (xs ++ rows) ∷ [])
unfolding AllAbsent
more_rows all xs [] d a = ap (λ l. tally_of (all ++ l ∷ [])) (sym (append-nil xs))
more_rows all xs (r ∷ rows) d a =
    ap (λ ts. with_rows ts rows) (one_row all xs r a.0)
    ∙ more_rows all (xs ++ r ∷ []) rows (IsDistinct-tail same_field r.0 (keys_of rows) d)
    (absent_more xs r rows a.1 (IsDistinct-head same_field r.0 (keys_of rows) d))
    ∙ ap (λ l. tally_of (all ++ l ∷ [])) (append_assoc xs (r ∷ []) rows)

no_row : (all : List (List Row)) → tally_of all ≡ tally_of (all ++ [] ∷ [])
no_row all =
    let fields = ap first_rows (sym (whole_more all [] ∙ append-nil (whole all))) in
    let told : (row : Row) → tally_row all row ≡ tally_row (all ++ [] ∷ []) row =
    λ row. ap (λ (n : ℕ). valued row (min n (2 ^ 64 - 1))) (sym (counted_more row.0 all [] false refl ∙ omega arith)) in
    (λ i. map (λ (row : Row). told row i) (fields i))

pub rows_tallied : (all : List (List Row)) (rows : List Row) → IsDistinct same_field (keys_of rows)
    → with_rows (tally_of all) rows ≡ tally_of (all ++ rows ∷ [])
rows_tallied all rows d = ap (λ ts. with_rows ts rows) (no_row all) ∙ more_rows all [] rows d (absent_first rows)

-- ---- room for the rows that are left
pub room_left : {A : Type 0} {x : A} {xs ys : List A} {n : ℕ} → xs ≡ x ∷ ys → length xs ≤ n → 0 < n
room_left is h = let short = ap length is in omega arith

pub room_kept : {A : Type 0} {x : A} {xs ys : List A} {n m : ℕ} → xs ≡ x ∷ ys → length xs ≤ n → n ≤ m + 1
    → length ys ≤ m
room_kept is h used = let short = ap length is in omega arith
