-- Source gives no two types one name.
use Rattle.std.proofs.Common.{◌≡◌, ◌∙◌, ℕ, ◌+◌, ◌<◌, ◌≤◌, ◌/◌, ◌%◌, ◌^◌, List, [], ◌∷◌, ◌++◌, Bool, true, false, refl}
use Rattle.std.proofs.Common.{ap, sym, arith, codes, decimal, drop, eq-eqb, eqb-true, length, length-append, Some}
use Rattle.std.proofs.Common.{◌==◌, ◌&&◌, ◌||◌, if◌then◌else◌, nat_le}
use Rattle.std.proofs.lemmas.Fmt.{decimal_by_steps, decimal_injective}
use Rattle.std.proofs.lemmas.Slice.Eq.{bytes_eq-Decides}
use Rattle.std.proofs.lemmas.Bool.Decides.{nat_tests}
use Rattle.std.specs.List.{list_all, list_any}
use Rattle.std.specs.Prelude.{Option, nat_lt}
use Rattle.gob_types.specs.declared.id.TypeId.{TypeId}
use Rattle.gob_types.specs.declared.kind.Shape.{Shape}
use Rattle.gob_types.specs.Base.{id}
use Rattle.gob_types.specs.Table.{Table, shape_of}
use Rattle.gob_source.specs.Names.{ends_in_number, is_digit, is_identifier, is_named, is_numbered, is_reserved}
use Rattle.gob_source.specs.Names.{is_t_number, is_taken, is_two_digits, own_name}
use Rattle.gob_source.specs.Source.{is_among}
use Rattle.gob_source_back.specs.Alike.{AreWritten}
use Rattle.gob_source_back.specs.Differ.{IsLongId}
use Rattle.gob_source_back.proofs.NameLaws.{any_behind, either_true}
use Rattle.gob_source_back.proofs.TypeLaws.{AreDistinct}
use Rattle.gob_source_back.proofs.WordLaws.{are_digits, both_true}
use Rattle.gob_source_back.proofs.WrittenLaws.{among_is}

-- ---- ids as they are written

-- so many digits there are at least
record IsLong (n : ℕ) (ds : List ℕ) : Type 0 where
  some : 0 < length ds
  two : 10 ≤ n → 2 ≤ length ds

long_digits : (n : ℕ) → n < 2 ^ 64 → IsLong n (decimal n)
long_digits n small = decimal_by_steps IsLong one more n small
  where
    one : (n : ℕ) → n < 10 → IsLong n ((48 + n) ∷ [])
    one n few = record { some = omega arith; two = λ many. omega arith }

    more : (n : ℕ) (ds : List ℕ) → 10 ≤ n → IsLong (n / 10) ds → IsLong n (ds ++ ((48 + n % 10) ∷ []))
    more n ds many l =
        let sum = length-append ds ((48 + n % 10) ∷ []) in
        let some = l.some in
        record { some = omega arith; two = λ k. omega arith }

two_digits : (n : ℕ) → 10 ≤ n → n < 2 ^ 64 → is_two_digits (decimal n) ≡ true
two_digits n many small =
    ap (λ (b : Bool). b && list_all is_digit (decimal n)) (enough (length (decimal n)) ((long_digits n small).two many))
    ∙ are_digits n small
  where
    enough : (k : ℕ) → 2 ≤ k → nat_le 2 k ≡ true
    enough k h = grind (arith, nat_tests)

no_line : (ds : List ℕ) → list_all is_digit ds ≡ true → list_any (λ b. b == 95) ds ≡ false
no_line [] all = refl
no_line (d ∷ ds) all =
    let h = both_true (is_digit d) (list_all is_digit ds) all in
    ap (λ (b : Bool). b || list_any (λ b. b == 95) ds) (other d h.0) ∙ no_line ds h.1
  where
    other : (d : ℕ) → is_digit d ≡ true → (d == 95) ≡ false
    other d h = grind (arith, nat_tests)

-- ---- how a type is named

-- it keeps its name, which doesn't look like one with an id and which no type before it has; or it has its id behind
-- that, or behind a T
data IsNamed (T : Table) (ts : List TypeId) (t : TypeId) (name own : List ℕ) : Type 0 where
  kept : own ≡ name → is_numbered name ≡ false → is_taken T ts t name ≡ false → IsNamed T ts t name own
  numbered : own ≡ name ++ (codes "_" ++ decimal t.0) → IsNamed T ts t name own
  made : own ≡ codes "T" ++ decimal t.0 → IsNamed T ts t name own

how_named : (T : Table) (ts : List TypeId) (t : TypeId) (name : List ℕ)
    → IsNamed T ts t name (own_name T ts t name)
how_named T ts t name =
    by (is_identifier name) (is_reserved name) (is_numbered name) (is_taken T ts t name) refl refl
  where
    behind : List ℕ
    behind = name ++ (codes "_" ++ decimal t.0)

    by : (a b c d : Bool) → is_numbered name ≡ c → is_taken T ts t name ≡ d
        → IsNamed T ts t name (if a then (if b || (c || d) then behind else name) else codes "T" ++ decimal t.0)
    by false b c d e f = made refl
    by true true c d e f = numbered refl
    by true false true d e f = numbered refl
    by true false false true e f = numbered refl
    by true false false false e f = kept refl e f

-- ---- no two names are one

module _ (T : Table) (t u : TypeId) (name : List ℕ) (other : (t.0 == u.0) ≡ false)
    (first : is_named (shape_of T t) name ≡ true) (second : is_named (shape_of T u) name ≡ true) where
  -- of two types of one name the one that stands behind the other knows it
  one_taken : (ts : List TypeId) → is_among t ts ≡ true → is_among u ts ≡ true → is_taken T ts t name ≡ false
      → is_taken T ts u name ≡ false → ⊥
  one_taken [] a b e f = cc
  one_taken (v ∷ vs) a b e f = by (v.0 == t.0) (v.0 == u.0) (is_named (shape_of T v) name) refl refl refl a b e f
      (λ a b e f. one_taken vs a b e f)
    where
      by : (c d n : Bool) → (v.0 == t.0) ≡ c → (v.0 == u.0) ≡ d → is_named (shape_of T v) name ≡ n
          → (c || is_among t vs) ≡ true → (d || is_among u vs) ≡ true
          → (if c then false else (if n then true else is_taken T vs t name)) ≡ false
          → (if d then false else (if n then true else is_taken T vs u name)) ≡ false
          → (is_among t vs ≡ true → is_among u vs ≡ true → is_taken T vs t name ≡ false → is_taken T vs u name ≡ false
          → ⊥) → ⊥
      by true true n c d named a b e f go =
          let same = sym (eqb-true v.0 t.0 c) ∙ eqb-true v.0 u.0 d in
          let k = sym (eq-eqb t.0 u.0 same) ∙ other in cc
      by true false true c d named a b e f go = cc
      by true false false c d named a b e f go =
          let same = ap (λ (n : ℕ). is_named (shape_of T (id n)) name) (eqb-true v.0 t.0 c) in
          let k = sym named ∙ same ∙ first in cc
      by false true true c d named a b e f go = cc
      by false true false c d named a b e f go =
          let same = ap (λ (n : ℕ). is_named (shape_of T (id n)) name) (eqb-true v.0 u.0 d) in
          let k = sym named ∙ same ∙ second in cc
      by false false true c d named a b e f go = cc
      by false false false c d named a b e f go = go a b e f

ends_numbered : (xs ds : List ℕ) → is_two_digits ds ≡ true → ends_in_number (xs ++ (95 ∷ ds)) ≡ true
ends_numbered [] ds two = ap (λ (b : Bool). b || ends_in_number ds) two
ends_numbered (x ∷ xs) ds two =
    either_true ((x == 95) && is_two_digits (xs ++ (95 ∷ ds))) (ends_in_number (xs ++ (95 ∷ ds)))
    (ends_numbered xs ds two)

-- what is behind the last underline is the same
same_digits : (xs ys ds es : List ℕ) → list_all is_digit ds ≡ true → list_all is_digit es ≡ true
    → xs ++ (95 ∷ ds) ≡ ys ++ (95 ∷ es) → ds ≡ es
same_digits [] [] ds es all also e = ap (drop 1) e
same_digits [] (y ∷ ys) ds es all also e =
    let there = any_behind (λ b. b == 95) ys (95 ∷ es) refl in
    let k = sym (no_line ds all) ∙ ap (list_any (λ b. b == 95)) (ap (drop 1) e) ∙ there in cc
same_digits (x ∷ xs) [] ds es all also e =
    let there = any_behind (λ b. b == 95) xs (95 ∷ ds) refl in
    let k = sym (no_line es also) ∙ ap (list_any (λ b. b == 95)) (ap (drop 1) (sym e)) ∙ there in cc
same_digits (x ∷ xs) (y ∷ ys) ds es all also e = same_digits xs ys ds es all also (ap (drop 1) e)

same_written : (t u : TypeId) → IsLongId t → IsLongId u → decimal t.0 ≡ decimal u.0 → t ≡ u
same_written t u a b e = ap (λ (n : ℕ). id n) (decimal_injective t.0 u.0 a.1 b.1 e)

-- a name that is kept is none with an id
kept_numbered : (u : TypeId) (name xs : List ℕ) → IsLongId u → is_numbered name ≡ false
    → name ≡ xs ++ (codes "_" ++ decimal u.0) → ⊥
kept_numbered u name xs own no_number e =
    let ends = ends_numbered xs (decimal u.0) (two_digits u.0 own.0 own.1) in
    let k = sym no_number ∙ ap is_numbered e
    ∙ either_true (is_t_number (xs ++ (codes "_" ++ decimal u.0))) _ ends in cc

kept_made : (u : TypeId) (name : List ℕ) → IsLongId u → is_numbered name ≡ false → name ≡ codes "T" ++ decimal u.0 → ⊥
kept_made u name own no_number e =
    let two = two_digits u.0 own.0 own.1 in
    let k = sym no_number ∙ ap is_numbered e
    ∙ ap (λ (b : Bool). b || ends_in_number (codes "T" ++ decimal u.0)) two in cc

numbered_not_made : (t u : TypeId) (name : List ℕ) → IsLongId u
    → name ++ (codes "_" ++ decimal t.0) ≡ codes "T" ++ decimal u.0 → ⊥
numbered_not_made t u name own e =
    let there = any_behind (λ b. b == 95) name (codes "_" ++ decimal t.0) refl in
    let k = sym there ∙ ap (list_any (λ b. b == 95)) e ∙ no_line (decimal u.0) (are_digits u.0 own.1) in cc

pub names_differ : (T : Table) (ts : List TypeId) (t u : TypeId) (r s : Shape) → IsLongId t → IsLongId u
    → is_among t ts ≡ true → is_among u ts ≡ true → shape_of T t ≡ Some r → shape_of T u ≡ Some s
    → own_name T ts t r.name ≡ own_name T ts u s.name → t ≡ u
names_differ T ts t u r s a b in_first in_second f g e =
    by (how_named T ts t r.name) (how_named T ts u s.name) e
  where
    both_kept : (c : Bool) → (t.0 == u.0) ≡ c → r.name ≡ s.name → is_taken T ts t r.name ≡ false
        → is_taken T ts u s.name ≡ false → t ≡ u
    both_kept true c same h k = ap (λ (n : ℕ). id n) (eqb-true t.0 u.0 c)
    both_kept false c same h k =
        let first = ap (λ (o : Option Shape). is_named o s.name) f ∙ (bytes_eq-Decides r.name s.name).1 same in
        let second = ap (λ (o : Option Shape). is_named o s.name) g ∙ (bytes_eq-Decides s.name s.name).1 refl in
        absurd (one_taken T t u s.name c first second ts in_first in_second
        (sym (ap (is_taken T ts t) same) ∙ h) k)

    by : {x y : List ℕ} → IsNamed T ts t r.name x → IsNamed T ts u s.name y → x ≡ y → t ≡ u
    by (kept x no_number free) (kept y other_number other) e =
        both_kept (t.0 == u.0) refl (sym x ∙ e ∙ y) free other
    by (kept x no_number free) (numbered y) e = absurd (kept_numbered u r.name s.name b no_number (sym x ∙ e ∙ y))
    by (kept x no_number free) (made y) e = absurd (kept_made u r.name b no_number (sym x ∙ e ∙ y))
    by (numbered x) (kept y no_number free) e =
        absurd (kept_numbered t s.name r.name a no_number (sym y ∙ sym e ∙ x))
    by (made x) (kept y no_number free) e = absurd (kept_made t s.name a no_number (sym y ∙ sym e ∙ x))
    by (numbered x) (numbered y) e =
        same_written t u a b (same_digits r.name s.name (decimal t.0) (decimal u.0) (are_digits t.0 a.1)
        (are_digits u.0 b.1) (sym x ∙ e ∙ y))
    by (numbered x) (made y) e = absurd (numbered_not_made t u r.name b (sym x ∙ e ∙ y))
    by (made x) (numbered y) e = absurd (numbered_not_made u t s.name a (sym y ∙ sym e ∙ x))
    by (made x) (made y) e = same_written t u a b (ap (drop 1) (sym x ∙ e ∙ y))

-- of types that are written no two have one name
pub all_differ : {T : Table} {ts : List TypeId} → AreWritten T ts → AreDistinct T ts
all_differ {T = T} {ts = ts} w t u r s in_first in_second f g e = by (nat_lt t.0 10) (nat_lt u.0 10) refl refl
  where
    short : (n : ℕ) → nat_lt n 10 ≡ true → n < 10
    short n h = grind (arith, nat_tests)

    long : (n : ℕ) → nat_lt n 10 ≡ false → 9 < n
    long n h = grind (arith, nat_tests)

    by : (a b : Bool) → nat_lt t.0 10 ≡ a → nat_lt u.0 10 ≡ b → t ≡ u
    by true b h k = w.distinct t u r s (short t.0 h) in_first in_second f g e
    by false true h k = sym (w.distinct u t s r (short u.0 k) in_second in_first g f (sym e))
    by false false h k =
        let x = among_is t w.each in_first in
        let y = among_is u w.each in_second in
        names_differ T ts t u r s (long t.0 h, x.small) (long u.0 k, y.small) in_first in_second f g e
