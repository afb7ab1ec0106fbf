-- What stands whole at the front of bytes stands there whatever comes behind them.
use Rattle.std.proofs.Common.{◌≡◌, ℕ, ◌+◌, ◌-◌, ◌≤◌, Bool, true, false, List, [], ◌∷◌, ◌++◌, length}
use Rattle.std.proofs.Common.{cond}
use Rattle.std.proofs.Common.{take, drop, arith, refl, sym, ap, ◌∙◌, Option, None, Some, nat_lt, slice_range}
use Rattle.std.proofs.Common.{length-append}
use Rattle.std.proofs.lemmas.Bool.{le-ltb, ltb-false}
use Rattle.std.proofs.lemmas.List.{drop-append-le, length-drop, take-append-le}
use Rattle.gob_appended.specs.Front.{front_at, is_definition, number_at, of_count, of_size, with_digits}
use Rattle.gob_appended.specs.declared.front.Front.{Front}
use Rattle.gob_appended.specs.declared.front.Front.TheVariants as front

-- ---- choices

abbrev chosen : {A : Type 0} → (a b c : Bool) → (x y z w : A) → A
chosen a b c x y z w = cond a x (cond b y (cond c z w))

more_chosen : {A : Type 0} (a b c d : Bool) (x v w f : A) (none : A)
    → (none ≡ f → ⊥) → (c ≡ false → (d ≡ false) × (w ≡ v))
    → chosen a b c x none none v ≡ f → chosen a b d x none none w ≡ f
more_chosen true b c d x v w f none n h e = e
more_chosen false true c d x v w f none n h e = e
more_chosen false false true d x v w f none n h e = absurd (n e)
more_chosen false false false d x v w f none n h e = let g = h refl in rw g.0 (g.1 ∙ e)

same_chosen : {A : Type 0} (a b c d : Bool) (x v w none : A)
    → (b ≡ false → (c ≡ false) × (d ≡ false) × (w ≡ v)) → chosen a b d x none none w ≡ chosen a b c x none none v
same_chosen true b c d x v w none h = refl
same_chosen false true c d x v w none h = refl
same_chosen false false c d x v w none h = let g = h refl in rw (g.0, g.1) g.2

-- ---- the number

pub number_more : (w ys : List ℕ) (n : ℕ × ℕ) → number_at w ≡ Some n → number_at (w ++ ys) ≡ Some n
number_more [] ys n e = cc
number_more (h ∷ w) ys n e =
    more_chosen (nat_lt h 128) (nat_lt h 248) (nat_lt (length w) (256 - h)) (nat_lt (length (w ++ ys)) (256 - h)) _
    (with_digits (256 - h) (take (256 - h) w)) (with_digits (256 - h) (take (256 - h) (w ++ ys))) (Some n) None
    (λ z. cc)
    (λ t. let l : 256 - h ≤ length w = ltb-false (length w) (256 - h) t in (
      le-ltb (length (w ++ ys)) (256 - h) (omega (arith, length-append w ys)),
      ap (with_digits (256 - h)) (take-append-le (256 - h) w ys l),
    )) e

number_long : (w ys : List ℕ) → 9 ≤ length w → number_at (w ++ ys) ≡ number_at w
number_long [] ys m = absurd (omega arith)
number_long (h ∷ w) ys m =
    same_chosen (nat_lt h 128) (nat_lt h 248) (nat_lt (length w) (256 - h)) (nat_lt (length (w ++ ys)) (256 - h)) _
    (with_digits (256 - h) (take (256 - h) w)) (with_digits (256 - h) (take (256 - h) (w ++ ys))) None
    (λ t. let f = ltb-false h 248 t in let l : 256 - h ≤ length w = omega arith in (
      le-ltb (length w) (256 - h) l,
      le-ltb (length (w ++ ys)) (256 - h) (omega (arith, length-append w ys)),
      ap (with_digits (256 - h)) (take-append-le (256 - h) w ys l),
    ))

-- ---- the item

range_more : (w ys : List ℕ) (a e : ℕ) → a ≤ e → e ≤ length w → slice_range (w ++ ys) a e ≡ slice_range w a e
range_more w ys a e l m =
    let s = length-drop a w in
    ap (take (e - a)) (drop-append-le a w ys (omega arith)) ∙ take-append-le (e - a) (drop a w) ys (omega arith)

sized : Bool → ℕ → Front
sized b n = cond b (front.Definition n) (front.Plain n)

size_more : (w ys : List ℕ) (a n : ℕ) (f : Front) → a ≤ n → (front.Nothing ≡ f → ⊥) → of_size w a n ≡ f
    → of_size (w ++ ys) a n ≡ f
unfolding sized
size_more w ys a n f l z e =
    more_chosen (nat_lt 65536 n) false (nat_lt (length w) n) (nat_lt (length (w ++ ys)) n) (front.Plain n)
    (sized (is_definition (slice_range w a n)) n) (sized (is_definition (slice_range (w ++ ys) a n)) n) f
    front.Nothing z
    (λ t. let m = ltb-false (length w) n t in (
      le-ltb (length (w ++ ys)) n (omega (arith, length-append w ys)),
      ap (λ r. sized (is_definition r) n) (range_more w ys a n l m),
    )) e

size_long : (w ys : List ℕ) (a n : ℕ) → a ≤ n → 65536 ≤ length w → of_size (w ++ ys) a n ≡ of_size w a n
unfolding sized
size_long w ys a n l m = by (nat_lt 65536 n) refl
  where
    by : (b : Bool) → nat_lt 65536 n ≡ b → of_size (w ++ ys) a n ≡ of_size w a n
    by true t = rw t refl
    by false t =
        let k = ltb-false 65536 n t in
        let s = length-append w ys in
        rw (
          t,
          le-ltb (length (w ++ ys)) n (omega arith),
          le-ltb (length w) n (omega arith),
          range_more w ys a n l (omega arith),
        ) refl

pub front_more : (w ys : List ℕ) (f : Front) → (front.Nothing ≡ f → ⊥) → front_at w ≡ f → front_at (w ++ ys) ≡ f
front_more w ys f z e = by (number_at w) refl
  where
    by : (r : Option (ℕ × ℕ)) → number_at w ≡ r → front_at (w ++ ys) ≡ f
    by None p = absurd (z (sym (ap (of_count w) p) ∙ e))
    by (Some n) p =
        ap (of_count (w ++ ys)) (number_more w ys n p)
        ∙ size_more w ys n.1 (n.0 + n.1) f (omega arith) z (sym (ap (of_count w) p) ∙ e)

pub front_long : (w ys : List ℕ) → 65536 ≤ length w → front_at (w ++ ys) ≡ front_at w
front_long w ys m = by (number_at w) refl
  where
    by : (r : Option (ℕ × ℕ)) → number_at w ≡ r → front_at (w ++ ys) ≡ front_at w
    by None p = ap (of_count (w ++ ys)) (number_long w ys (omega arith) ∙ p) ∙ sym (ap (of_count w) p)
    by (Some n) p =
        ap (of_count (w ++ ys)) (number_long w ys (omega arith) ∙ p)
        ∙ size_long w ys n.1 (n.0 + n.1) (omega arith) m ∙ sym (ap (of_count w) p)
