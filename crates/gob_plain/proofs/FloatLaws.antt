-- What a float is by its bits, and how JSON says it.
use Rattle.std.proofs.Common.{◌≡◌, ℕ, zero, suc, ◌+◌, ◌/◌, ◌%◌, ◌<◌, ◌≤◌, List, Bool, true, false, cond, eqb, leb, Some}
use Rattle.std.proofs.Common.{refl, sym, ap, ◌∙◌, subst, arith, true≢false}
use Rattle.std.specs.Prelude.{codes}
use Rattle.std.specs.Float.{float_is_finite}
use Rattle.std.specs.Float.Ieee.{Float, nan, inf, fin, binary64, of_bits, of_fields, odd}
use Rattle.std.proofs.lemmas.Bool.{eqb-true, lt-leb, le-leb}
use Rattle.ryu.specs.Parse.{parse_float}
use Rattle.ryu.specs.Plain.{IsPlainNumber}
use Rattle.json.specs.Json.{Json}
use Rattle.json.specs.Json as json
use Rattle.gob_plain.specs.Plain.{SaysFloat, SaysPattern}

odd_finite : (d : ℕ) (s : Bool) (q k l : ℕ) → float_is_finite (odd d s q k l) ≡ true
unfolding odd float_is_finite
odd_finite d s zero k l = refl
odd_finite d s (suc q) k l = refl

-- the exponent's field isn't all ones
below_ones : (s : Bool) (x t : ℕ) (all : Bool) → eqb (suc x) 2047 ≡ all → all ≡ false
    → float_is_finite (of_fields binary64 s (suc x) t) ≡ true
unfolding of_fields
below_ones s x t false e h =
    ap (λ b. float_is_finite (cond b (cond (eqb t 0) (inf s) nan) (odd 53 s (0x10_0000_0000_0000 + t) x 1074))) e
    ∙ odd_finite 53 s (0x10_0000_0000_0000 + t) x 1074
below_ones s x t true e h = absurd (true≢false h)

fields_finite : (s : Bool) (x t : ℕ) → x < 2047 → float_is_finite (of_fields binary64 s x t) ≡ true
unfolding of_fields
fields_finite s zero t h = odd_finite 53 s t 0 1074
fields_finite s (suc x) t h = below_ones s x t (eqb (suc x) 2047) refl (by (eqb (suc x) 2047) refl)
  where
    by : (b : Bool) → eqb (suc x) 2047 ≡ b → b ≡ false
    by false e = refl
    by true e = let is = eqb-true (suc x) 2047 e in absurd (omega arith)

pub finite_is : (b : ℕ) → b % 0x8000_0000_0000_0000 < 0x7ff0_0000_0000_0000
    → float_is_finite (of_bits binary64 b) ≡ true
unfolding of_bits
finite_is b h =
    fields_finite (leb 0x8000_0000_0000_0000 b) (b % 0x8000_0000_0000_0000 / 0x10_0000_0000_0000)
    (b % 0x10_0000_0000_0000)
    (omega arith)

-- the digits below all ones
nan_fields : (s : Bool) (x t : ℕ) (z : Bool) → x ≡ 2047 → eqb t 0 ≡ z → z ≡ false → of_fields binary64 s x t ≡ nan
unfolding of_fields
nan_fields s x t false e f h = ap (λ x. of_fields binary64 s x t) e ∙ ap (λ z. cond z (inf s) nan) f
nan_fields s x t true e f h = absurd (true≢false h)

inf_fields : (s : Bool) (x t : ℕ) → x ≡ 2047 → t ≡ 0 → of_fields binary64 s x t ≡ inf s
unfolding of_fields
inf_fields s x t e f = ap (λ x. of_fields binary64 s x t) e ∙ ap (λ t. cond (eqb t 0) (inf s) nan) f

pub nan_is : (b : ℕ) → 0x7ff0_0000_0000_0000 < b % 0x8000_0000_0000_0000 → of_bits binary64 b ≡ nan
unfolding of_bits
nan_is b h =
    nan_fields (leb 0x8000_0000_0000_0000 b) (b % 0x8000_0000_0000_0000 / 0x10_0000_0000_0000) (b % 0x10_0000_0000_0000)
    (eqb (b % 0x10_0000_0000_0000) 0) (omega arith) refl (by (eqb (b % 0x10_0000_0000_0000) 0) refl)
  where
    by : (z : Bool) → eqb (b % 0x10_0000_0000_0000) 0 ≡ z → z ≡ false
    by false e = refl
    by true e = let is = eqb-true (b % 0x10_0000_0000_0000) 0 e in absurd (omega arith)

pub inf_is : (b : ℕ) → b % 0x8000_0000_0000_0000 ≡ 0x7ff0_0000_0000_0000
    → of_bits binary64 b ≡ inf (leb 0x8000_0000_0000_0000 b)
unfolding of_bits
inf_is b h =
    inf_fields (leb 0x8000_0000_0000_0000 b) (b % 0x8000_0000_0000_0000 / 0x10_0000_0000_0000) (b % 0x10_0000_0000_0000)
    (omega arith) (omega arith)

-- ---- what is said of it

pub finite_says : (x : Float) (text : List ℕ) → float_is_finite x ≡ true → IsPlainNumber text
    → parse_float binary64 text ≡ Some x
    → SaysFloat x (json.number text)
unfolding float_is_finite
finite_says nan text h p q = absurd (true≢false (sym h))
finite_says (inf s) text h p q = absurd (true≢false (sym h))
finite_says (fin s m e) text h p q = (text, refl, p, q)

pub nan_says : (b : ℕ) → 0x7ff0_0000_0000_0000 < b % 0x8000_0000_0000_0000 → SaysPattern b (json.string (codes "NaN"))
nan_says b h = subst (λ x. SaysFloat x (json.string (codes "NaN"))) (sym (nan_is b h)) refl

infinite_says : (b : ℕ) (s : Bool) (name : List ℕ) → b % 0x8000_0000_0000_0000 ≡ 0x7ff0_0000_0000_0000
    → leb 0x8000_0000_0000_0000 b ≡ s → SaysFloat (inf s) (json.string name) → SaysPattern b (json.string name)
infinite_says b s name h e p =
    subst (λ x. SaysFloat x (json.string name)) (sym (inf_is b h ∙ ap (λ s. inf s) e)) p

pub positive_says : (b : ℕ) → b % 0x8000_0000_0000_0000 ≡ 0x7ff0_0000_0000_0000 → b < 0x8000_0000_0000_0000
    → SaysPattern b (json.string (codes "Infinity"))
positive_says b h l = infinite_says b false (codes "Infinity") h (lt-leb 0x8000_0000_0000_0000 b l) refl

pub negative_says : (b : ℕ) → b % 0x8000_0000_0000_0000 ≡ 0x7ff0_0000_0000_0000 → 0x8000_0000_0000_0000 ≤ b
    → SaysPattern b (json.string (codes "-Infinity"))
negative_says b h l = infinite_says b true (codes "-Infinity") h (le-leb 0x8000_0000_0000_0000 b l) refl
