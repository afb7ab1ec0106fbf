-- Words that say sizes, and what is read of clap's matches where a stream is to be split.
use Rattle.std.proofs.Common.{refl, ◌≡◌, ◌≢◌, ◌∙◌, ◌<◌, ap, sym, subst, ℕ, List, [], ◌∷◌, ◌++◌, length, arith}
use Rattle.std.proofs.Common.{Option, Some, None, Result, Ok, Err, MatchOption, MatchResult, IsErrAnd, inr, codes}
use Rattle.std.proofs.lemmas.List.{same_from_push, length_push}
use Rattle.std.proofs.lemmas.List.Elements.{All-get_or}
use Rattle.std.proofs.Math.Seq.{get_or-append_seam}
use Rattle.std.specs.Borrow.{Bor}
use Rattle.std.specs.List.{All}
use Rattle.clap.specs.Words.{Row, Text, first_of}
use Rattle.gob_words.specs.Splitting.{AreUnits, AsksToSplit, IsPartSize, IsSizeWord, in_bytes, in_units, IsUnit}
use Rattle.gob_words.specs.Splitting.{kilo, mega, giga, RefusesToSplit}
use Rattle.gob_words.specs.Words.{IsDigit, IsNumber, text_of}
use Rattle.gob_words.specs.declared.splitting.PartWords.{PartWords}
use Rattle.gob_words.specs.declared.splitting.Splitting.{Splitting}
use Rattle.gob_words.specs.declared.view.ViewFault.{ViewFault}
use Rattle.gob_words.specs.declared.view.ViewFault.TheVariants as view_fault
use Rattle.gob_words.specs.declared.words.OrderFault.TheVariants as fault
use Rattle.gob_words.proofs.WordLaws.{rows_met}

-- ---- one word

no_digit : {letter unit : ℕ} → IsUnit letter unit → IsDigit letter → ⊥
no_digit kilo d = omega (arith, d)
no_digit mega d = omega (arith, d)
no_digit giga d = omega (arith, d)

-- a word that ends with the letter of a unit is no number
no_number : (word digits : Text) {letter unit : ℕ} → IsUnit letter unit → word ≡ digits ++ letter ∷ []
    → (n : ℕ) → ¬ IsNumber (Some word) 0 n
no_number word digits {letter = letter} u e n h =
    let all = subst (λ (w : Text). All IsDigit w) e h.1 in
    let less : length digits < length (digits ++ letter ∷ []) = omega (arith, length_push digits letter) in
    no_digit u (subst IsDigit (get_or-append_seam digits letter [] 0)
    (All-get_or IsDigit (digits ++ letter ∷ []) (length digits) 0 less all))

one_unit : {letter unit other : ℕ} → IsUnit letter unit → IsUnit letter other → unit ≡ other
one_unit kilo kilo = refl
one_unit mega mega = refl
one_unit giga giga = refl

no_size_in_unit : (word digits : Text) {letter unit : ℕ} → IsUnit letter unit → word ≡ digits ++ letter ∷ []
    → ((n : ℕ) → ¬ AreUnits digits unit n) → (n : ℕ) → ¬ IsSizeWord word n
no_size_in_unit word digits u e none n (in_bytes number) = no_number word digits u e n number
no_size_in_unit word digits {letter = letter} u e none n (in_units {digits = ds} {letter = l} {unit = k} f v are) =
    let same = same_from_push ds digits l letter (sym f ∙ e) in
    let w = subst (λ x. IsUnit x k) same.1 v in
    none n (subst (λ x. AreUnits digits x n) (one_unit w u) (subst (λ (d : Text). AreUnits d k n) same.0 are))

-- a word that ends so says what the digits before that do, in units
pub in_this_unit : (word digits : Text) {letter unit : ℕ} → IsUnit letter unit → word ≡ digits ++ letter ∷ []
    → (r : Option ℕ) → MatchOption r ((n : ℕ) → ¬ AreUnits digits unit n) (AreUnits digits unit)
    → MatchOption r ((n : ℕ) → ¬ IsSizeWord word n) (IsSizeWord word)
in_this_unit word digits u e None none = no_size_in_unit word digits u e none
in_this_unit word digits u e (Some n) are = in_units e u are

no_size_in_bytes : (word : Text) → ((front : Text) → word ≢ front ++ 75 ∷ [])
    → ((front : Text) → word ≢ front ++ 77 ∷ []) → ((front : Text) → word ≢ front ++ 71 ∷ [])
    → ((n : ℕ) → ¬ IsNumber (Some word) 0 n) → (n : ℕ) → ¬ IsSizeWord word n
no_size_in_bytes word k m g none n (in_bytes number) = none n number
no_size_in_bytes word k m g none n (in_units {digits = ds} f kilo are) = k ds f
no_size_in_bytes word k m g none n (in_units {digits = ds} f mega are) = m ds f
no_size_in_bytes word k m g none n (in_units {digits = ds} f giga are) = g ds f

-- a word that ends with no letter of a unit says a number of bytes
pub in_no_unit : (word : Text) → ((front : Text) → word ≢ front ++ 75 ∷ [])
    → ((front : Text) → word ≢ front ++ 77 ∷ []) → ((front : Text) → word ≢ front ++ 71 ∷ []) → (r : Option ℕ)
    → MatchOption r ((n : ℕ) → ¬ IsNumber (Some word) 0 n) (IsNumber (Some word) 0)
    → MatchOption r ((n : ℕ) → ¬ IsSizeWord word n) (IsSizeWord word)
in_no_unit word k m g None none = no_size_in_bytes word k m g none
in_no_unit word k m g (Some n) number = in_bytes number

-- ---- what was met

-- words that were met ask for the directory and the size that their rows say
pub record SplitMeets (rows : List Row) (given : Splitting) : Type 0 where
  pub directory : first_of (codes "DIR") rows ≡ Some given.directory.now
  pub size : IsPartSize (first_of (codes "size") rows) (first_of (codes "values") rows) given.size

pub split_meets : (met : Option (Text × List Row)) (name : Text) (rows : List Row) (given : Splitting)
    → met ≡ Some (name, rows) → AsksToSplit met given → SplitMeets rows given
split_meets met name rows given e h =
    let same : h.rows ≡ rows = ap rows_met (sym h.command ∙ e) in
    record {
      directory = subst (λ (r : List Row). first_of (codes "DIR") r ≡ Some given.directory.now) same h.directory;
      size = subst (λ (r : List Row). IsPartSize (first_of (codes "size") r) (first_of (codes "values") r) given.size)
          same h.size;
    }

-- the words of a size are read alike
pub sized_alike : (bytes other values another : Option Text) (given : PartWords) → bytes ≡ other → values ≡ another
    → IsPartSize bytes values given → IsPartSize other another given
sized_alike bytes other values another given e f h = subst (λ v. IsPartSize other v given) f
    (subst (λ b. IsPartSize b values given) e h)

-- want of memory says nothing of the words
pub no_split_without_memory : (met : Option (Text × List Row)) (r : Result Splitting ViewFault)
    → IsErrAnd r (λ given. given ≡ view_fault.Order fault.Memory)
    → MatchResult r (AsksToSplit met) (RefusesToSplit met)
no_split_without_memory met (Ok given) e = elim e [ ]
no_split_without_memory met (Err given) e = inr e

-- a word that says no size is that of no part
pub no_part_size : (bytes values : Option (Bor Text)) (word : Bor Text) → bytes ≡ Some word → values ≡ None
    → ((n : ℕ) → ¬ IsSizeWord word.now n) → (given : PartWords) → ¬ IsPartSize (text_of bytes) (text_of values) given
no_part_size bytes values word e f none given is =
    let h = subst (λ v. IsPartSize (Some word.now) (text_of v) given) f
    (subst (λ b. IsPartSize (text_of b) (text_of values) given) e is) in
    none h.0 h.2
