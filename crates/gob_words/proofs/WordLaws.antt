-- Words and what they say.
use Rattle.std.proofs.Common.{rules, ◌≡◌, ◌∙◌, ◌<◌, ◌≤◌, ◌^◌, ap, ap₂, sym, is_some, refl, codes, ℕ, List, [], ◌∷◌}
use Rattle.std.proofs.Common.{Option, Some, None, Result, Ok, Err, option_map, MatchOption, slice_index, subst, ◌==◌}
use Rattle.std.proofs.Common.{if◌then◌else◌, ok_or, MatchResult, IfOk, IfSome, IsErrAnd, true, inl, inr, ◌++◌}
use Rattle.std.proofs.Common.{encode_utf8, length, arith}
use Rattle.std.specs.Result.{result_ok}
use Rattle.std.specs.List.{All}
use Rattle.std.specs.Str.Parse.{ParsesUnsigned, digits_value}
use Rattle.std.proofs.lemmas.List.{nil_from_length}
use Rattle.std.proofs.lemmas.List.Elements.{All-nil, All-head, All-tail, All-cons}
use Rattle.std.proofs.lemmas.Str.Parse.{IsDigitsTest, IsNumeralModel, numerals_by_value, parse_digits}
use Rattle.clap.specs.Words.{App, Row, Text, first_of, subcommand_of, takes, fault_of, is_simple, is_simple_and_free}
use Rattle.clap.specs.Words.{kind_of, HasKind, IsAmong}
use Rattle.clap.proofs.OnLiterals.{clap_on_literals}
use Rattle.clap.specs.declared.error.Error.{Error}
use Rattle.clap.specs.declared.error.kind.ErrorKind.{ErrorKind}
use Rattle.clap.specs.declared.error.kind.ErrorKind.TheVariants.{OutOfMemory}
use Rattle.gob_words.specs.declared.words.OrderFault.{OrderFault}
use Rattle.gob_words.specs.declared.words.OrderFault.TheVariants as fault
use Rattle.std.specs.Borrow.{Bor}
use Rattle.gob_words.specs.Depths.{most_depth}
use Rattle.gob_words.specs.Words.{IsDigit, IsNumber, IsOrderOf, IsSet, name_of, text_of, wanted_in}
use Rattle.gob_words.specs.Words.{Asks, IsFaultOf, IsWithoutLast, of_nothing, of_more, Refuses, program}
use Rattle.gob_words.specs.declared.words.Order.{Order}
use Rattle.gob_words.specs.declared.words.Chosen.{Chosen}
use Rattle.gob_words.specs.declared.words.Chosen.TheVariants.{Show, Check, Rewrite, Take, Convert}

-- ---- numbers

tells : IsDigitsTest (All IsDigit)
tells = record {
  empty = All-nil IsDigit;
  parts = λ c cs h. (All-head IsDigit c cs h, All-tail IsDigit c cs h);
  more = λ c cs one rest. All-cons IsDigit c cs one rest;
}

model : IsNumeralModel (All IsDigit) (digits_value 10)
model = numerals_by_value _ tells

-- what `parse` makes of digits
pub parsed_digits : {E : Type 0} (word : Text) (r : Result ℕ E) → ParsesUnsigned 64 10 word r → All IsDigit word
    → MatchOption (result_ok r) ((n : ℕ) → ¬ IsNumber (Some word) 0 n) (IsNumber (Some word) 0)
parsed_digits {E = E} word (Ok x) parses digits =
    let gives = parse_digits model {E = E} 64 word (Ok x) parses digits in
    (gives.0.0, digits, gives.1, subst (λ n. n < 2 ^ 64) (sym gives.1) gives.0.1)
parsed_digits {E = E} word (Err e) parses digits =
    let gives = parse_digits model {E = E} 64 word (Err e) parses digits in
    λ n h. gives (h.0, subst (λ x. x < 2 ^ 64) h.2 h.3)

-- an equal word writes the same numbers
pub writes_alike : (word other : Option Text) (usual n : ℕ) → word ≡ other → IsNumber word usual n
    → IsNumber other usual n
writes_alike word other usual n e h = subst (λ w. IsNumber w usual n) e h

-- a word writes one number
pub one_number : (word : Option Text) (usual n m : ℕ) → IsNumber word usual n → IsNumber word usual m → n ≡ m
one_number None usual n m h k = h ∙ sym k
one_number (Some word) usual n m h k = h.2 ∙ sym k.2

-- ---- names

-- the command whose name has this third letter
abbrev with_third : ℕ → Chosen
with_third c = if c == 111 then Show else (if c == 101 then Check else (if c == 119 then Rewrite else
    (if c == 107 then Take else Convert)))

third : (a : Chosen) → with_third (slice_index (name_of a) 2) ≡ a
third Show = refl
third Check = refl
third Rewrite = refl
third Take = refl
third Convert = refl

-- commands have different names
pub one_command : (a b : Chosen) → name_of a ≡ name_of b → a ≡ b
one_command a b e = sym (third a) ∙ ap (λ name. with_third (slice_index name 2)) e ∙ third b

-- ---- what was met

pub together : {X : Type 0} (f : X → Text) (g : X → List Row) (met : Option X) (name : Text) (rows : List Row)
    → Some name ≡ option_map f met
    → Some rows ≡ option_map (λ (p : Text × List Row). p.1) (option_map {U = Text × List Row} (λ b. (f b, g b)) met)
    → option_map {U = Text × List Row} (λ b. (f b, g b)) met ≡ Some (name, rows)
together f g (Some b) name rows p q = search rules
together f g None name rows p q = search rules

-- a command's name and rows that were met apart were met together
pub met_together : {X : Type 0} (f : X → Text) (g : X → List Row) (met : Option X) (name : Text) (rows : List Row)
    (command : Chosen) → Some name ≡ option_map f met
    → Some rows ≡ option_map (λ (p : Text × List Row). p.1) (option_map {U = Text × List Row} (λ b. (f b, g b)) met)
    → name_of command ≡ name
    → option_map {U = Text × List Row} (λ b. (f b, g b)) met ≡ Some (name_of command, rows)
met_together f g met name rows command p q e = rw e (together f g met name rows p q)

abbrev pub name_met : Option (Text × List Row) → Text
name_met None = []
name_met (Some met) = met.0

abbrev pub rows_met : Option (Text × List Row) → List Row
rows_met None = []
rows_met (Some met) = met.1

-- one command was met, with one list of rows
pub met_once : (met : Option (Text × List Row)) (a b : Chosen) (rows others : List Row)
    → met ≡ Some (name_of a, rows) → met ≡ Some (name_of b, others) → (a ≡ b) × (rows ≡ others)
met_once met a b rows others e f =
    (one_command a b (ap name_met (sym e ∙ f)), ap rows_met (sym e ∙ f))

-- what an order that was met has
pub record Meets (command : Chosen) (rows : List Row) (order : Order) : Type 0 where
  pub same : order.command ≡ command
  pub depth : IsNumber (first_of (codes "depth") rows) 1000 order.depth
  pub item : IsNumber (first_of (codes "item") rows) 67108864 order.item
  pub wanted : text_of order.wanted ≡ wanted_in command rows
  pub least : 1 ≤ order.depth
  pub most : order.depth ≤ most_depth command
  pub plain : ¬ IsSet (first_of (codes "go") rows)
  pub in_place : ¬ IsSet (first_of (codes "hoist") rows)
  pub quiet : ¬ IsSet (first_of (codes "progress") rows)
  pub whole : ¬ IsSet (first_of (codes "salvage") rows)

pub meets : (met : Option (Text × List Row)) (command : Chosen) (rows : List Row) (order : Order)
    → met ≡ Some (name_of command, rows) → IsOrderOf met order → Meets command rows order
meets met command rows order e h =
    let same = met_once met order.command command h.rows rows h.command e in
    record {
      same = same.0;
      depth = subst (λ r. IsNumber (first_of (codes "depth") r) 1000 order.depth) same.1 h.depth;
      item = subst (λ r. IsNumber (first_of (codes "item") r) 67108864 order.item) same.1 h.item;
      wanted = h.wanted ∙ ap₂ wanted_in same.0 same.1;
      least = h.least;
      most = subst (λ c. order.depth ≤ most_depth c) same.0 h.most;
      plain = subst (λ r. ¬ IsSet (first_of (codes "go") r)) same.1 h.plain;
      in_place = subst (λ r. ¬ IsSet (first_of (codes "hoist") r)) same.1 h.in_place;
      quiet = subst (λ r. ¬ IsSet (first_of (codes "progress") r)) same.1 h.quiet;
      whole = subst (λ r. ¬ IsSet (first_of (codes "salvage") r)) same.1 h.whole;
    }

-- a name is there where its text is
pub there_as_text : (o : Option (Bor Text)) → is_some (text_of o) ≡ is_some o
there_as_text None = refl
there_as_text (Some word) = refl

-- ---- what clap says of all words

-- the program is one of which clap says what words mean
pub simple : (app : App) → app ≡ program → is_simple app ≡ true
unfolding clap_on_literals
simple app e = ap is_simple e

pub simple_and_free : (app : App) → app ≡ program → is_simple_and_free app ≡ true
unfolding clap_on_literals
simple_and_free app e = ap is_simple_and_free e

-- a list with a kind isn't empty
pub some_fault : (k : ErrorKind) (rest : List ErrorKind) → k ∷ rest ≡ [] → ⊥
some_fault k rest e = search rules

-- clap's matches, and the order that they make
pub asks_what_is_met : (words : List Text) (met : Option (Text × List Row)) (order : Option Order)
    → met ≡ subcommand_of program words → fault_of program words ≡ []
    → MatchOption order ((o : Order) → ¬ IsOrderOf met o) (IsOrderOf met)
    → MatchResult (ok_or order fault.Words) (Asks words) (Refuses words)
unfolding Asks Refuses
asks_what_is_met words met (Some order) e none h = subst (λ m. IsOrderOf m order) e h
asks_what_is_met words met None e none h = (
  λ taken order asked. h order (subst (λ m. IsOrderOf m order) (sym e) asked),
  λ asks. some_fault _ _ (sym asks
      ∙ none),
)

-- of one kind alone comes that one
only : (k one : ErrorKind) → IsAmong k (one ∷ []) → k ≡ one
only k one (inl e) = e
only k one (inr none) = absurd none

pub the_one : (k one : ErrorKind) (kinds : List ErrorKind) → kinds ≡ one ∷ [] → IsAmong k kinds → k ≡ one
the_one k one kinds e among = only k one (subst (λ ks. IsAmong k ks) e among)

-- the fault of words that clap refuses
pub refuses_as_clap : (words : List Text) (error : Error) (shown : Option Text) (fault : OrderFault)
    → IsFaultOf (kind_of error) shown fault
    → (takes program words ≡ true → kind_of error ≡ OutOfMemory) → HasKind (fault_of program words) error
    → Refuses words fault
unfolding Refuses
refuses_as_clap words error shown (fault.Help text) is passes (inl lost) = absurd (search rules)
refuses_as_clap words error shown (fault.Help text) is passes (inr among) =
    subst (λ kind. IsAmong kind (fault_of program words)) is.0 among
refuses_as_clap words error shown fault.Words is passes (inl lost) = absurd (is.0 lost)
refuses_as_clap words error shown fault.Words is passes (inr among) =
    (λ taken order asked. is.0 (passes taken), λ asks. is.1 (the_one _ _ _ asks among))
refuses_as_clap words error shown fault.Memory is passes kinds = tt

-- what is left where the last character is taken off
pub without_last : (shown : Option Text) (old new : Text) (last : Option ℕ)
    → IfSome shown (λ bytes. old ≡ bytes) → IfSome last (λ c. old ≡ new ++ encode_utf8 c)
    → (last ≡ None → length old ≡ 0) → length new ≤ length old → IfSome shown (λ bytes. IsWithoutLast bytes new)
without_last None old new last e some none fewer = tt
without_last (Some bytes) old new (Some c) e some none fewer = of_more c (sym e ∙ some)
without_last (Some bytes) old new None e some none fewer =
    let empty = none refl in
    of_nothing (sym e ∙ nil_from_length old empty) (nil_from_length new (omega arith))

-- what holds of all results holds of one
pub on_ok : {T E : Type 0} {P : Type 0} (r : Result T E) → P → IfOk r (λ _. P)
on_ok (Ok x) p = p
on_ok (Err e) p = tt

-- want of memory says nothing of the words
pub refuses_without_memory : (words : List Text) (r : Result Order OrderFault)
    → IsErrAnd r (λ given. given ≡ fault.Memory) → MatchResult r (Asks words) (Refuses words)
unfolding Refuses
refuses_without_memory words (Ok order) e = elim e [ ]
refuses_without_memory words (Err given) e = subst (Refuses words) (sym e) tt
