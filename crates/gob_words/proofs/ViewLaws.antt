-- What is read of clap's matches where something is to be shown.
use Rattle.std.proofs.Common.{rules, ◌≡◌, ◌≢◌, ◌∙◌, [], ◌≤◌, ap, sym, refl, codes, ℕ, List, Option, Some}
use Rattle.std.proofs.Common.{None, Result, Ok, Err, option_map, slice_index, subst, ◌==◌, if◌then◌else◌, MatchResult}
use Rattle.std.proofs.Common.{IsErrAnd, IfOk, MatchBool, Bool, true, false, inl, inr, unwrap_or, ◌⊎◌}
use Rattle.clap.specs.Words.{Row, Text, all_of, first_of, subcommand_of, takes, fault_of, kind_of, HasKind, IsAmong}
use Rattle.clap.specs.declared.error.Error.{Error}
use Rattle.clap.specs.declared.error.kind.ErrorKind.{ErrorKind}
use Rattle.clap.specs.declared.error.kind.ErrorKind.TheVariants.{DisplayHelp, DisplayVersion, OutOfMemory}
use Rattle.gob_words.specs.declared.words.OrderFault.{OrderFault}
use Rattle.gob_words.specs.declared.words.OrderFault.TheVariants as fault
use Rattle.gob_words.specs.declared.view.View.{View}
use Rattle.gob_words.specs.declared.view.ViewCommand.{ViewCommand}
use Rattle.gob_words.specs.declared.view.ViewCommand.TheVariants.{Values, Types, Why, Explain, Verify, Salvage, Version}
use Rattle.gob_words.specs.declared.view.ViewCommand.TheVariants.{Write, Make, Split, Join, ShowGo, CheckGo, RewriteGo}
use Rattle.gob_words.specs.declared.view.ViewFault.{ViewFault}
use Rattle.gob_words.specs.declared.view.ViewFault.TheVariants as view_fault
use Rattle.gob_words.specs.Words.{HasNoFault, IsNumber, IsFaultOf, IsSet, program}
use Rattle.gob_words.specs.Views.{AsksToView, IsAskedFor, IsPlaceOf, IsViewFaultOf, IsViewOf, IsWordAtFault}
use Rattle.gob_words.specs.Views.{AsksForNothing, IsGiven, IsNoView, RefusesToView, SaysNoKinds, kind_words_in}
use Rattle.gob_words.specs.Views.{IsVersionView, view_name, words_in}
use Rattle.gob_words.specs.ViewDepths.{greatest_view_depth}
use Rattle.gob_words.proofs.WordLaws.{name_met, rows_met, some_fault, the_one, together}

-- ---- names

-- the command of this name, by its first letter, its second one or its fourth
abbrev having : (first second fourth : ℕ) → ViewCommand
having first c fourth =
    if first == 109 then Make else (if first == 99 then CheckGo else (if first == 106 then Join
    else (if first == 115 then (if c == 97 then Salvage else (if c == 112 then Split else ShowGo))
    else (if first == 114 then RewriteGo else (if first == 119 then (if c == 114 then Write else Why)
    else (if c == 97 then Values
    else (if c == 121 then Types else (if c == 120 then Explain
    else (if fourth == 105 then Verify else Version)))))))))

abbrev having_name : Text → ViewCommand
having_name name = having (slice_index name 0) (slice_index name 1) (slice_index name 3)

has : (a : ViewCommand) → having_name (view_name a) ≡ a
has Values = refl
has Types = refl
has Why = refl
has Explain = refl
has Verify = refl
has Salvage = refl
has Split = refl
has Join = refl
has Write = refl
has Make = refl
has Version = refl
has ShowGo = refl
has CheckGo = refl
has RewriteGo = refl

one_view : (a b : ViewCommand) → view_name a ≡ view_name b → a ≡ b
one_view a b e = sym (has a) ∙ ap having_name e ∙ has b

-- ---- what was met

-- a command's name and rows that were met apart were met together
pub views_together : {X : Type 0} (f : X → Text) (g : X → List Row) (met : Option X) (name : Text) (rows : List Row)
    (command : ViewCommand) → Some name ≡ option_map f met
    → Some rows ≡ option_map (λ (p : Text × List Row). p.1) (option_map {U = Text × List Row} (λ b. (f b, g b)) met)
    → view_name command ≡ name
    → option_map {U = Text × List Row} (λ b. (f b, g b)) met ≡ Some (view_name command, rows)
views_together f g met name rows command p q e = rw e (together f g met name rows p q)

-- what a view that was met has
pub record ViewMeets (command : ViewCommand) (rows : List Row) (view : View) : Type 0 where
  pub depth : IsNumber (first_of (codes "depth") rows) 1000 view.depth
  pub item : IsNumber (first_of (codes "item") rows) 67108864 view.item
  pub least : 1 ≤ view.depth
  pub most : view.depth ≤ greatest_view_depth
  pub at : IsPlaceOf command (first_of (codes "at") rows) view.at
  pub asked : IsAskedFor command (first_of (codes "go") rows) (first_of (codes "hoist") rows)
      (first_of (codes "salvage") rows)
  pub line : IsNumber (first_of (codes "line") rows) 268435456 view.line

pub view_meets : (met : Option (Text × List Row)) (command : ViewCommand) (rows : List Row) (view : View)
    → met ≡ Some (view_name command, rows) → IsViewOf met view → ViewMeets command rows view
view_meets met command rows view e h =
    let same : h.rows ≡ rows = ap rows_met (sym h.command ∙ e) in
    let one = one_view view.command command (ap name_met (sym h.command ∙ e)) in
    record {
      depth = subst (λ r. IsNumber (first_of (codes "depth") r) 1000 view.depth) same h.depth;
      item = subst (λ r. IsNumber (first_of (codes "item") r) 67108864 view.item) same h.item;
      least = h.least;
      most = h.most;
      at = subst (λ c. IsPlaceOf c (first_of (codes "at") rows) view.at) one
          (subst (λ r. IsPlaceOf view.command (first_of (codes "at") r) view.at) same h.at);
      line = subst (λ r. IsNumber (first_of (codes "line") r) 268435456 view.line) same h.line;
      asked = subst (λ c. IsAskedFor c (first_of (codes "go") rows) (first_of (codes "hoist") rows)
          (first_of (codes "salvage") rows)) one
          (subst (λ r. IsAskedFor view.command (first_of (codes "go") r) (first_of (codes "hoist") r)
          (first_of (codes "salvage") r)) same h.asked);
    }

-- equal words ask alike
pub asked_alike : (command : ViewCommand) (go go' hoist hoist' salvage salvage' : Option Text) → go ≡ go'
    → hoist ≡ hoist' → salvage ≡ salvage' → IsAskedFor command go hoist salvage → IsAskedFor command go' hoist' salvage'
asked_alike command go go' hoist hoist' salvage salvage' e f d h = subst (λ w. IsAskedFor command go' hoist' w) d
    (subst (λ w. IsAskedFor command go' w salvage) f (subst (λ w. IsAskedFor command w hoist salvage) e h))

-- the words that what was met gives for this are those of its rows
pub words_met : (name : Text) (met : Option (Text × List Row)) (rows : List Row) (words : Option (List Text))
    → Some rows ≡ option_map (λ (p : Text × List Row). p.1) met → words ≡ all_of name rows
    → unwrap_or words [] ≡ words_in name met
words_met name None rows words p q = search rules
words_met name (Some met) rows words p q =
    let same : rows ≡ met.1 = cc in
    ap (λ (o : Option (List Text)). unwrap_or o []) (q ∙ ap (λ (r : List Row). all_of name r) same)

-- nothing was met, so no word was
pub no_words_met : (name : Text) (met : Option (Text × List Row))
    → None ≡ option_map (λ (p : Text × List Row). p.1) met → words_in name met ≡ []
no_words_met name None e = refl
no_words_met name (Some met) e = search rules

-- a flag is given where its word is set
pub given_as_set : (value word : Option Text) (flag : Bool) → value ≡ word
    → MatchBool flag (IsSet value) (¬ IsSet value) → IsGiven word flag
given_as_set value word true e h = record { given = λ _. refl; absent = λ other. absurd (other (sym e ∙ h)) }
given_as_set value word false e h = record { given = λ is. absurd (h (e ∙ is)); absent = λ _. refl }

-- where clap finds no fault it gives no error, but for want of memory
pub no_kind : (words : List Text) (error : Error) → HasNoFault words → kind_of error ≢ OutOfMemory
    → HasKind (fault_of program words) error → ⊥
unfolding HasNoFault
no_kind words error none other (inl lost) = other lost
no_kind words error none other (inr among) = subst (λ kinds. IsAmong (kind_of error) kinds) none among

-- ---- the ends

asks_as_met : (words : List Text) (met : Option (Text × List Row)) (view : View)
    → met ≡ subcommand_of program words → IsViewOf met view → AsksToView words view
unfolding AsksToView
asks_as_met words met view e h = inl (subst (λ m. IsViewOf m view) e h)

-- words that clap takes, and with which nothing was met, ask for nothing
asks_as_unmet : (words : List Text) (met : Option (Text × List Row)) → met ≡ subcommand_of program words
    → fault_of program words ≡ [] → ((view : View) → ¬ IsViewOf met view) → AsksForNothing words
asks_as_unmet words met e none h = (
  λ taken view asked. h view (subst (λ m. IsViewOf m view) (sym e) asked),
  λ asks. some_fault _ _ (sym asks ∙ none),
  λ asks. some_fault _ _ (sym asks ∙ none),
)

-- nothing is asked for, so a word is wrong
pub no_view : (met : Option (Text × List Row)) (fault : ViewFault) → ((view : View) → ¬ IsViewOf met view)
    → IsWordAtFault fault → IsNoView met fault
no_view met (view_fault.Word line) none is = (none, is)
no_view met (view_fault.Order (fault.Help text)) none is = absurd is
no_view met (view_fault.Order fault.Words) none is = (none, is)
no_view met (view_fault.Order fault.Memory) none is = tt

-- nor where a word says nothing of a type
pub no_view_without_kinds : (met : Option (Text × List Row)) (fault : ViewFault)
    → SaysNoKinds (kind_words_in met) fault → IsNoView met fault
no_view_without_kinds met (view_fault.Word line) h = (λ view is. h.0 view.kinds.items is.kinds, h.1)
no_view_without_kinds met (view_fault.Order (fault.Help text)) h = absurd h.1
no_view_without_kinds met (view_fault.Order fault.Words) h = (λ view is. h.0 view.kinds.items is.kinds, h.1)
no_view_without_kinds met (view_fault.Order fault.Memory) h = tt

refuses_as_met : (words : List Text) (met : Option (Text × List Row)) (fault : ViewFault)
    → met ≡ subcommand_of program words → fault_of program words ≡ [] → IsNoView met fault → RefusesToView words fault
unfolding RefusesToView
refuses_as_met words met (view_fault.Word line) e none h = (asks_as_unmet words met e none h.0, h.1)
refuses_as_met words met (view_fault.Order (fault.Help text)) e none h = absurd h.1
refuses_as_met words met (view_fault.Order fault.Words) e none h = asks_as_unmet words met e none h.0
refuses_as_met words met (view_fault.Order fault.Memory) e none h = tt

-- what was met of words in which clap finds no fault is what they ask for
pub answers_as_met : (words : List Text) (met : Option (Text × List Row)) (r : Result View ViewFault)
    → met ≡ subcommand_of program words → fault_of program words ≡ [] → MatchResult r (IsViewOf met) (IsNoView met)
    → MatchResult r (AsksToView words) (RefusesToView words)
answers_as_met words met (Ok view) e none h = asks_as_met words met view e h
answers_as_met words met (Err fault) e none h = refuses_as_met words met fault e none h

pub accepted_as_met : (words : List Text) (r : Result View ViewFault) → fault_of program words ≡ []
    → IfOk r (λ view. HasNoFault words ⊎ IsVersionView view)
unfolding HasNoFault
accepted_as_met words (Ok view) none = inl none
accepted_as_met words (Err fault) none = tt

-- words that clap refuses by such an error ask for nothing
asks_as_refused : (words : List Text) (error : Error) → (kind_of error ≢ OutOfMemory) × (kind_of error ≢ DisplayHelp)
    → kind_of error ≢ DisplayVersion → (takes program words ≡ true → kind_of error ≡ OutOfMemory)
    → HasKind (fault_of program words) error → AsksForNothing words
asks_as_refused words error is other passes (inl lost) = absurd (is.0 lost)
asks_as_refused words error is other passes (inr among) = (
  λ taken view asked. is.0 (passes taken),
  λ asks. is.1 (the_one _ _ _ asks among),
  λ asks. other (the_one _ _ _ asks among),
)

-- the fault of words that clap refuses
pub refuses_as_shown : (words : List Text) (error : Error) (fault : ViewFault) → IsViewFaultOf (kind_of error) fault
    → kind_of error ≢ DisplayVersion → (takes program words ≡ true → kind_of error ≡ OutOfMemory)
    → HasKind (fault_of program words) error → RefusesToView words fault
unfolding RefusesToView
refuses_as_shown words error (view_fault.Word line) is other passes kinds =
    (asks_as_refused words error (is.0, is.1) other passes kinds, is.2)
refuses_as_shown words error (view_fault.Order (fault.Help text)) is other passes (inl lost) = absurd (search rules)
refuses_as_shown words error (view_fault.Order (fault.Help text)) is other passes (inr among) =
    subst (λ kind. IsAmong kind (fault_of program words)) is among
refuses_as_shown words error (view_fault.Order fault.Words) is other passes kinds =
    asks_as_refused words error is other passes kinds
refuses_as_shown words error (view_fault.Order fault.Memory) is other passes kinds = tt

-- want of memory says nothing of the words
pub no_view_without_memory : (words : List Text) (r : Result View ViewFault)
    → IsErrAnd r (λ given. given ≡ view_fault.Order fault.Memory)
    → MatchResult r (AsksToView words) (RefusesToView words)
unfolding RefusesToView
no_view_without_memory words (Ok view) e = elim e [ ]
no_view_without_memory words (Err given) e = subst (RefusesToView words) (sym e) tt

-- what clap's answer gives, where no line is made of it
pub shown_as_order : (shown : Option Text) (kind : ErrorKind) (given : OrderFault) → IsFaultOf kind shown given
    → IsViewFaultOf kind (view_fault.Order given)
shown_as_order shown kind (fault.Help text) is = is.0
shown_as_order shown kind fault.Words is = is
shown_as_order shown kind fault.Memory is = tt

-- the version is asked for by its option
pub asks_for_version : (words : List Text) (error : Error) (view : View) → IsVersionView view
    → kind_of error ≡ DisplayVersion → HasKind (fault_of program words) error → AsksToView words view
unfolding AsksToView
asks_for_version words error view is e (inl lost) = absurd (search rules)
asks_for_version words error view is e (inr among) =
    inr (is, subst (λ kind. IsAmong kind (fault_of program words)) e among)
