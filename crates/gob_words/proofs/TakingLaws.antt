-- What is read of clap's matches where `take --go` is asked for.
use Rattle.std.proofs.Common.{rules, ◌≡◌, ◌≢◌, ◌∙◌, [], ◌≤◌, ap, sym, refl, codes, is_some, List, Option, Some, None}
use Rattle.std.proofs.Common.{Result, Ok, Err, subst, MatchResult, IsErrAnd, IfOk, true, false, inl, inr}
use Rattle.clap.specs.Words.{Row, Text, first_of, subcommand_of, takes, fault_of, kind_of, HasKind, IsAmong}
use Rattle.clap.specs.declared.error.Error.{Error}
use Rattle.clap.specs.declared.error.kind.ErrorKind.TheVariants.{DisplayHelp, OutOfMemory}
use Rattle.gob_words.specs.Depths.{wants_type}
use Rattle.gob_words.specs.declared.words.Order.{Order}
use Rattle.gob_words.specs.declared.words.OrderFault.TheVariants as fault
use Rattle.gob_words.specs.declared.view.ViewFault.{ViewFault}
use Rattle.gob_words.specs.declared.view.ViewFault.TheVariants as view_fault
use Rattle.gob_words.specs.Taking.{AsksForNoGoTaking, AsksToTakeGo, IsGoTaking, IsGoTakingOf, IsNoGoTaking}
use Rattle.gob_words.specs.Taking.{RefusesToTakeGo}
use Rattle.gob_words.specs.Views.{IsViewFaultOf, IsWordAtFault}
use Rattle.gob_words.specs.Words.{HasNoFault, IsNumber, program, text_of}
use Rattle.gob_words.proofs.WordLaws.{name_met, rows_met, some_fault, the_one, there_as_text}

-- what an order that was met has
pub record TakingMeets (name : Text) (rows : List Row) (order : Order) : Type 0 where
  pub go : IsGoTaking name (first_of (codes "go") rows)
  pub depth : IsNumber (first_of (codes "depth") rows) 1000 order.depth
  pub item : IsNumber (first_of (codes "item") rows) 67108864 order.item
  pub least : 1 ≤ order.depth
  pub most : order.depth ≤ 1000
  pub wanted : first_of (codes "WANTED") rows ≢ None

-- the command has a wanted file
has_wanted : (rows : List Row) (order : Order) (met : Option (Text × List Row)) (h : IsGoTakingOf met order)
    → first_of (codes "WANTED") h.rows ≢ None
has_wanted rows order met h none =
    let there = sym (there_as_text order.wanted) ∙ ap is_some (h.wanted ∙ none) in
    let wants = sym there ∙ order.wants ∙ ap wants_type h.takes in
    absurd (search (rules, wants))

pub taking_meets : (met : Option (Text × List Row)) (name : Text) (rows : List Row) (order : Order)
    → met ≡ Some (name, rows) → IsGoTakingOf met order → TakingMeets name rows order
taking_meets met name rows order e h =
    let same : h.rows ≡ rows = ap rows_met (sym h.command ∙ e) in
    let named : h.name ≡ name = ap name_met (sym h.command ∙ e) in
    record {
      go = subst (λ n. IsGoTaking n (first_of (codes "go") rows)) named
          (subst (λ r. IsGoTaking h.name (first_of (codes "go") r)) same h.go);
      depth = subst (λ r. IsNumber (first_of (codes "depth") r) 1000 order.depth) same h.depth;
      item = subst (λ r. IsNumber (first_of (codes "item") r) 67108864 order.item) same h.item;
      least = h.least;
      most = h.most;
      wanted = subst (λ r. first_of (codes "WANTED") r ≢ None) same (has_wanted rows order met h);
    }

-- equal words ask alike
pub taking_alike : (name : Text) (go other : Option Text) → go ≡ other → IsGoTaking name go → IsGoTaking name other
taking_alike name go other e h = (h.0, subst (λ w. w ≡ Some (codes "true")) e h.1)

-- ---- the ends

-- words that clap takes, and with which no such order was met, ask for none
asks_as_unmet : (words : List Text) (met : Option (Text × List Row)) → met ≡ subcommand_of program words
    → fault_of program words ≡ [] → ((order : Order) → ¬ IsGoTakingOf met order) → AsksForNoGoTaking words
asks_as_unmet words met e none h = (
  λ taken order asked. h order (subst (λ m. IsGoTakingOf m order) (sym e) asked),
  λ asks. some_fault _ _ (sym asks ∙ none),
)

-- no such order was met, so a word is wrong
pub no_taking : (met : Option (Text × List Row)) (fault : ViewFault) → ((order : Order) → ¬ IsGoTakingOf met order)
    → IsWordAtFault fault → IsNoGoTaking met fault
no_taking met (view_fault.Word line) none is = (none, is)
no_taking met (view_fault.Order (fault.Help text)) none is = absurd is
no_taking met (view_fault.Order fault.Words) none is = (none, is)
no_taking met (view_fault.Order fault.Memory) none is = tt

refuses_as_met : (words : List Text) (met : Option (Text × List Row)) (fault : ViewFault)
    → met ≡ subcommand_of program words → fault_of program words ≡ [] → IsNoGoTaking met fault
    → RefusesToTakeGo words fault
unfolding RefusesToTakeGo
refuses_as_met words met (view_fault.Word line) e none h = (asks_as_unmet words met e none h.0, h.1)
refuses_as_met words met (view_fault.Order (fault.Help text)) e none h = absurd h.1
refuses_as_met words met (view_fault.Order fault.Words) e none h = asks_as_unmet words met e none h.0
refuses_as_met words met (view_fault.Order fault.Memory) e none h = tt

-- what was met of words in which clap finds no fault is what they ask for
pub taking_answers_as_met : (words : List Text) (met : Option (Text × List Row)) (r : Result Order ViewFault)
    → met ≡ subcommand_of program words → fault_of program words ≡ []
    → MatchResult r (IsGoTakingOf met) (IsNoGoTaking met)
    → MatchResult r (AsksToTakeGo words) (RefusesToTakeGo words)
unfolding AsksToTakeGo
taking_answers_as_met words met (Ok order) e none h = subst (λ m. IsGoTakingOf m order) e h
taking_answers_as_met words met (Err fault) e none h = refuses_as_met words met fault e none h

pub taking_accepted_as_met : (words : List Text) (r : Result Order ViewFault) → fault_of program words ≡ []
    → IfOk r (λ _. HasNoFault words)
unfolding HasNoFault
taking_accepted_as_met words (Ok order) none = none
taking_accepted_as_met words (Err fault) none = tt

-- words that clap refuses by such an error ask for none
asks_as_refused : (words : List Text) (error : Error) → (kind_of error ≢ OutOfMemory) × (kind_of error ≢ DisplayHelp)
    → (takes program words ≡ true → kind_of error ≡ OutOfMemory)
    → HasKind (fault_of program words) error → AsksForNoGoTaking words
asks_as_refused words error is passes (inl lost) = absurd (is.0 lost)
asks_as_refused words error is passes (inr among) = (
  λ taken order asked. is.0 (passes taken),
  λ asks. is.1 (the_one _ _ _ asks among),
)

-- the fault of words that clap refuses
pub taking_refused_as_shown : (words : List Text) (error : Error) (fault : ViewFault)
    → IsViewFaultOf (kind_of error) fault → (takes program words ≡ true → kind_of error ≡ OutOfMemory)
    → HasKind (fault_of program words) error → RefusesToTakeGo words fault
unfolding RefusesToTakeGo
taking_refused_as_shown words error (view_fault.Word line) is passes kinds =
    (asks_as_refused words error (is.0, is.1) passes kinds, is.2)
taking_refused_as_shown words error (view_fault.Order (fault.Help text)) is passes (inl lost) = absurd (search rules)
taking_refused_as_shown words error (view_fault.Order (fault.Help text)) is passes (inr among) =
    subst (λ kind. IsAmong kind (fault_of program words)) is among
taking_refused_as_shown words error (view_fault.Order fault.Words) is passes kinds =
    asks_as_refused words error is passes kinds
taking_refused_as_shown words error (view_fault.Order fault.Memory) is passes kinds = tt

-- want of memory says nothing of the words
pub no_taking_without_memory : (words : List Text) (r : Result Order ViewFault)
    → IsErrAnd r (λ given. given ≡ view_fault.Order fault.Memory)
    → MatchResult r (AsksToTakeGo words) (RefusesToTakeGo words)
unfolding RefusesToTakeGo
no_taking_without_memory words (Ok order) e = elim e [ ]
no_taking_without_memory words (Err given) e = subst (RefusesToTakeGo words) (sym e) tt
