-- What the words ask for.
use Rattle.std.proofs.Common.{◌≡◌, List, Result, Ok, Err, MatchResult, IsErrAnd, inl, inr, subst, sym}
use Rattle.clap.specs.Words.{Text}
use Rattle.gob_words.specs.Taking.{RefusesToTakeGo}
use Rattle.gob_words.specs.Views.{RefusesToView}
use Rattle.gob_words.specs.declared.view.ViewFault.{ViewFault}
use Rattle.gob_words.specs.declared.view.ViewFault.TheVariants as fault
use Rattle.gob_words.specs.declared.words.OrderFault.TheVariants as order_fault
use Rattle.gob.specs.Asked.{AsksFor, RefusesAll, RefusesMaking, RefusesParts, RefusesShown}
use Rattle.gob.specs.declared.asked.Asked.{Asked}

-- want of memory says nothing of the words
pub asks_nothing_without_memory : (words : List Text) (r : Result Asked ViewFault)
    → IsErrAnd r (λ given. given ≡ fault.Order order_fault.Memory) → MatchResult r (AsksFor words) (RefusesShown words)
unfolding RefusesToView
asks_nothing_without_memory words (Ok asked) e = elim e [ ]
asks_nothing_without_memory words (Err given) e = subst (RefusesShown words) (sym e) (inl tt)

-- the words ask for nothing to be shown
refuses_shown : (words : List Text) (r : Result Asked ViewFault) (given : ViewFault)
    → IsErrAnd r (λ x. x ≡ given) → RefusesShown words given → MatchResult r (AsksFor words) (RefusesShown words)
refuses_shown words (Ok asked) given e h = elim e [ ]
refuses_shown words (Err x) given e h = subst (RefusesShown words) (sym e) h

-- for no view
pub refuses_view : (words : List Text) (r : Result Asked ViewFault) (given : ViewFault)
    → IsErrAnd r (λ x. x ≡ given) → RefusesToView words given → MatchResult r (AsksFor words) (RefusesShown words)
refuses_view words r given e h = refuses_shown words r given e (inl h)

-- for parts of no size
pub refuses_parts : (words : List Text) (r : Result Asked ViewFault) (given : ViewFault)
    → IsErrAnd r (λ x. x ≡ given) → RefusesParts words given → MatchResult r (AsksFor words) (RefusesShown words)
refuses_parts words r given e h = refuses_shown words r given e (inr (inl h))

-- under no types
pub refuses_making : (words : List Text) (r : Result Asked ViewFault) (given : ViewFault)
    → IsErrAnd r (λ x. x ≡ given) → RefusesMaking words given → MatchResult r (AsksFor words) (RefusesShown words)
refuses_making words r given e h = refuses_shown words r given e (inr (inr h))

-- and nothing to be received
pub refuses_taking : (words : List Text) (r : Result Asked ViewFault) (given : ViewFault)
    → IsErrAnd r (λ x. x ≡ given) → RefusesShown words (fault.Order order_fault.Words) → RefusesToTakeGo words given
    → MatchResult r (AsksFor words) (RefusesAll words)
refuses_taking words (Ok asked) given e shown h = elim e [ ]
refuses_taking words (Err x) given e shown h = subst (RefusesAll words) (sym e) (of_taking given h)
  where
    of_taking : (given : ViewFault) → RefusesToTakeGo words given → RefusesAll words given
    of_taking (fault.Word line) h = inr (record { shown = shown; refuses = h })
    of_taking (fault.Order given) h = inr (inr (record { shown = shown; refuses = h }))
