-- JSON has no bad token.
use Rattle.std.proofs.Common.{◌≡◌, ◌∷◌, subst, sym}
use Rattle.json.specs.Reads.{token_of}
use Rattle.gob_plain.proofs.GoodTokens.{AreGood, json_good, not_bad}
use Rattle.gob_plain.proofs.fillers.copy_json.Goals as goal

pub returns-in-Bad-clause-tokens : goal.returns-in-Bad-clause-tokens
returns-in-Bad-clause-tokens c j e =
    absurd
    (not_bad (subst (λ t. c.tokens.reader ≡ token_of t ∷ c.next.new.self) c.in-Bad.is c.in-Some.ensures.value)
    (c.tokens.invariant.good (subst AreGood (sym e) (json_good j))))
