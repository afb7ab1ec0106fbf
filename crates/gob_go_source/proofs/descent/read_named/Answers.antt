use Rattle.std.proofs.Common.{List, ◌∷◌, refl, ap, sym}
use Rattle.gob_go_source.specs.declared.token.Token.{Token}
use Rattle.gob_go_source.specs.declared.token.Token.TheVariants as token
use Rattle.gob_go_source.specs.Grammar.{says_name, says_qualified}
use Rattle.gob_go_source.proofs.GrammarLaws.{added}
use Rattle.gob_go_source.proofs.descent.read_named.Goals as goal

pub returns-then-not-takes-clause-says : goal.returns-then-not-takes-clause-says
returns-then-not-takes-clause-says c =
    says_name (added _ _ _ _ c.in_ok-add.ensures.place c.in_ok-add.ensures.added)
    (ap (λ (l : List Token). token.Name c.args.name ∷ l) (sym (c.takes.ensures.stays c.if-not-takes.true)))

pub returns-clause-says : goal.returns-clause-says
returns-clause-says c =
    says_qualified (added _ _ _ _ c.in_ok-add-2.ensures.place c.in_ok-add-2.ensures.added) refl
    (c.takes.ensures.taken c.if-not-takes.false) c.in_ok-own.ensures
