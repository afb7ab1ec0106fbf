use Rattle.std.proofs.Common.{◌∷◌, ap}
use Rattle.std.proofs.lemmas.Result.{on_ok_weaker}
use Rattle.gob_go_source.specs.declared.token.Token.{Token}
use Rattle.gob_go_source.specs.Declarations.{declares_types}
use Rattle.gob_go_source.specs.Left.{left}
use Rattle.gob_go_source.proofs.DeclarationLaws.{declares_none, weaker}
use Rattle.gob_go_source.proofs.declarations.read_top.Goals as goal

pub returns-in-Type-clause-says : goal.returns-in-Type-clause-says
returns-in-Type-clause-says c =
    on_ok_weaker c.read_types.result
    (λ s. weaker (λ ds t. declares_types (ap (λ (x : Token). x ∷ left c.args.tokens.now) c.in-Type.is) t) s)
    c.read_types.ensures.says

pub returns-in-Mark-clause-says : goal.returns-in-Mark-clause-says
returns-in-Mark-clause-says c =
    on_ok_weaker c.pass_over.result
    (declares_none c.args.types.now.items _ c.args.first (left c.args.tokens.now) (left c.pass_over.new.tokens)
    c.args.declarations.now.items c.in-Mark.is)
    c.pass_over.ensures
