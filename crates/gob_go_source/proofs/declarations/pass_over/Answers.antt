use Rattle.std.proofs.Common.{◌∙◌, ◌∷◌, refl, ap, sym}
use Rattle.gob_go_source.specs.declared.token.Mark.{Mark}
use Rattle.gob_go_source.specs.declared.token.Token.TheVariants as token
use Rattle.gob_go_source.specs.Declarations.{names_package, passed_over}
use Rattle.gob_go_source.specs.Left.{left}
use Rattle.gob_go_source.proofs.declarations.pass_over.Goals as goal

pub returns-then-is_passed : goal.returns-then-is_passed
returns-then-is_passed c =
    passed_over refl (sym c.is_passed.ensures ∙ c.if-is_passed.true) c.in_ok-pass_declaration.ensures

pub returns : goal.returns
returns c = names_package
    (ap (λ (m : Mark). token.Mark m ∷ left c.args.tokens.now) (c.is_package.ensures c.if-not-is_package.false))
    c.in_ok-take_name.ensures c.in_ok-take_stop.ensures
