use Rattle.std.proofs.Common.{◌∙◌, Some, ap, sym}
use Rattle.gob_types.specs.Defined.{types}
use Rattle.gob_types.specs.declared.basic.Basic.{Basic}
use Rattle.gob_filled_match.proofs.NumberedLaws.{basic_is, no_basic}
use Rattle.gob_filled_match.proofs.numbered.NumberedShapes.basic_of.Goals as goal

pub returns-in_err-basic : goal.returns-in_err-basic
returns-in_err-basic c =
    c.from_residual.ensures ∙ sym (no_basic (types c.args.self.now.table.now) c.args.id
    (sym c.basic_of.ensures ∙ c.in_err-basic.was))

pub returns : goal.returns
returns c =
    ap (λ (b : Basic). Some b) c.number_for.ensures ∙ sym (basic_is (types c.args.self.now.table.now) c.args.id
    (sym c.basic_of.ensures ∙ c.in_ok-basic.was))
