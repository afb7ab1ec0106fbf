-- Half of the number, or a definition.
use Rattle.std.proofs.Common.{◌/◌, arith, refl}
use Rattle.gob_explain.proofs.ItemLaws.{names_definition, names_value}
use Rattle.gob_explain.proofs.text.item.body_type.Goals as goal

pub returns-then-sign-eq0 : goal.returns-then-sign-eq0
returns-then-sign-eq0 c = λ bytes u.
    names_value c.args.number (c.args.number / 2) _ bytes (omega (arith, c.if-sign-eq0.true)) refl u

pub returns : goal.returns
returns c = λ bytes u.
    names_definition c.args.number (c.args.number / 2) bytes (omega (arith, c.if-sign-eq0.false)) u
