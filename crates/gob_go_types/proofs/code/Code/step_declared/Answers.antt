-- A declaration leads by what it says.
use Rattle.std.proofs.Common.{Some, refl}
use Rattle.gob_go_types.specs.declared.sight.Step.{Step}
use Rattle.gob_go_types.specs.Sight.{Ends, LeadsFrom, another_name, declared_opaque, of_its_own}
use Rattle.gob_go_types.proofs.SightLaws.{if_ok}
use Rattle.gob_go_types.proofs.code.Code.step_declared.Goals as goal

pub returns-in-Some : goal.returns-in-Some
returns-in-Some c = declared_opaque c.in_ok-declaration.ensures c.in-Some.is refl

pub returns-then-is_alias : goal.returns-then-is_alias
returns-then-is_alias c = another_name c.in_ok-declaration.ensures c.in_default.is c.if-is_alias.true refl

pub returns : goal.returns
returns c =
    if_ok (λ (e : Step). Ends c.args.self.now.source.now (Some c.args.place) c.in_ok-under.under e)
    (λ (e : Step). LeadsFrom c.args.self.now.source.now c.args.place e) c.end.result
    (λ e h. of_its_own c.in_ok-declaration.ensures c.in_default.is c.if-is_alias.false c.in_ok-under.ensures h)
    c.end.ensures
