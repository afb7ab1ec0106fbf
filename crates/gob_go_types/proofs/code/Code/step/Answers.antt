-- A look goes by the declaration, where there is one.
use Rattle.std.proofs.Common.{◌∙◌, None, sym}
use Rattle.gob_go_types.specs.declared.sight.Step.{Step}
use Rattle.gob_go_types.specs.Sight.{Ends, Leads, LeadsFrom, by_declaration, by_itself}
use Rattle.gob_go_types.proofs.SightLaws.{if_ok}
use Rattle.gob_go_types.proofs.code.Code.step.Goals as goal

pub returns-in-Some : goal.returns-in-Some
returns-in-Some c =
    if_ok (λ (e : Step). LeadsFrom c.args.self.now.source.now c.in-Some.declaration e)
    (λ (e : Step). Leads c.args.self.now.source.now c.args.place e) c.step_declared.result
    (λ e h. by_declaration (sym c.in_ok-declared.ensures ∙ c.in-Some.is) h) c.step_declared.ensures

pub returns-in-None : goal.returns-in-None
returns-in-None c =
    if_ok (λ (e : Step). Ends c.args.self.now.source.now None c.args.place e)
    (λ (e : Step). Leads c.args.self.now.source.now c.args.place e) c.end.result
    (λ e h. by_itself (sym c.in_ok-declared.ensures ∙ c.in-None.is) h) c.end.ensures
