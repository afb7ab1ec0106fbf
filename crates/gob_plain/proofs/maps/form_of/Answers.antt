-- By the type of the keys.
use Rattle.std.proofs.Common.{◌∙◌, sym}
use Rattle.std.proofs.lemmas.Result.{IfOk-weaker}
use Rattle.gob_plain.proofs.FormLaws.{form_held}
use Rattle.gob_plain.proofs.maps.form_of.Goals as goal

pub returns-then-is_interface : goal.returns-then-is_interface
returns-then-is_interface g c =
    IfOk-weaker c.held_form.result _ _
    (λ form f style T e ps h. form_held form (g.N.NilTexts.says c.args.nils.now) style T c.args.key e ps
    (sym c.gives_names.ensures ∙ c.if-gives_names.false) (sym c.is_interface.ensures ∙ c.if-is_interface.true)
    (f style T c.args.key e ps h)) c.held_form.ensures
