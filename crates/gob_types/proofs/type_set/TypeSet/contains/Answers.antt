use Rattle.std.proofs.Common.{◌∙◌, sym, subst, IsTrue, Contains}
use Rattle.std.proofs.lemmas.Map.Views.{Contains-from_any, list_any-from_Contains}
use Rattle.gob_types.proofs.SetLaws.{same_laws, same_exact}
use Rattle.gob_types.proofs.type_set.TypeSet.contains.Goals as goal

pub returns : goal.returns
returns c =
    let keys = c.self.inside.ids.keys in
    let there : IsTrue c.contains.result → Contains keys c.args.id = λ yes. Contains-from_any same_exact c.args.id keys
    (sym c.contains.ensures ∙ yes) in
    subst (λ ids. (IsTrue c.contains.result → Contains ids c.args.id)
    × (Contains ids c.args.id → IsTrue c.contains.result)) c.self.view_is
    (there, λ h. c.contains.ensures ∙ list_any-from_Contains same_laws c.args.id keys h)
