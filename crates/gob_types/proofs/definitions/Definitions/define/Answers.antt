use Rattle.std.proofs.Common.{◌≡◌, ◌∙◌, ◌++◌, ◌∷◌, [], None, sym, ap, subst, refl}
use Rattle.std.proofs.lemmas.Result.{IfOk-from_err}
use Rattle.gob_types.specs.Table.{shape_of}
use Rattle.gob_types.specs.Defined.{Defined, IsTable}
use Rattle.gob_types.proofs.TableLaws.{types_are, with_entry-new, table-push}
use Rattle.gob_types.proofs.definitions.Definitions.define.Goals as goal

pub invariant_of-self-2 : goal.invariant_of-self-2
invariant_of-self-2 c =
    let T = c.self.inside.entries in
    let same = types_are c.self.view_is c.self.invariant in
    let new : shape_of T c.args.id ≡ None = subst (λ U. shape_of U c.args.id ≡ None) same
    c.in_ok-admits.ensures.admitted.new in
    subst IsTable (sym (c.in_ok-enter.ensures.entered ∙ with_entry-new T c.args.id c.args.shape new))
    (table-push c.args.id c.args.shape c.self.invariant c.in_ok-admits.ensures.admitted.own c.requires new)

pub returns-clause-defined : goal.returns-clause-defined
returns-clause-defined c =
    let T = c.self.inside.entries in
    let same = types_are c.self.view_is c.self.invariant in
    let new : shape_of T c.args.id ≡ None = subst (λ U. shape_of U c.args.id ≡ None) same
    c.in_ok-admits.ensures.admitted.new in
    let grown = c.in_ok-enter.ensures.entered ∙ with_entry-new T c.args.id c.args.shape new in
    types_are {n = c.self.inside.max_types} refl (invariant_of-self-2 c) ∙ grown
    ∙ ap (λ U. U ++ (c.args.id, c.args.shape) ∷ []) (sym same)

pub returns-clause-entries : goal.returns-clause-entries
returns-clause-entries c =
    let T = c.self.inside.entries in
    let same = types_are c.self.view_is c.self.invariant in
    let new : shape_of T c.args.id ≡ None = subst (λ U. shape_of U c.args.id ≡ None) same
    c.in_ok-admits.ensures.admitted.new in
    c.in_ok-enter.ensures.entered ∙ with_entry-new T c.args.id c.args.shape new
    ∙ ap (λ (d : Defined). d.entries ++ (c.args.id, c.args.shape) ∷ []) c.self.view_is

pub returns-in_err-admits-clause-admitted : goal.returns-in_err-admits-clause-admitted
returns-in_err-admits-clause-admitted c = IfOk-from_err c.from_residual.result _ c.from_residual.ensures.0

pub returns-in_err-admits-clause-defined : goal.returns-in_err-admits-clause-defined
returns-in_err-admits-clause-defined c = IfOk-from_err c.from_residual.result _ c.from_residual.ensures.0

pub returns-in_err-admits-clause-entries : goal.returns-in_err-admits-clause-entries
returns-in_err-admits-clause-entries c = IfOk-from_err c.from_residual.result _ c.from_residual.ensures.0

pub returns-in_err-enter-clause-admitted : goal.returns-in_err-enter-clause-admitted
returns-in_err-enter-clause-admitted c = IfOk-from_err c.from_residual-in_err-enter.result _
    c.from_residual-in_err-enter.ensures.0

pub returns-in_err-enter-clause-defined : goal.returns-in_err-enter-clause-defined
returns-in_err-enter-clause-defined c = IfOk-from_err c.from_residual-in_err-enter.result _
    c.from_residual-in_err-enter.ensures.0

pub returns-in_err-enter-clause-entries : goal.returns-in_err-enter-clause-entries
returns-in_err-enter-clause-entries c = IfOk-from_err c.from_residual-in_err-enter.result _
    c.from_residual-in_err-enter.ensures.0
