use Rattle.std.proofs.Common.{List, Contains, refl, ap, sym, subst, ◌∙◌, rules}
use Rattle.std.proofs.lemmas.Option.{none-some}
use Rattle.std.specs.HashMap.{get}
use Rattle.std.proofs.lemmas.Result.{IfOk-from_err}
use Rattle.gob_types.specs.declared.id.TypeId.{TypeId}
use Rattle.gob_types.specs.Machine.Entered.{same_id}
use Rattle.gob_types.specs.Machine.Kept.{Sets, KeepsSets, IsSet}
use Rattle.gob_types.proofs.WaitLaws.{in_set, keeps_grown, in_found}
use Rattle.gob_types.proofs.SetLaws.{adds_one, adds_keeps}
use Rattle.gob_types.proofs.sets.Sets.add.Goals as goal

pub returns-in_err-add-clause-kept : goal.returns-in_err-add-clause-kept
returns-in_err-add-clause-kept c =
    let E = c.self.inside.sets.entries in
    let new = (c.get_mut.follows.lender c.add.new.self).entries in
    let n : IsSet E new c.args.id c.add.new.self =
    record { each = ((c.get_mut.follows.holds c.add.new.self).3 (search rules)).0 } in
    let keeps : KeepsSets E new =
    keeps_grown n (λ u h. subst (λ (l : List TypeId). Contains l u) (sym c.in_err-add.ensures.unchanged)
    (in_found c.in-Some.ensures.value u h)) in
    subst (λ (m : Sets). KeepsSets m new) c.self.view_is keeps

pub returns-in-Some-clause-added : goal.returns-in-Some-clause-added
returns-in-Some-clause-added c =
    let new = (c.get_mut.follows.lender c.add.new.self).entries in
    let n : IsSet c.self.inside.sets.entries new c.args.id c.add.new.self =
    record { each = ((c.get_mut.follows.holds c.add.new.self).3 (search rules)).0 } in
    in_set n ((adds_one _ c.in_ok-add.ensures.added).has c.args.member refl)

pub returns-in-Some-clause-kept : goal.returns-in-Some-clause-kept
returns-in-Some-clause-kept c =
    let E = c.self.inside.sets.entries in
    let new = (c.get_mut.follows.lender c.add.new.self).entries in
    let n : IsSet E new c.args.id c.add.new.self =
    record { each = ((c.get_mut.follows.holds c.add.new.self).3 (search rules)).0 } in
    let keeps : KeepsSets E new = keeps_grown n (λ u h. adds_keeps (adds_one _ c.in_ok-add.ensures.added) u
    (in_found c.in-Some.ensures.value u h)) in
    subst (λ (m : Sets). KeepsSets m new) c.self.view_is keeps

pub returns-clause-added : goal.returns-clause-added
returns-clause-added c =
    let n : IsSet c.get_mut.follows.lender-at-none.entries c.insert.new.self.entries c.args.id c.add-2.new.self =
    record { each = c.in_ok-insert.ensures.updates.0 } in
    in_set n ((adds_one _ c.in_ok-add-2.ensures.added).has c.args.member refl)

pub returns-clause-kept : goal.returns-clause-kept
returns-clause-kept c =
    let old = c.get_mut.follows.lender-at-none.entries in
    let new = c.insert.new.self.entries in
    let n : IsSet old new c.args.id c.add-2.new.self = record { each = c.in_ok-insert.ensures.updates.0 } in
    let none = c.in_default.ensures.value ∙ sym (ap (λ m. get same_id m c.args.id) c.get_mut.follows.holds-at-none) in
    let keeps : KeepsSets old new = keeps_grown n (λ u h. absurd (none-some _ (none ∙ h.there))) in
    subst (λ (m : Sets). KeepsSets m new) (ap (λ m. m.entries) c.get_mut.follows.holds-at-none ∙ c.self.view_is) keeps

pub returns-in_err-add-clause-added : goal.returns-in_err-add-clause-added
returns-in_err-add-clause-added c = IfOk-from_err c.from_residual.result _ c.from_residual.ensures.0

pub returns-in_err-add-2-clause-added : goal.returns-in_err-add-2-clause-added
returns-in_err-add-2-clause-added c = IfOk-from_err c.from_residual-in_err-add-2.result _
    c.from_residual-in_err-add-2.ensures.0

pub returns-in_err-insert-clause-added : goal.returns-in_err-insert-clause-added
returns-in_err-insert-clause-added c = IfOk-from_err c.from_residual-in_err-insert.result _
    c.from_residual-in_err-insert.ensures.0
