use Rattle.std.proofs.Common.{ap, sym, subst, ◌∙◌, ◌++◌, ◌∷◌, []}
use Rattle.std.proofs.lemmas.Result.{IfOk-from_err}
use Rattle.gob_types.specs.Defined.{Defined, Admits, first_entries, types}
use Rattle.gob_types.specs.Machine.Kept.{IsKeptReadiness}
use Rattle.gob_types.proofs.KeptLaws.{prefix_entries, same_defined, cut_back}
use Rattle.gob_types.proofs.WaitLaws.{kept_back, settled_kept}
use Rattle.gob_types.proofs.table.Table.define.Goals as goal

pub invariant_of-self-2 : goal.invariant_of-self-2
invariant_of-self-2 c =
    kept_back c.self.invariant
    (ap first_entries (prefix_entries (c.args.id, c.args.shape) c.in_ok-define.ensures.entries c.undo.ensures.entries))
    (cut_back c.settle.ensures.grown c.count-count.ensures.count c.truncate.ensures)
    c.replace-waits.ensures.after

pub settle-requires : goal.settle-requires
settle-requires c = record {
  before = types c.self.inside.definitions;
  shape = c.args.shape;
  new =
      c.in_ok-define.ensures.admitted.new;
  grown = c.in_ok-define.ensures.defined;
  kept =
      subst (IsKeptReadiness (types c.self.inside.definitions) c.self.inside.ready) (sym c.replace-waits.ensures.value)
      c.self.invariant;
}

pub returns-clause-unchanged : goal.returns-clause-unchanged
returns-clause-unchanged c =
    same_defined (prefix_entries (c.args.id, c.args.shape) c.in_ok-define.ensures.entries c.undo.ensures.entries)
    (c.undo.ensures.most ∙ c.in_ok-define.ensures.most) ∙ c.self.view_is

pub invariant_of-self : goal.invariant_of-self
invariant_of-self c = subst (λ (d : Defined). IsKeptReadiness (types d) c.self.inside.ready c.self.inside.waits)
    (sym c.in_err-define.ensures.unchanged) c.self.invariant

pub returns-in-Ok-clause-admitted : goal.returns-in-Ok-clause-admitted
returns-in-Ok-clause-admitted c = subst (λ (d : Defined). Admits d c.args.id) c.self.view_is
    c.in_ok-define.ensures.admitted

pub returns-in-Ok-clause-defined : goal.returns-in-Ok-clause-defined
returns-in-Ok-clause-defined c = c.in_ok-define.ensures.defined
    ∙ ap (λ (d : Defined). types d ++ (c.args.id, c.args.shape) ∷ []) c.self.view_is

pub returns-in-Ok-clause-most : goal.returns-in-Ok-clause-most
returns-in-Ok-clause-most c = c.in_ok-define.ensures.most ∙ ap (λ (d : Defined). d.most) c.self.view_is

pub returns-clause-most : goal.returns-clause-most
returns-clause-most c = c.undo.ensures.most ∙ c.in_ok-define.ensures.most ∙ ap (λ (d : Defined). d.most) c.self.view_is

pub returns-clause-refused : goal.returns-clause-refused
returns-clause-refused c = subst (λ (d : Defined). Admits d c.args.id) c.self.view_is c.in_ok-define.ensures.admitted

pub invariant_of-self-in-Ok : goal.invariant_of-self-in-Ok
invariant_of-self-in-Ok c = settled_kept c.in-Ok.ensures.settled

pub returns-in_err-define-clause-admitted : goal.returns-in_err-define-clause-admitted
returns-in_err-define-clause-admitted c = IfOk-from_err c.from_residual.result _ c.from_residual.ensures.0

pub returns-in_err-define-clause-defined : goal.returns-in_err-define-clause-defined
returns-in_err-define-clause-defined c = IfOk-from_err c.from_residual.result _ c.from_residual.ensures.0
