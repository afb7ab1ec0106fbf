use Rattle.std.proofs.Common.{inl, sym, ◌∙◌, true≢false}
use Rattle.std.proofs.lemmas.Option.{slice_get-get_or}
use Rattle.std.proofs.lemmas.Result.{IfOk-from_err}
use Rattle.gob_types.proofs.FirstLaws.{none_first, more_first, first_as, all_first}
use Rattle.gob_types.proofs.GrowsLaws.{grows_not, grows_then, grows_by}
use Rattle.gob_types.proofs.SetLaws.{adds_one, adds_keeps}
use Rattle.gob_types.proofs.WaitLaws.{only_waiting}
use Rattle.std.proofs.Common.{refl}
use Rattle.gob_types.proofs.waits.Waits.add_waiting.Goals as goal

pub loop-user-init : goal.loop-user-init
loop-user-init c = record { grown = grows_not; has = none_first; only = λ u there. inl there }

pub loop-user-preserved-then-not-is_waiting : goal.loop-user-preserved-then-not-is_waiting
loop-user-preserved-then-not-is_waiting c =
    let i = c.loop-user.invariant in
    record {
      grown = i.grown;
      has = more_first i.has (slice_get-get_or c.args.users.now c.loop-user.user-index _ c.loop-user-test.true)
          (λ e. absurd (true≢false (sym (c.is_waiting.ensures.1 e) ∙ c.if-not-is_waiting.true)));
      only = i.only;
    }

pub loop-user-preserved : goal.loop-user-preserved
loop-user-preserved c =
    let i = c.loop-user.invariant in
    let a = adds_one _ c.in_ok-add.ensures.added in
    record {
      grown = grows_then i.grown (grows_by a);
      has = more_first (first_as i.has (λ u h e. adds_keeps a u (h e)))
          (slice_get-get_or c.args.users.now c.loop-user.user-index _ c.loop-user-test.true) (λ e. a.has _ refl);
      only = only_waiting _ _ a i.only (c.is_waiting.ensures.0 c.if-not-is_waiting.false);
    }

pub returns : goal.returns
returns c = record {
  grown = c.loop-user.invariant.grown;
  has = λ u there. all_first c.loop-user.invariant.has
      c.loop-user-test.false there;
  only = c.loop-user.invariant.only;
}

pub returns-in_err-add : goal.returns-in_err-add
returns-in_err-add c = IfOk-from_err c.from_residual.result _ c.from_residual.ensures.0
