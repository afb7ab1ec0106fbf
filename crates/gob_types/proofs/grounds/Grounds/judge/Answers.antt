use Rattle.std.proofs.Common.{subst, Contains}
use Rattle.std.proofs.lemmas.Bool.Decides.{when_true, when_false}
use Rattle.std.proofs.lemmas.Result.{IfOk-from_err}
use Rattle.gob_types.specs.Machine.Walk.{AddsAll}
use Rattle.gob_types.proofs.GroundLaws.{knows_more, knows_endless, goes_on_bottomless}
use Rattle.gob_types.proofs.grounds.Grounds.judge.Goals as goal

pub returns-then-branch-clause-known : goal.returns-then-branch-clause-known
returns-then-branch-clause-known c =
    let added = subst (λ ids. AddsAll c.args.self.now.grounded c.add_all.new.self (Contains ids)) c.as_slice.ensures
    c.in_ok-add_all.ensures.added in
    knows_more c.requires.known (when_true _ _ c.if-branch.true c.in_ok-follow.ensures) added

pub returns-clause-judged : goal.returns-clause-judged
returns-clause-judged c =
    let added = subst (λ ids. AddsAll c.args.self.now.bottomless c.add_all-2.new.self (Contains ids))
    c.as_slice-2.ensures c.in_ok-add_all-2.ensures.added in
    goes_on_bottomless c.requires.known (when_false _ _ c.if-branch.false c.in_ok-follow.ensures) added

pub returns-clause-known : goal.returns-clause-known
returns-clause-known c =
    let added = subst (λ ids. AddsAll c.args.self.now.bottomless c.add_all-2.new.self (Contains ids))
    c.as_slice-2.ensures c.in_ok-add_all-2.ensures.added in
    knows_endless c.requires.known (when_false _ _ c.if-branch.false c.in_ok-follow.ensures) added

pub returns-in_err-follow-clause-judged : goal.returns-in_err-follow-clause-judged
returns-in_err-follow-clause-judged c = IfOk-from_err c.from_residual.result _ c.from_residual.ensures.0

pub returns-in_err-follow-clause-known : goal.returns-in_err-follow-clause-known
returns-in_err-follow-clause-known c = IfOk-from_err c.from_residual.result _ c.from_residual.ensures.0

pub returns-in_err-add_all-clause-judged : goal.returns-in_err-add_all-clause-judged
returns-in_err-add_all-clause-judged c = IfOk-from_err c.from_residual-in_err-add_all.result _
    c.from_residual-in_err-add_all.ensures.0

pub returns-in_err-add_all-clause-known : goal.returns-in_err-add_all-clause-known
returns-in_err-add_all-clause-known c = IfOk-from_err c.from_residual-in_err-add_all.result _
    c.from_residual-in_err-add_all.ensures.0

pub returns-in_err-add_all-2-clause-judged : goal.returns-in_err-add_all-2-clause-judged
returns-in_err-add_all-2-clause-judged c = IfOk-from_err c.from_residual-in_err-add_all-2.result _
    c.from_residual-in_err-add_all-2.ensures.0

pub returns-in_err-add_all-2-clause-known : goal.returns-in_err-add_all-2-clause-known
returns-in_err-add_all-2-clause-known c = IfOk-from_err c.from_residual-in_err-add_all-2.result _
    c.from_residual-in_err-add_all-2.ensures.0
