use Rattle.std.proofs.Common.{sym, subst}
use Rattle.std.proofs.lemmas.Result.{IfOk-from_err}
use Rattle.gob_types.specs.Defined.{types}
use Rattle.gob_types.specs.Machine.Walk.{AddsOne, WalksOn, EndsWell}
use Rattle.gob_types.proofs.SetLaws.{added_less}
use Rattle.gob_types.proofs.GroundLaws.{Following, follow_start, follow_known, follow_bottomless, follow_round}
use Rattle.gob_types.proofs.GroundLaws.{follow_end, follow_on}
use Rattle.gob_types.proofs.grounds.Grounds.follow.Goals as goal

pub loop-at-init : goal.loop-at-init
loop-at-init c = subst (λ way. Following (types c.args.table.now) c.args.id way c.args.id) (sym c.requires.new)
    (follow_start c.requires.complete)

pub returns-then-contains : goal.returns-then-contains
returns-then-contains c = follow_bottomless c.args.self.now.bottomless c.loop-at.invariant
    (c.contains-in-loop-at.ensures.0 c.if-contains.true)

pub returns-then-not-branch : goal.returns-then-not-branch
returns-then-not-branch c =
    let T = types c.args.table.now in
    let old = subst (AddsOne c.loop-at.way c.add.new.self c.loop-at.at) c.if-not-branch.true c.in_ok-add.ensures.added
    in
    subst (WalksOn T c.args.id c.args.self.now.bottomless) (sym old.1) (follow_round c.args.self.now.bottomless
    c.loop-at.invariant old.0)

pub returns-in_default : goal.returns-in_default
returns-in_default c =
    let T = types c.args.table.now in
    let new = subst (AddsOne c.loop-at.way c.add.new.self c.loop-at.at) c.if-not-branch.false c.in_ok-add.ensures.added
    in
    subst (EndsWell T c.args.id) (sym new.1) (follow_end c.loop-at.invariant c.in_default.ensures)

pub loop-at-preserved : goal.loop-at-preserved
loop-at-preserved c =
    let T = types c.args.table.now in
    let new = subst (AddsOne c.loop-at.way c.add.new.self c.loop-at.at) c.if-not-branch.false c.in_ok-add.ensures.added
    in
    subst (λ way. Following T c.args.id way c.in-Some.elem) (sym new.1)
    (follow_on c.loop-at.invariant c.in-Some.ensures)

pub returns : goal.returns
returns c = follow_known c.loop-at.invariant (c.requires.known.have _ (c.contains.ensures.0 c.loop-at-test.false))

pub loop-at-smaller : goal.loop-at-smaller
loop-at-smaller c = added_less c.loop-at.way c.add.new.self c.loop-at.at
    (subst (AddsOne c.loop-at.way c.add.new.self c.loop-at.at) c.if-not-branch.false c.in_ok-add.ensures.added)
    c.add.ensures.small

pub returns-in_err-add : goal.returns-in_err-add
returns-in_err-add c = IfOk-from_err c.from_residual.result _ c.from_residual.ensures.0
