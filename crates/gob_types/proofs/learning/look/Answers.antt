use Rattle.std.proofs.Common.{◌≡◌, Contains, None, subst}
use Rattle.std.specs.Prelude.{MatchOption}
use Rattle.std.proofs.lemmas.Option.{MatchOption-at_none}
use Rattle.std.proofs.lemmas.Bool.Decides.{when_true, when_false}
use Rattle.std.proofs.lemmas.Result.{on_ok_weaker, IfOk-from_err}
use Rattle.gob_types.specs.Defined.{types}
use Rattle.gob_types.specs.Table.{shape_of}
use Rattle.gob_types.specs.Ready.{Reaches}
use Rattle.gob_types.specs.Machine.Kept.{WaitsFor, MetPast}
use Rattle.gob_types.proofs.GrowsLaws.{grows_not}
use Rattle.gob_types.proofs.WaitLaws.{looking_on, redirects_same, some_of, learning_waits, learning_missing}
use Rattle.gob_types.proofs.WaitLaws.{learning_hopeless, learning_ready}
use Rattle.gob_types.proofs.learning.look.Goals as goal

pub returns-in-Some-clause-learning : goal.returns-in-Some-clause-learning
returns-in-Some-clause-learning c =
    let T = types c.args.table.now in
    let begun = looking_on _ c.requires.looking c.requires.apart (redirects_same c.begin.ensures.awaited)
    (c.in_ok-begin.ensures.led c.requires.looking.led) in
    let next = c.in_ok-next.ensures in
    let s = looking_on _ begun c.requires.apart next.redirected (next.led T begun.led) in
    let apart = some_of (λ at. (¬ Contains c.args.ready.now at) × ¬ WaitsFor c.next_awaited.new.waits.awaited at
    c.args.id) c.in_ok-next.field-0 next.apart c.in-Some.is in
    let reached = some_of (Reaches T c.args.id) c.in_ok-next.field-0 (next.reached T begun.led) c.in-Some.is in
    on_ok_weaker c.wait.result (λ n. learning_waits _ s n c.wait.ensures.left reached apart.0 apart.1)
    c.wait.ensures.awaited

pub returns-in-Some-2-clause-learning : goal.returns-in-Some-2-clause-learning
returns-in-Some-2-clause-learning c =
    let T = types c.args.table.now in
    let begun = looking_on _ c.requires.looking c.requires.apart (redirects_same c.begin.ensures.awaited)
    (c.in_ok-begin.ensures.led c.requires.looking.led) in
    let next = c.in_ok-next.ensures in
    let s = looking_on _ begun c.requires.apart next.redirected (next.led T begun.led) in
    let lost = subst (λ m. MatchOption m (MetPast T c.args.ready.now c.args.id c.reached_past.new.met)
    (λ at. Reaches T c.args.id at × (shape_of T at ≡ None))) c.in-Some-2.is c.in_ok-missing.ensures in
    on_ok_weaker c.wait-in-Some-2.result (λ n. learning_missing _ s n c.wait-in-Some-2.ensures.left lost.0 lost.1)
    c.wait-in-Some-2.ensures.awaited

pub returns-then-not-branch-clause-learning : goal.returns-then-not-branch-clause-learning
returns-then-not-branch-clause-learning c =
    let T = types c.args.table.now in
    let begun = looking_on _ c.requires.looking c.requires.apart (redirects_same c.begin.ensures.awaited)
    (c.in_ok-begin.ensures.led c.requires.looking.led) in
    let next = c.in_ok-next.ensures in
    let s = looking_on _ begun c.requires.apart next.redirected (next.led T begun.led) in
    learning_hopeless _ s (when_false _ _ c.if-not-branch.true c.in_ok-are_grounded.ensures)

pub returns-clause-learning : goal.returns-clause-learning
returns-clause-learning c =
    let T = types c.args.table.now in
    let begun = looking_on _ c.requires.looking c.requires.apart (redirects_same c.begin.ensures.awaited)
    (c.in_ok-begin.ensures.led c.requires.looking.led) in
    let next = c.in_ok-next.ensures in
    let s = looking_on _ begun c.requires.apart next.redirected (next.led T begun.led) in
    let met = MatchOption-at_none _ _ c.in_default-2.is c.in_ok-missing.ensures in
    on_ok_weaker c.add_ready.result
    (λ a. learning_ready s (when_true _ _ c.if-not-branch.false c.in_ok-are_grounded.ensures) met.start a)
    c.add_ready.ensures.added

pub returns-in_err-begin-clause-learning : goal.returns-in_err-begin-clause-learning
returns-in_err-begin-clause-learning c = IfOk-from_err c.from_residual.result _ c.from_residual.ensures.0

pub returns-in_err-begin-clause-grown : goal.returns-in_err-begin-clause-grown
returns-in_err-begin-clause-grown c = grows_not

pub returns-in_err-next-clause-learning : goal.returns-in_err-next-clause-learning
returns-in_err-next-clause-learning c = IfOk-from_err c.from_residual-in_err-next.result _
    c.from_residual-in_err-next.ensures.0

pub returns-in_err-next-clause-grown : goal.returns-in_err-next-clause-grown
returns-in_err-next-clause-grown c = grows_not

pub returns-in_err-missing-clause-learning : goal.returns-in_err-missing-clause-learning
returns-in_err-missing-clause-learning c = IfOk-from_err c.from_residual-in_err-missing.result _
    c.from_residual-in_err-missing.ensures.0

pub returns-in_err-missing-clause-grown : goal.returns-in_err-missing-clause-grown
returns-in_err-missing-clause-grown c = grows_not

pub returns-in_err-are_grounded-clause-learning : goal.returns-in_err-are_grounded-clause-learning
returns-in_err-are_grounded-clause-learning c = IfOk-from_err c.from_residual-in_err-are_grounded.result _
    c.from_residual-in_err-are_grounded.ensures.0

pub returns-in_err-are_grounded-clause-grown : goal.returns-in_err-are_grounded-clause-grown
returns-in_err-are_grounded-clause-grown c = grows_not

pub returns-in-Some-clause-grown : goal.returns-in-Some-clause-grown
returns-in-Some-clause-grown c = grows_not

pub returns-in-Some-2-clause-grown : goal.returns-in-Some-2-clause-grown
returns-in-Some-2-clause-grown c = grows_not

pub returns-then-not-branch-clause-grown : goal.returns-then-not-branch-clause-grown
returns-then-not-branch-clause-grown c = grows_not
