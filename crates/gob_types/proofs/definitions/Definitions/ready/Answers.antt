use Rattle.std.proofs.Common.{◌≡◌, None, subst, Contains}
use Rattle.std.proofs.lemmas.Option.{MatchOption-at_none}
use Rattle.gob_types.specs.Table.{shape_of}
use Rattle.gob_types.specs.Ready.{IsGrounded}
use Rattle.gob_types.specs.Readiness.{IsLeast}
use Rattle.gob_types.specs.Defined.{types}
use Rattle.gob_types.specs.Machine.Walk.{IsLeastBad}
use Rattle.gob_types.proofs.WalkLaws.{complete_within, ready_within, least_reached}
use Rattle.gob_types.proofs.definitions.Definitions.ready.Goals as goal

pub least_bottomless-requires : goal.least_bottomless-requires
least_bottomless-requires c = complete_within c.in_ok-met.ensures c.in_default.ensures

pub returns-in-Some-clause-judged : goal.returns-in-Some-clause-judged
returns-in-Some-clause-judged c =
    let T = types c.args.self.now in
    let least : IsLeast (λ u. Contains c.in_ok-met.met u × (shape_of T u ≡ None)) c.in-Some.undefined =
    c.in-Some.ensures in
    least_reached c.in_ok-met.ensures least

pub returns-in-Some-2-clause-judged : goal.returns-in-Some-2-clause-judged
returns-in-Some-2-clause-judged c =
    let T = types c.args.self.now in
    let reach = c.in_ok-met.ensures in
    let least : IsLeast (λ u. Contains c.in_ok-met.met u × ¬ IsGrounded T u) c.in-Some-2.bottomless =
    subst (IsLeastBad (IsGrounded T) (λ u. ¬ IsGrounded T u) c.in_ok-met.met) c.in-Some-2.is c.in_ok-bottomless.ensures
    in
    (λ u h. c.in_default.ensures u (reach.whole u h), least_reached reach least)

pub returns-clause-judged : goal.returns-clause-judged
returns-clause-judged c = ready_within c.in_ok-met.ensures c.in_default.ensures
    (MatchOption-at_none _ _ c.in_default-2.is c.in_ok-bottomless.ensures)
