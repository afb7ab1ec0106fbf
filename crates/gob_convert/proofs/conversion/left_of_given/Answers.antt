-- What the value leaves out, or the first field of it.
use Rattle.std.proofs.Common.{refl, subst, sym}
use Rattle.gob_types.specs.Defined.{types}
use Rattle.gob_types.specs.Ready.{IsReady}
use Rattle.gob_match.specs.Pairs.{of_types}
use Rattle.gob_left_out.specs.LeftOut.{AreLeftOut}
use Rattle.gob_convert.specs.Converting.{skeleton_of}
use Rattle.gob_convert.proofs.ValueLaws.{leaves_field, leaves_nothing, leaves_some, left_of}
use Rattle.gob_convert.proofs.conversion.left_of_given.Goals as goal

pub left_out_of-requires-clause-wanted_ready : goal.left_out_of-requires-clause-wanted_ready
left_out_of-requires-clause-wanted_ready c =
    subst (λ t. IsReady (types t) c.wanted.result.id) (sym c.wanted.ensures.table)
    (subst (λ i. IsReady (types c.args.target.now.table) i) (sym c.wanted.ensures.id) c.requires.wanted_ready)

pub returns-in-None-clause-left : goal.returns-in-None-clause-left
returns-in-None-clause-left c = λ w m. leaves_nothing w c.args.target.now.all
    (subst (λ t. AreLeftOut (types c.args.table.now) (types t) (of_types c.args.given.now.id c.args.target.now.id)
    (skeleton_of w) c.in-Ok.left) c.wanted.ensures.table
    (subst (λ i. AreLeftOut (types c.args.table.now) (types c.wanted.result.table.now)
    (of_types c.args.given.now.id i) (skeleton_of w) c.in-Ok.left) c.wanted.ensures.id
    (left_of c.in-Ok.ensures.left w m))) (c.in-None.ensures.none refl) c.new.ensures

pub returns-then-not-target-clause-left : goal.returns-then-not-target-clause-left
returns-then-not-target-clause-left c = λ w m. leaves_some w c.args.target.now.all c.if-not-target.true
    (subst (λ t. AreLeftOut (types c.args.table.now) (types t) (of_types c.args.given.now.id c.args.target.now.id)
    (skeleton_of w) c.in-Ok.left) c.wanted.ensures.table
    (subst (λ i. AreLeftOut (types c.args.table.now) (types c.wanted.result.table.now)
    (of_types c.args.given.now.id i) (skeleton_of w) c.in-Ok.left) c.wanted.ensures.id
    (left_of c.in-Ok.ensures.left w m)))

pub returns-in-Some-clause-fault : goal.returns-in-Some-clause-fault
returns-in-Some-clause-fault c = λ w m. (
  c.if-not-target.false,
  leaves_field (subst (λ t. AreLeftOut (types c.args.table.now) (types t)
      (of_types c.args.given.now.id c.args.target.now.id) (skeleton_of w) c.in-Ok.left) c.wanted.ensures.table
      (subst (λ i. AreLeftOut (types c.args.table.now) (types c.wanted.result.table.now)
      (of_types c.args.given.now.id i) (skeleton_of w) c.in-Ok.left) c.wanted.ensures.id
      (left_of c.in-Ok.ensures.left w m))) c.in-Some.ensures.first,
)

pub returns-in-Err-clause-fault : goal.returns-in-Err-clause-fault
returns-in-Err-clause-fault c = λ w m. c.unmatched.ensures.stops c.args.target.now.all w
