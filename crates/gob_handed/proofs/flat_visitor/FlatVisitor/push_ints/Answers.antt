-- Int by int they are told, and stand there.
use Rattle.std.proofs.Common.{[], arith, drop, false, refl, subst}
use native.Mathlib.Nat.{sub-zero}
use Rattle.std.proofs.lemmas.Result.{IfOk-from_err}
use Rattle.gob_types.specs.declared.kind.Kind.TheVariants as kind
use Rattle.gob_types.specs.declared.basic.Basic.TheVariants as basic
use Rattle.gob_value.proofs.WholeSteps.{basic_element, none_stand}
use Rattle.gob_walk.specs.Event.{list_ends}
use Rattle.gob_walk.specs.Standing.{HoldsKind}
use Rattle.gob_walk.specs.Told.{Reaches, as_stop}
use Rattle.gob_walk.proofs.PublicLaws.{end_as, end_found, end_of_both, later_on, reached, sent_failed, stopped, took}
use Rattle.gob_walk.proofs.PublicLaws.{value_as}
use Rattle.gob_walk.proofs.TellLaws.{element_comma_failed, element_failed, element_put, elements_ended}
use Rattle.gob_handed.specs.Machine.Gathered.{tells_flat}
use Rattle.gob_handed.proofs.GatheredLaws.{all_elements, flat_both, flat_cut, one_gathered}
use Rattle.gob_handed.proofs.flat_visitor.FlatVisitor.push_ints.Goals as goal

pub ints-init : goal.ints-init
ints-init c = record {
  inside = c.requires;
  stands = λ T e is end s. rw sub-zero at s;
  left = λ T e limit vs rest is b counted. all_elements (Reaches tells_flat) b counted;
}

pub push_int-requires : goal.push_int-requires
push_int-requires c = c.ints.invariant.inside

pub returns-in_err-count_part-clause-sent : goal.returns-in_err-count_part-clause-sent
returns-in_err-count_part-clause-sent c = λ T e limit vs rest is b counted.
    sent_failed (Reaches tells_flat) c.from_residual.result c.from_residual.ensures.1
    (element_comma_failed (Reaches tells_flat) flat_both flat_cut (c.ints.invariant.left T e limit vs rest is b counted)
    (omega arith) (stopped tells_flat tt))

pub returns-in_err-count_part-clause-stands : goal.returns-in_err-count_part-clause-stands
returns-in_err-count_part-clause-stands c = IfOk-from_err c.from_residual.result _ c.from_residual.ensures.0

pub returns-in_err-at-clause-sent : goal.returns-in_err-at-clause-sent
returns-in_err-at-clause-sent c = λ T e limit vs rest is b counted.
    sent_failed (Reaches tells_flat) c.from_residual-in_err-at.result c.from_residual-in_err-at.ensures.1
    (element_failed (Reaches tells_flat) flat_both flat_cut
    (c.ints.invariant.left T e limit vs rest is b counted) (omega arith) (took tells_flat c.in_ok-count_part.ensures)
    (λ v r p. (c.in_err-at.ensures.sent T e v r
    (subst (λ k. HoldsKind T k v (drop c.ints.at c.args.body.now) r) is.same (value_as is.shape is.found p))).put))

pub returns-in_err-at-clause-stands : goal.returns-in_err-at-clause-stands
returns-in_err-at-clause-stands c =
    IfOk-from_err c.from_residual-in_err-at.result _ c.from_residual-in_err-at.ensures.0

pub ints-preserved : goal.ints-preserved
ints-preserved c = record {
  inside = (c.in_ok-at.ensures.stands []).inside;
  stands = λ T e is end s. c.ints.invariant.stands T e is end (end_of_both (c.in_ok-at.ensures.stands T) s
      (λ x y z p q. basic_element T false e is.shape (kind.Basic basic.Int) _ _ is.found is.same (omega arith) x y z
      p q));
  left = λ T e limit vs rest is b counted.
      element_put (Reaches tells_flat) flat_both flat_cut (c.ints.invariant.left T e limit vs rest is b counted)
      (omega arith) (omega arith) (later_on c.ints._index) (took tells_flat c.in_ok-count_part.ensures)
      (λ v r p. let s = c.in_ok-at.ensures.sent T e v r
      (subst (λ k. HoldsKind T k v (drop c.ints.at c.args.body.now) r) is.same (value_as is.shape is.found p)) in
      (s.behind, s.put));
}

pub returns-clause-sent : goal.returns-clause-sent
returns-clause-sent c = λ T e limit vs rest is b counted.
    elements_ended (Reaches tells_flat) flat_both flat_cut (c.ints.invariant.left T e limit vs rest is b counted)
    c.ints.at (as_stop c.end_group.result) c.closed.result c.closed.ensures refl (omega arith)
    (reached tells_flat c.end_group.result
    (one_gathered c.ints.self c.end_group.new.self list_ends c.end_group.result c.end_group.ensures))

pub returns-clause-stands : goal.returns-clause-stands
returns-clause-stands c = end_as _ c.ints.at (as_stop c.end_group.result) c.closed.result c.closed.ensures
    (λ T e is. c.ints.invariant.stands T e is c.ints.at
    (end_found (none_stand T false e _ _ _ _ (omega arith) c.ints.invariant.inside)))
