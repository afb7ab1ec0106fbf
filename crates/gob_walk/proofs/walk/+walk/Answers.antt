-- Part by part the text goes out, and what stands there is read.
use Rattle.std.proofs.Common.{◌≡◌, ℕ, Option, Some, List, [], ◌∷◌, ap, arith, drop, false}
use native.Mathlib.Nat.{sub-zero}
use Rattle.std.proofs.Common.{IsTrue, rules, true, refl, sym, ◌∙◌, subst}
use Rattle.std.proofs.lemmas.Result.{IfOk-from_err}
use Rattle.gob_types.specs.declared.basic.Basic.{Basic}
use Rattle.gob_types.specs.declared.basic.Basic.TheVariants as basic
use Rattle.gob_types.specs.declared.id.TypeId.{TypeId}
use Rattle.gob_types.specs.Table.{Table, basic_of}
use Rattle.gob_types.proofs.PublicLaws.{basic_shape_of}
use Rattle.gob_types.specs.declared.kind.Kind.TheVariants as kind
use Rattle.gob_value.proofs.WholeSteps.{all_deeper, array_begins, basic_part, deeper, element_begins, field_begins}
use Rattle.gob_value.proofs.WholeSteps.{fields_end}
use Rattle.gob_value.proofs.WholeSteps.{kept_part, map_begins, no_pairs_stand, none_stand, pair_begins, slice_begins}
use Rattle.gob_value.proofs.WholeSteps.{struct_begins}
use Rattle.gob_walk.specs.Event.{elements_told, entries_told, fields_told, value_told}
use Rattle.gob_walk.specs.Event as event
use Rattle.gob_walk.specs.Standing.{HoldsKind, HoldsValue}
use Rattle.gob_walk.specs.Told.{Reaches, as_stop}
use Rattle.gob_walk.specs.Standing.{IsOfKind}
use Rattle.gob_walk.proofs.EndLaws.{end_found, end_of_both, end_of_three, end_seen, if_ok}
use Rattle.gob_walk.proofs.StandingLaws.{array_count, delta_first, element_shape, entry_shapes, list_count, map_count}
use Rattle.gob_walk.proofs.StandingLaws.{shape_there, value_as}
use Rattle.gob_walk.proofs.AnswerLaws.{end_as, later_on, reached, reached_both, reached_prefix, stopped, took}
use Rattle.gob_walk.proofs.AnswerLaws.{sent_behind, sent_failed, sent_on}
use Rattle.gob_walk.proofs.TellLaws.{slice_sent, array_sent, map_sent, struct_sent, list_elements, map_entries}
use Rattle.gob_walk.proofs.TellLaws.{first_elements, elements_ended, element_comma_failed, element_failed, element_put}
use Rattle.gob_walk.proofs.TellLaws.{first_entries, entries_ended, entry_comma_failed, entry_failed, entry_put}
use Rattle.gob_walk.proofs.TellLaws.{first_present, fields_ended, field_failed, field_put, field_stands}
use Rattle.gob_walk.proofs.walk.+walk.Goals as goal

-- what is told of a basic type
of_basic : {T : Table} {t : TypeId} {o : Option Basic} {b k : Basic} → o ≡ basic_of T t → o ≡ Some b → b ≡ k
    → IsOfKind T t (kind.Basic k)
of_basic {T = T} {t = t} told is same =
    let (r, found, kept) = basic_shape_of T t (sym told ∙ is ∙ ap Some same) in
    record { shape = r; found = found; same = kept }

-- tidy values aren't asked for
not_tidy : ¬ IsTrue false
not_tidy t = let told : false ≡ true = t in cc

-- ---- elements

pub walk_elements-returns-in_err-list_begins-clause-sent : goal.walk_elements-returns-in_err-list_begins-clause-sent
walk_elements-returns-in_err-list_begins-clause-sent g t c = λ vs rest b counted.
    sent_failed (Reaches g.V.Visitor.tells) c.from_residual.result c.from_residual.ensures.1
    ((reached_prefix g.V.Visitor.tells g.met.V.Visitor.cut) _ _ (event.list_begins ∷ [])
    (elements_told false (g.S.Shapes.table c.args.shapes.now) c.args.elem vs) _
    (stopped g.V.Visitor.tells c.in_err-list_begins.ensures))

pub walk_elements-returns-in_err-list_begins-clause-stands : goal.walk_elements-returns-in_err-list_begins-clause-stands
walk_elements-returns-in_err-list_begins-clause-stands g t c = IfOk-from_err c.from_residual.result _
    c.from_residual.ensures.0

pub walk_elements-returns-then-count-eq0-clause-sent : goal.walk_elements-returns-then-count-eq0-clause-sent
walk_elements-returns-then-count-eq0-clause-sent g t c = λ vs rest b counted.
    elements_ended (Reaches g.V.Visitor.tells) (reached_both g.V.Visitor.tells g.met.V.Visitor.joined)
    (reached_prefix g.V.Visitor.tells g.met.V.Visitor.cut)
    (first_elements (Reaches g.V.Visitor.tells) (reached_both g.V.Visitor.tells g.met.V.Visitor.joined)
    (reached_prefix g.V.Visitor.tells g.met.V.Visitor.cut) b counted
    (took g.V.Visitor.tells c.in_ok-list_begins.ensures))
    c.args.begin (as_stop c.list_ends.result) c.closed.result c.closed.ensures refl (omega arith)
    (reached g.V.Visitor.tells c.list_ends.result c.list_ends.ensures)

pub walk_elements-returns-then-count-eq0-clause-stands : goal.walk_elements-returns-then-count-eq0-clause-stands
walk_elements-returns-then-count-eq0-clause-stands g t c =
    end_as _ c.args.begin (as_stop c.list_ends.result) c.closed.result c.closed.ensures
    (end_found (none_stand _ _ _ _ _ _ _ (omega arith) c.requires.place))

pub walk_elements-returns-in_default-clause-sent : goal.walk_elements-returns-in_default-clause-sent
walk_elements-returns-in_default-clause-sent g t c = λ vs rest b counted.
    absurd (element_shape b (omega (arith, counted)) (sym c.in_default.ensures))

pub walk_elements-returns-in-Basic-Int-clause-sent : goal.walk_elements-returns-in-Basic-Int-clause-sent
walk_elements-returns-in-Basic-Int-clause-sent g t c =
    let int : c.in-Some.shape.now.kind ≡ kind.Basic basic.Int = search rules in λ vs rest b counted.
    sent_on (Reaches g.V.Visitor.tells) (reached_both g.V.Visitor.tells g.met.V.Visitor.joined)
    (reached_prefix g.V.Visitor.tells g.met.V.Visitor.cut) (event.list_begins ∷ [])
    (elements_told false (g.S.Shapes.table c.args.shapes.now) c.args.elem vs) c.ints.result
    (took g.V.Visitor.tells c.in_ok-list_begins.ensures)
    (c.ints.ensures.sent (g.S.Shapes.table c.args.shapes.now) c.args.elem c.args.depth vs rest
    (record { shape = c.in-Some.shape.now; found = sym c.in-Some.ensures; same = int }) b counted)

pub walk_elements-returns-in-Basic-Int-clause-stands : goal.walk_elements-returns-in-Basic-Int-clause-stands
walk_elements-returns-in-Basic-Int-clause-stands g t c =
    let int : c.in-Some.shape.now.kind ≡ kind.Basic basic.Int = search rules in
    if_ok c.ints.result (λ end s. end_seen
    (s _ _ (record { shape = c.in-Some.shape.now; found = sym c.in-Some.ensures; same = int }))
    (all_deeper _ _ _ _ _ _ c.if-depth-gt0.true)) c.ints.ensures.stands

pub walk_elements-elements-init : goal.walk_elements-elements-init
walk_elements-elements-init g t c = record {
  inside = c.requires.place;
  stands = λ end s. rw sub-zero at s;
  left = λ vs rest b counted. first_elements (Reaches g.V.Visitor.tells)
      (reached_both g.V.Visitor.tells g.met.V.Visitor.joined)
      (reached_prefix g.V.Visitor.tells g.met.V.Visitor.cut) b counted
      (took g.V.Visitor.tells c.in_ok-list_begins.ensures);
}

pub walk_elements-returns-in_err-element-clause-sent : goal.walk_elements-returns-in_err-element-clause-sent
walk_elements-returns-in_err-element-clause-sent g t c = λ vs rest b counted.
    sent_failed (Reaches g.V.Visitor.tells) c.from_residual-in_err-element.result
    c.from_residual-in_err-element.ensures.1
    (element_comma_failed (Reaches g.V.Visitor.tells) (reached_both g.V.Visitor.tells g.met.V.Visitor.joined)
    (reached_prefix g.V.Visitor.tells g.met.V.Visitor.cut)
    (c.elements.invariant.left vs rest b counted) (omega arith) (stopped g.V.Visitor.tells c.in_err-element.ensures))

pub walk_elements-returns-in_err-element-clause-stands : goal.walk_elements-returns-in_err-element-clause-stands
walk_elements-returns-in_err-element-clause-stands g t c = IfOk-from_err c.from_residual-in_err-element.result _
    c.from_residual-in_err-element.ensures.0

pub walk_elements-returns-in_err-at-clause-sent : goal.walk_elements-returns-in_err-at-clause-sent
walk_elements-returns-in_err-at-clause-sent g t c = λ vs rest b counted.
    sent_failed (Reaches g.V.Visitor.tells) c.from_residual-in_err-at.result c.from_residual-in_err-at.ensures.1
    (element_failed (Reaches g.V.Visitor.tells) (reached_both g.V.Visitor.tells g.met.V.Visitor.joined)
    (reached_prefix g.V.Visitor.tells g.met.V.Visitor.cut)
    (c.elements.invariant.left vs rest b counted) (omega arith) (took g.V.Visitor.tells c.in_ok-element.ensures)
    (λ v r p. (c.in_err-at.ensures.sent c.args.elem v r (sym c.in-Some.ensures) p).put))

pub walk_elements-returns-in_err-at-clause-stands : goal.walk_elements-returns-in_err-at-clause-stands
walk_elements-returns-in_err-at-clause-stands g t c = IfOk-from_err c.from_residual-in_err-at.result _
    c.from_residual-in_err-at.ensures.0

pub walk_elements-elements-preserved : goal.walk_elements-elements-preserved
walk_elements-elements-preserved g t c = record {
  inside = c.in_ok-at.ensures.stands.inside;
  stands = λ end s. c.elements.invariant.stands end (end_of_both c.in_ok-at.ensures.stands s
      (element_begins _ _ _ c.in-Some.shape.now _ _ _ (sym c.in-Some.ensures) (omega arith)));
  left = λ vs rest b counted.
      element_put (Reaches g.V.Visitor.tells) (reached_both g.V.Visitor.tells g.met.V.Visitor.joined)
      (reached_prefix g.V.Visitor.tells g.met.V.Visitor.cut)
      (c.elements.invariant.left vs rest b counted) (omega arith) (omega arith) (later_on c.elements.index)
      (took g.V.Visitor.tells c.in_ok-element.ensures)
      (λ v r p. let s = c.in_ok-at.ensures.sent c.args.elem v r (sym c.in-Some.ensures) p in (s.behind, s.put));
}

pub walk_elements-returns-clause-sent : goal.walk_elements-returns-clause-sent
walk_elements-returns-clause-sent g t c = λ vs rest b counted.
    elements_ended (Reaches g.V.Visitor.tells) (reached_both g.V.Visitor.tells g.met.V.Visitor.joined)
    (reached_prefix g.V.Visitor.tells g.met.V.Visitor.cut) (c.elements.invariant.left vs rest b counted)
    c.elements.at (as_stop c.list_ends-2.result) c.closed-2.result c.closed-2.ensures refl (omega arith)
    (reached g.V.Visitor.tells c.list_ends-2.result c.list_ends-2.ensures)

pub walk_elements-returns-clause-stands : goal.walk_elements-returns-clause-stands
walk_elements-returns-clause-stands g t c = end_as _ c.elements.at (as_stop c.list_ends-2.result) c.closed-2.result
    c.closed-2.ensures
    (c.elements.invariant.stands c.elements.at
    (end_found (none_stand _ _ _ _ _ _ _ (omega arith) c.elements.invariant.inside)))

-- ---- pairs

pub walk_pairs-returns-in_err-map_begins-clause-sent : goal.walk_pairs-returns-in_err-map_begins-clause-sent
walk_pairs-returns-in_err-map_begins-clause-sent g t c = λ ps rest b counted.
    sent_failed (Reaches g.V.Visitor.tells) c.from_residual.result c.from_residual.ensures.1
    ((reached_prefix g.V.Visitor.tells g.met.V.Visitor.cut) _ _ (event.map_begins c.args.key ∷ [])
    (entries_told false (g.S.Shapes.table c.args.shapes.now) c.args.key c.args.elem ps) _
    (stopped g.V.Visitor.tells c.in_err-map_begins.ensures))

pub walk_pairs-returns-in_err-map_begins-clause-stands : goal.walk_pairs-returns-in_err-map_begins-clause-stands
walk_pairs-returns-in_err-map_begins-clause-stands g t c = IfOk-from_err c.from_residual.result _
    c.from_residual.ensures.0

pub walk_pairs-returns-then-count-eq0-clause-sent : goal.walk_pairs-returns-then-count-eq0-clause-sent
walk_pairs-returns-then-count-eq0-clause-sent g t c = λ ps rest b counted.
    entries_ended (Reaches g.V.Visitor.tells) (reached_both g.V.Visitor.tells g.met.V.Visitor.joined)
    (reached_prefix g.V.Visitor.tells g.met.V.Visitor.cut)
    (first_entries (Reaches g.V.Visitor.tells) (reached_both g.V.Visitor.tells g.met.V.Visitor.joined)
    (reached_prefix g.V.Visitor.tells g.met.V.Visitor.cut) b counted
    (took g.V.Visitor.tells c.in_ok-map_begins.ensures))
    c.args.begin (as_stop c.map_ends.result) c.closed.result c.closed.ensures refl (omega arith)
    (reached g.V.Visitor.tells c.map_ends.result c.map_ends.ensures)

pub walk_pairs-returns-then-count-eq0-clause-stands : goal.walk_pairs-returns-then-count-eq0-clause-stands
walk_pairs-returns-then-count-eq0-clause-stands g t c = end_as _ c.args.begin (as_stop c.map_ends.result)
    c.closed.result c.closed.ensures
    (end_found (no_pairs_stand _ _ _ _ _ _ _ _ (omega arith) c.requires.place))

pub walk_pairs-returns-in_default-clause-sent : goal.walk_pairs-returns-in_default-clause-sent
walk_pairs-returns-in_default-clause-sent g t c = λ ps rest b counted.
    absurd ((entry_shapes b (omega (arith, counted))).0 (sym c.in_default.ensures))

pub walk_pairs-returns-in_default-shape_of-clause-sent : goal.walk_pairs-returns-in_default-shape_of-clause-sent
walk_pairs-returns-in_default-shape_of-clause-sent g t c = λ ps rest b counted.
    absurd ((entry_shapes b (omega (arith, counted))).1 (sym c.in_default-shape_of.ensures))

pub walk_pairs-pairs-init : goal.walk_pairs-pairs-init
walk_pairs-pairs-init g t c = record {
  inside = c.requires.place;
  stands = λ end s. rw sub-zero at s;
  left = λ ps rest b counted. first_entries (Reaches g.V.Visitor.tells)
      (reached_both g.V.Visitor.tells g.met.V.Visitor.joined)
      (reached_prefix g.V.Visitor.tells g.met.V.Visitor.cut) b counted
      (took g.V.Visitor.tells c.in_ok-map_begins.ensures);
}

pub walk_pairs-returns-in_err-entry-clause-sent : goal.walk_pairs-returns-in_err-entry-clause-sent
walk_pairs-returns-in_err-entry-clause-sent g t c = λ ps rest b counted.
    sent_failed (Reaches g.V.Visitor.tells) c.from_residual-in_err-entry.result
    c.from_residual-in_err-entry.ensures.1
    (entry_comma_failed (Reaches g.V.Visitor.tells) (reached_both g.V.Visitor.tells g.met.V.Visitor.joined)
    (reached_prefix g.V.Visitor.tells g.met.V.Visitor.cut)
    (c.pairs.invariant.left ps rest b counted) (omega arith) (stopped g.V.Visitor.tells c.in_err-entry.ensures))

pub walk_pairs-returns-in_err-entry-clause-stands : goal.walk_pairs-returns-in_err-entry-clause-stands
walk_pairs-returns-in_err-entry-clause-stands g t c = IfOk-from_err c.from_residual-in_err-entry.result _
    c.from_residual-in_err-entry.ensures.0

pub walk_pairs-returns-in_err-at-clause-sent : goal.walk_pairs-returns-in_err-at-clause-sent
walk_pairs-returns-in_err-at-clause-sent g t c = λ ps rest b counted.
    sent_failed (Reaches g.V.Visitor.tells) c.from_residual-in_err-at.result c.from_residual-in_err-at.ensures.1
    (entry_failed (Reaches g.V.Visitor.tells) (reached_both g.V.Visitor.tells g.met.V.Visitor.joined)
    (reached_prefix g.V.Visitor.tells g.met.V.Visitor.cut)
    (c.pairs.invariant.left ps rest b counted) (omega arith) (took g.V.Visitor.tells c.in_ok-entry.ensures)
    (λ x v r p. (c.in_err-at.ensures.sent c.args.elem x v r (sym c.in-Some.ensures)
    (sym c.in-Some-shape_of.ensures) p).put))

pub walk_pairs-returns-in_err-at-clause-stands : goal.walk_pairs-returns-in_err-at-clause-stands
walk_pairs-returns-in_err-at-clause-stands g t c = IfOk-from_err c.from_residual-in_err-at.result _
    c.from_residual-in_err-at.ensures.0

pub walk_pairs-pairs-preserved : goal.walk_pairs-pairs-preserved
walk_pairs-pairs-preserved g t c = record {
  inside = c.in_ok-at.ensures.stands.inside;
  stands = λ end s. c.pairs.invariant.stands end (end_of_both c.in_ok-at.ensures.stands s
      (λ x y z p q. pair_begins _ _ _ _ c.in-Some.keys.now c.in-Some-shape_of.elems.now _ _ _ (sym c.in-Some.ensures)
      (sym c.in-Some-shape_of.ensures) (omega arith) x p.0 y z p.1 p.2 q));
  left = λ ps rest b counted.
      entry_put (Reaches g.V.Visitor.tells) (reached_both g.V.Visitor.tells g.met.V.Visitor.joined)
      (reached_prefix g.V.Visitor.tells g.met.V.Visitor.cut)
      (c.pairs.invariant.left ps rest b counted) (omega arith) (omega arith) (later_on c.pairs.index)
      (took g.V.Visitor.tells c.in_ok-entry.ensures)
      (λ x v r p. let s = c.in_ok-at.ensures.sent c.args.elem x v r
      (sym c.in-Some.ensures)
      (sym c.in-Some-shape_of.ensures) p in
      (s.behind, s.put));
}

pub walk_pairs-returns-clause-sent : goal.walk_pairs-returns-clause-sent
walk_pairs-returns-clause-sent g t c = λ ps rest b counted.
    entries_ended (Reaches g.V.Visitor.tells) (reached_both g.V.Visitor.tells g.met.V.Visitor.joined)
    (reached_prefix g.V.Visitor.tells g.met.V.Visitor.cut) (c.pairs.invariant.left ps rest b counted)
    c.pairs.at (as_stop c.map_ends-2.result) c.closed-2.result c.closed-2.ensures refl (omega arith)
    (reached g.V.Visitor.tells c.map_ends-2.result c.map_ends-2.ensures)

pub walk_pairs-returns-clause-stands : goal.walk_pairs-returns-clause-stands
walk_pairs-returns-clause-stands g t c = end_as _ c.pairs.at (as_stop c.map_ends-2.result) c.closed-2.result
    c.closed-2.ensures
    (c.pairs.invariant.stands c.pairs.at
    (end_found (no_pairs_stand _ _ _ _ _ _ _ _ (omega arith) c.pairs.invariant.inside)))

-- ---- one pair

pub walk_pair-returns-in_err-behind-clause-sent : goal.walk_pair-returns-in_err-behind-clause-sent
walk_pair-returns-in_err-behind-clause-sent g t c = λ e x v rest isk ise b.
    sent_failed (Reaches g.V.Visitor.tells) c.from_residual.result c.from_residual.ensures.1
    ((reached_prefix g.V.Visitor.tells g.met.V.Visitor.cut) _ _
    (value_told (g.S.Shapes.table c.args.shapes.now) c.args.id x) _ _
    (c.in_err-behind.ensures.sent c.args.id x b.behind isk b.key).put)

pub walk_pair-returns-in_err-behind-clause-stands : goal.walk_pair-returns-in_err-behind-clause-stands
walk_pair-returns-in_err-behind-clause-stands g t c = IfOk-from_err c.from_residual.result _
    c.from_residual.ensures.0

pub walk_pair-returns-in_err-between-clause-sent : goal.walk_pair-returns-in_err-between-clause-sent
walk_pair-returns-in_err-between-clause-sent g t c = λ e x v rest isk ise b.
    sent_failed (Reaches g.V.Visitor.tells) c.from_residual-in_err-between.result
    c.from_residual-in_err-between.ensures.1
    ((reached_both g.V.Visitor.tells g.met.V.Visitor.joined) _ _ _
    (value_told (g.S.Shapes.table c.args.shapes.now) c.args.id x) _ _
    (c.in_ok-behind.ensures.sent c.args.id x b.behind isk b.key).put
    ((reached_prefix g.V.Visitor.tells g.met.V.Visitor.cut) _ _ (event.between c.args.id ∷ []) _ _
    (stopped g.V.Visitor.tells c.in_err-between.ensures)))

pub walk_pair-returns-in_err-between-clause-stands : goal.walk_pair-returns-in_err-between-clause-stands
walk_pair-returns-in_err-between-clause-stands g t c = IfOk-from_err c.from_residual-in_err-between.result _
    c.from_residual-in_err-between.ensures.0

pub walk_pair-returns-in_err-end-clause-sent : goal.walk_pair-returns-in_err-end-clause-sent
walk_pair-returns-in_err-end-clause-sent g t c = λ e x v rest isk ise b.
    let first = (c.in_ok-behind.ensures.sent c.args.id x b.behind isk b.key) in
    sent_failed (Reaches g.V.Visitor.tells) c.from_residual-in_err-end.result c.from_residual-in_err-end.ensures.1
    ((reached_both g.V.Visitor.tells g.met.V.Visitor.joined) _ _ _
    (value_told (g.S.Shapes.table c.args.shapes.now) c.args.id x) _ _ first.put
    ((reached_both g.V.Visitor.tells g.met.V.Visitor.joined) _ _ _ (event.between c.args.id ∷ []) _ _
    (took g.V.Visitor.tells c.in_ok-between.ensures)
    ((reached_prefix g.V.Visitor.tells g.met.V.Visitor.cut) _ _
    (value_told (g.S.Shapes.table c.args.shapes.now) e v) _ _
    (c.in_err-end.ensures.sent e v rest ise
    (subst (λ (p : List ℕ). HoldsValue (g.S.Shapes.table c.args.shapes.now) e c.args.depth v p rest)
    (sym first.behind) b.element)).put)))

pub walk_pair-returns-in_err-end-clause-stands : goal.walk_pair-returns-in_err-end-clause-stands
walk_pair-returns-in_err-end-clause-stands g t c = IfOk-from_err c.from_residual-in_err-end.result _
    c.from_residual-in_err-end.ensures.0

pub walk_pair-returns-clause-sent : goal.walk_pair-returns-clause-sent
walk_pair-returns-clause-sent g t c = λ e x v rest isk ise b.
    let first = (c.in_ok-behind.ensures.sent c.args.id x b.behind isk b.key) in
    let second = c.in_ok-end.ensures.sent e v rest ise
    (subst (λ (p : List ℕ). HoldsValue (g.S.Shapes.table c.args.shapes.now) e c.args.depth v p rest)
    (sym first.behind) b.element) in
    sent_behind (Reaches g.V.Visitor.tells) c.in_ok-end.end (as_stop c.entry_ends.result) c.closed.result
    c.closed.ensures second.behind refl
    ((reached_both g.V.Visitor.tells g.met.V.Visitor.joined) _ _ _
    (value_told (g.S.Shapes.table c.args.shapes.now) c.args.id x) _ _ first.put
    ((reached_both g.V.Visitor.tells g.met.V.Visitor.joined) _ _ _ (event.between c.args.id ∷ []) _ _
    (took g.V.Visitor.tells c.in_ok-between.ensures)
    ((reached_both g.V.Visitor.tells g.met.V.Visitor.joined) _ _ _
    (value_told (g.S.Shapes.table c.args.shapes.now) e v) (event.entry_ends c.args.id ∷ []) _
    second.put (reached g.V.Visitor.tells c.entry_ends.result c.entry_ends.ensures))))

pub walk_pair-returns-clause-stands : goal.walk_pair-returns-clause-stands
walk_pair-returns-clause-stands g t c = end_as _ c.in_ok-end.end (as_stop c.entry_ends.result) c.closed.result
    c.closed.ensures
    (end_of_both c.in_ok-behind.ensures.stands c.in_ok-end.ensures.stands (λ x y z p q. (y, p, q)))

-- ---- fields

pub walk_fields-returns-in_err-struct_begins-clause-sent : goal.walk_fields-returns-in_err-struct_begins-clause-sent
walk_fields-returns-in_err-struct_begins-clause-sent g t c = λ fs rest b.
    sent_failed (Reaches g.V.Visitor.tells) c.from_residual.result c.from_residual.ensures.1
    ((reached_prefix g.V.Visitor.tells g.met.V.Visitor.cut) _ _ (event.struct_begins ∷ [])
    (fields_told (g.S.Shapes.table c.args.shapes.now) c.args.types.now 0 fs) _
    (stopped g.V.Visitor.tells c.in_err-struct_begins.ensures))

pub walk_fields-returns-in_err-struct_begins-clause-stands : goal.walk_fields-returns-in_err-struct_begins-clause-stands
walk_fields-returns-in_err-struct_begins-clause-stands g t c = IfOk-from_err c.from_residual.result _
    c.from_residual.ensures.0

pub walk_fields-fields-init : goal.walk_fields-fields-init
walk_fields-fields-init g t c = record {
  inside = c.requires.place;
  stands = λ end s. s;
  left = λ fs rest b. first_present (Reaches g.V.Visitor.tells) (reached_both g.V.Visitor.tells g.met.V.Visitor.joined)
      (reached_prefix g.V.Visitor.tells g.met.V.Visitor.cut) b (took g.V.Visitor.tells c.in_ok-struct_begins.ensures);
}

pub walk_fields-fields-smaller : goal.walk_fields-fields-smaller
walk_fields-fields-smaller g t c = let up = c.in-Some-next_field.ensures.some in
    let small = c.in-Some-next_field.ensures.small in
    omega arith

pub walk_fields-returns-in_default-clause-sent : goal.walk_fields-returns-in_default-clause-sent
walk_fields-returns-in_default-clause-sent g t c = λ fs rest b.
    let left = c.fields.invariant.left fs rest b in
    let n = delta_first rest left.begins.spelled left.begins.whole in
    absurd (c.number_at.ensures.none c.in_default.is n.0 n.1 n.2)

pub walk_fields-returns-then-delta-eq0-clause-sent : goal.walk_fields-returns-then-delta-eq0-clause-sent
walk_fields-returns-then-delta-eq0-clause-sent g t c = λ fs rest b.
    fields_ended (Reaches g.V.Visitor.tells) (reached_both g.V.Visitor.tells g.met.V.Visitor.joined)
    (reached_prefix g.V.Visitor.tells g.met.V.Visitor.cut) c.args.body.now c.fields.at c.in-Some.behind
    (c.fields.invariant.left fs rest b) c.in-Some.ensures.found
    (as_stop c.struct_ends.result) c.closed.result c.closed.ensures
    (λ f e is. let some = is.0 in omega arith) (reached g.V.Visitor.tells c.struct_ends.result
    c.struct_ends.ensures)

pub walk_fields-returns-then-delta-eq0-clause-stands : goal.walk_fields-returns-then-delta-eq0-clause-stands
walk_fields-returns-then-delta-eq0-clause-stands g t c =
    end_as _ c.in-Some.behind (as_stop c.struct_ends.result) c.closed.result c.closed.ensures
    (c.fields.invariant.stands c.in-Some.behind
    (end_seen c.in-Some.ensures.stands (fields_end _ _ _ _ _ _ (omega arith))))

pub walk_fields-returns-in_default-next_field-clause-sent : goal.walk_fields-returns-in_default-next_field-clause-sent
walk_fields-returns-in_default-next_field-clause-sent g t c = λ fs rest b.
    absurd (field_stands (Reaches g.V.Visitor.tells) (reached_both g.V.Visitor.tells g.met.V.Visitor.joined)
    (reached_prefix g.V.Visitor.tells g.met.V.Visitor.cut) c.args.body.now c.fields.at c.in-Some.behind
    (c.fields.invariant.left fs rest b) c.in-Some.ensures.found
    c.if-delta-eq0.false (c.next_field.ensures.none c.in_default-next_field.is))

pub walk_fields-returns-in_err-tell_field-clause-sent : goal.walk_fields-returns-in_err-tell_field-clause-sent
walk_fields-returns-in_err-tell_field-clause-sent g t c = λ fs rest b.
    sent_failed (Reaches g.V.Visitor.tells) c.from_residual-in_err-tell_field.result
    c.from_residual-in_err-tell_field.ensures.1
    (field_failed (Reaches g.V.Visitor.tells) (reached_both g.V.Visitor.tells g.met.V.Visitor.joined)
    (reached_prefix g.V.Visitor.tells g.met.V.Visitor.cut) c.args.body.now c.fields.at c.in-Some.behind
    (c.fields.invariant.left fs rest b) c.in-Some.ensures.found
    c.in-Some-next_field.number c.in-Some-next_field.field.now c.in-Some-next_field.ensures.some
    (λ v r p. (reached_prefix g.V.Visitor.tells g.met.V.Visitor.cut) _ _ (event.present _ _ _ ∷ []) _ _
    (stopped g.V.Visitor.tells c.in_err-tell_field.ensures)))

pub walk_fields-returns-in_err-tell_field-clause-stands : goal.walk_fields-returns-in_err-tell_field-clause-stands
walk_fields-returns-in_err-tell_field-clause-stands g t c = IfOk-from_err c.from_residual-in_err-tell_field.result _
    c.from_residual-in_err-tell_field.ensures.0

pub walk_fields-returns-in_err-at-clause-sent : goal.walk_fields-returns-in_err-at-clause-sent
walk_fields-returns-in_err-at-clause-sent g t c = λ fs rest b.
    sent_failed (Reaches g.V.Visitor.tells) c.from_residual-in_err-at.result c.from_residual-in_err-at.ensures.1
    (field_failed (Reaches g.V.Visitor.tells) (reached_both g.V.Visitor.tells g.met.V.Visitor.joined)
    (reached_prefix g.V.Visitor.tells g.met.V.Visitor.cut) c.args.body.now c.fields.at c.in-Some.behind
    (c.fields.invariant.left fs rest b) c.in-Some.ensures.found
    c.in-Some-next_field.number c.in-Some-next_field.field.now c.in-Some-next_field.ensures.some
    (λ v r p. (reached_both g.V.Visitor.tells g.met.V.Visitor.joined) _ _ _ (event.present _ _ _ ∷ []) _ _
    (took g.V.Visitor.tells c.in_ok-tell_field.ensures) (c.in_err-at.ensures.sent v r p).put))

pub walk_fields-returns-in_err-at-clause-stands : goal.walk_fields-returns-in_err-at-clause-stands
walk_fields-returns-in_err-at-clause-stands g t c = IfOk-from_err c.from_residual-in_err-at.result _
    c.from_residual-in_err-at.ensures.0

pub walk_fields-fields-preserved : goal.walk_fields-fields-preserved
walk_fields-fields-preserved g t c = record {
  inside = c.in_ok-at.ensures.stands.inside;
  stands = λ end s. c.fields.invariant.stands end (end_of_three c.in-Some.ensures.stands c.in_ok-at.ensures.stands s
      (field_begins _ _ _ _ _ _ _ c.in-Some-next_field.field.now c.in-Some-next_field.ensures.some.0
      c.in-Some-next_field.ensures.some.1 c.in-Some-next_field.ensures.some.2));
  left = λ fs rest b.
      field_put (Reaches g.V.Visitor.tells) (reached_both g.V.Visitor.tells g.met.V.Visitor.joined)
      (reached_prefix g.V.Visitor.tells g.met.V.Visitor.cut) c.args.body.now c.fields.at c.in-Some.behind
      (c.fields.invariant.left fs rest b) c.in-Some.ensures.found
      c.in-Some-next_field.number c.in-Some-next_field.field.now c.in-Some-next_field.ensures.some
      (λ v r p. let s = c.in_ok-at.ensures.sent v r p in (
        s.behind,
        (reached_both g.V.Visitor.tells g.met.V.Visitor.joined) _ _ _ (event.present _ _ _ ∷ []) _ _
            (took g.V.Visitor.tells c.in_ok-tell_field.ensures) s.put,
      ));
}

-- ---- one field

pub walk_field-returns-in_err-end-clause-sent : goal.walk_field-returns-in_err-end-clause-sent
walk_field-returns-in_err-end-clause-sent g t c = λ v rest b.
    sent_failed (Reaches g.V.Visitor.tells) c.from_residual.result c.from_residual.ensures.1
    ((reached_prefix g.V.Visitor.tells g.met.V.Visitor.cut) _ _
    (value_told (g.S.Shapes.table c.args.shapes.now) c.args.id v) (event.field_ends ∷ []) _
    (c.in_err-end.ensures.sent v rest b).put)

pub walk_field-returns-in_err-end-clause-stands : goal.walk_field-returns-in_err-end-clause-stands
walk_field-returns-in_err-end-clause-stands g t c = IfOk-from_err c.from_residual.result _ c.from_residual.ensures.0

pub walk_field-returns-clause-sent : goal.walk_field-returns-clause-sent
walk_field-returns-clause-sent g t c = λ v rest b.
    let value = c.in_ok-end.ensures.sent v rest b in
    sent_behind (Reaches g.V.Visitor.tells) c.in_ok-end.end
    (as_stop c.field_ends.result) c.closed.result c.closed.ensures
    value.behind refl
    ((reached_both g.V.Visitor.tells g.met.V.Visitor.joined) _ _ _
    (value_told (g.S.Shapes.table c.args.shapes.now) c.args.id v)
    (event.field_ends ∷ []) _ value.put (reached g.V.Visitor.tells c.field_ends.result c.field_ends.ensures))

pub walk_field-returns-clause-stands : goal.walk_field-returns-clause-stands
walk_field-returns-clause-stands g t c = end_as _ c.in_ok-end.end (as_stop c.field_ends.result) c.closed.result
    c.closed.ensures c.in_ok-end.ensures.stands

-- ---- a part

pub walk_typed-returns-in-Some-clause-sent : goal.walk_typed-returns-in-Some-clause-sent
walk_typed-returns-in-Some-clause-sent g t c = λ v rest b.
    let is = of_basic {T = g.S.Shapes.table c.args.shapes.now} {t = c.args.id} c.basic_of.ensures c.in-Some.is refl in
    c.walk_basic.ensures.sent (g.S.Shapes.table c.args.shapes.now) c.args.id v rest
    (subst (λ k. HoldsKind (g.S.Shapes.table c.args.shapes.now) k v (drop c.args.at c.args.body.now) rest) is.same
    (value_as is.shape is.found b))

pub walk_typed-returns-in-Some-clause-stands : goal.walk_typed-returns-in-Some-clause-stands
walk_typed-returns-in-Some-clause-stands g t c = if_ok c.walk_basic.result (λ end s. record {
  inside = (s (g.S.Shapes.table c.args.shapes.now)).inside;
  stands = λ k. basic_part _ false c.if-depth-gt0.true (sym c.basic_of.ensures ∙ c.in-Some.is)
      ((s (g.S.Shapes.table c.args.shapes.now)).stands k) (λ t. absurd (not_tidy t));
}) c.walk_basic.ensures.stands

pub walk_typed-returns-in-Some-shape_of-clause-sent : goal.walk_typed-returns-in-Some-shape_of-clause-sent
walk_typed-returns-in-Some-shape_of-clause-sent g t c = λ v rest b.
    c.walk_value.ensures.sent c.args.id v rest
    (sym c.in-Some-shape_of.ensures) b

pub walk_typed-returns-in-Some-shape_of-clause-stands : goal.walk_typed-returns-in-Some-shape_of-clause-stands
walk_typed-returns-in-Some-shape_of-clause-stands g t c = if_ok c.walk_value.result (λ end s. record {
  inside = s.inside;
  stands = λ k. kept_part _ false (sym c.in-Some-shape_of.ensures) (s.stands k) (λ t. absurd (not_tidy t));
}) c.walk_value.ensures.stands

pub walk_typed-returns-in-None-clause-sent : goal.walk_typed-returns-in-None-clause-sent
walk_typed-returns-in-None-clause-sent g t c = λ v rest b. absurd (shape_there b (sym c.in-None.ensures))

pub walk_part-returns-in-Basic-clause-sent : goal.walk_part-returns-in-Basic-clause-sent
walk_part-returns-in-Basic-clause-sent g t c = λ t v rest is b.
    c.walk_basic.ensures.sent (g.S.Shapes.table c.args.shapes.now) t v rest
    (subst (λ k. HoldsKind (g.S.Shapes.table c.args.shapes.now) k v (drop c.args.at c.args.body.now) rest)
    (c.in-Basic.is)
    (value_as c.args.shape.now is b))

pub walk_part-returns-in-Basic-clause-stands : goal.walk_part-returns-in-Basic-clause-stands
walk_part-returns-in-Basic-clause-stands g t c = rw c.in-Basic.is (if_ok c.walk_basic.result
    (λ end s. end_seen (s _) (deeper _ _ c.if-depth-gt0.true)) c.walk_basic.ensures.stands)

-- ---- a value

pub walk_value-returns-in-Basic-clause-sent : goal.walk_value-returns-in-Basic-clause-sent
walk_value-returns-in-Basic-clause-sent g t c = λ t v rest is b.
    c.walk_basic.ensures.sent (g.S.Shapes.table c.args.shapes.now) t v rest
    (subst (λ k. HoldsKind (g.S.Shapes.table c.args.shapes.now) k v (drop c.args.at c.args.body.now) rest)
    (c.in-Basic.is)
    (value_as c.args.shape.now is b))

pub walk_value-returns-in-Basic-clause-stands : goal.walk_value-returns-in-Basic-clause-stands
walk_value-returns-in-Basic-clause-stands g t c = rw c.in-Basic.is (if_ok c.walk_basic.result
    (λ end s. end_seen (s _) (deeper _ _ (omega arith))) c.walk_basic.ensures.stands)

pub walk_value-returns-in-Opaque-clause-sent : goal.walk_value-returns-in-Opaque-clause-sent
walk_value-returns-in-Opaque-clause-sent g t c = λ t v rest is b.
    c.walk_raw.ensures.sent (g.S.Shapes.table c.args.shapes.now) t c.in-Opaque.field-0 v rest is
    (subst (λ k. HoldsKind (g.S.Shapes.table c.args.shapes.now) k v (drop c.args.at c.args.body.now) rest)
    (c.in-Opaque.is)
    (value_as c.args.shape.now is b))

pub walk_value-returns-in-Opaque-clause-stands : goal.walk_value-returns-in-Opaque-clause-stands
walk_value-returns-in-Opaque-clause-stands g t c = rw c.in-Opaque.is (if_ok c.walk_raw.result
    (λ end s. end_seen (s _ c.in-Opaque.field-0) (deeper _ _ (omega arith))) c.walk_raw.ensures.stands)

pub walk_value-returns-in-Struct-clause-sent : goal.walk_value-returns-in-Struct-clause-sent
walk_value-returns-in-Struct-clause-sent g t c = λ t v rest is b.
    struct_sent (Reaches g.V.Visitor.tells) c.args.shape.now is c.walk_fields.result b c.in-Struct.fields
    (c.in-Struct.is) c.walk_fields.ensures.sent

pub walk_value-returns-in-Struct-clause-stands : goal.walk_value-returns-in-Struct-clause-stands
walk_value-returns-in-Struct-clause-stands g t c = rw c.in-Struct.is (if_ok c.walk_fields.result
    (λ end s. end_seen s (struct_begins _ _ c.in-Struct.fields c.args.depth
    (omega arith))) c.walk_fields.ensures.stands)

pub walk_value-returns-in_default-clause-sent : goal.walk_value-returns-in_default-clause-sent
walk_value-returns-in_default-clause-sent g t c = λ t v rest is b.
    let n = list_count c.args.shape.now is b c.in-Slice.elem (c.in-Slice.is) in
    absurd (c.number_at.ensures.none c.in_default.is n.0 n.1 n.2)

pub walk_value-returns-in-Some-clause-sent : goal.walk_value-returns-in-Some-clause-sent
walk_value-returns-in-Some-clause-sent g t c = λ t v rest is b.
    slice_sent (Reaches g.V.Visitor.tells) c.args.shape.now is c.walk_elements.result b c.in-Slice.elem (c.in-Slice.is)
    (λ ps rest q. let all = list_elements c.args.body.now c.args.at c.in-Some.behind c.in-Some.ensures.found q in
    c.walk_elements.ensures.sent ps rest all.0 all.1)

pub walk_value-returns-in-Some-clause-stands : goal.walk_value-returns-in-Some-clause-stands
walk_value-returns-in-Some-clause-stands g t c = rw c.in-Slice.is (if_ok c.walk_elements.result
    (λ end s. end_of_both c.in-Some.ensures.stands s (slice_begins _ _ c.in-Slice.elem c.args.depth _ (omega arith)))
    c.walk_elements.ensures.stands)

pub walk_value-returns-in_default-number_at-clause-sent : goal.walk_value-returns-in_default-number_at-clause-sent
walk_value-returns-in_default-number_at-clause-sent g t c = λ t v rest is b.
    let n = array_count c.args.shape.now is b c.in-Array.elem c.in-Array.len (c.in-Array.is) in
    absurd (c.number_at-in-Array.ensures.none c.in_default-number_at.is c.in-Array.len n.0 n.1)

pub walk_value-returns-else-count-len-clause-sent : goal.walk_value-returns-else-count-len-clause-sent
walk_value-returns-else-count-len-clause-sent g t c = λ t v rest is b.
    array_sent (Reaches g.V.Visitor.tells) c.args.shape.now is c.walk_elements-in-Array.result b c.in-Array.elem
    c.in-Array.len (c.in-Array.is)
    (λ ps rest q. let all = list_elements c.args.body.now c.args.at c.in-Some-number_at.behind
    c.in-Some-number_at.ensures.found q in
    c.walk_elements-in-Array.ensures.sent ps rest all.0 all.1)

pub walk_value-returns-then-count-len-clause-sent : goal.walk_value-returns-then-count-len-clause-sent
walk_value-returns-then-count-len-clause-sent g t c = λ t v rest is b.
    let n = array_count c.args.shape.now is b c.in-Array.elem c.in-Array.len (c.in-Array.is) in
    let counted = (c.in-Some-number_at.ensures.found c.in-Array.len n.0 n.1).0 in
    absurd (c.if-count-len.true counted)

pub walk_value-returns-else-count-len-clause-stands : goal.walk_value-returns-else-count-len-clause-stands
walk_value-returns-else-count-len-clause-stands g t c = rw c.in-Array.is (if_ok c.walk_elements-in-Array.result
    (λ end s. end_of_both c.in-Some-number_at.ensures.stands s (array_begins _ _ c.in-Array.elem c.args.depth _
    c.in-Array.len
    (omega arith) (omega arith))) c.walk_elements-in-Array.ensures.stands)

pub walk_value-returns-in_default-number_at-2-clause-sent : goal.walk_value-returns-in_default-number_at-2-clause-sent
walk_value-returns-in_default-number_at-2-clause-sent g t c = λ t v rest is b.
    let n = map_count c.args.shape.now is b c.in-Map.key c.in-Map.elem (c.in-Map.is) in
    absurd (c.number_at-in-Map.ensures.none c.in_default-number_at-2.is n.0 n.1 n.2)

pub walk_value-returns-in-Some-number_at-2-clause-sent : goal.walk_value-returns-in-Some-number_at-2-clause-sent
walk_value-returns-in-Some-number_at-2-clause-sent g t c = λ t v rest is b.
    map_sent (Reaches g.V.Visitor.tells) c.args.shape.now is c.walk_pairs.result b c.in-Map.key c.in-Map.elem
    (c.in-Map.is)
    (λ ps rest q. let all = map_entries c.args.body.now c.args.at c.in-Some-number_at-2.behind
    c.in-Some-number_at-2.ensures.found q in
    c.walk_pairs.ensures.sent ps rest all.0 all.1)

pub walk_value-returns-in-Some-number_at-2-clause-stands : goal.walk_value-returns-in-Some-number_at-2-clause-stands
walk_value-returns-in-Some-number_at-2-clause-stands g t c = rw c.in-Map.is (if_ok c.walk_pairs.result
    (λ end s. end_of_both c.in-Some-number_at-2.ensures.stands s (map_begins _ _ c.in-Map.key c.in-Map.elem c.args.depth
    _
    (omega arith))) c.walk_pairs.ensures.stands)
