use Rattle.std.proofs.Common.{◌≡◌, ◌∙◌, ◌+◌, ◌-◌, ◌<◌, ◌≤◌, ◌^◌, ◌∷◌, ◌++◌, [], ap, append_assoc, arith, drop}
use Rattle.std.proofs.Common.{length, refl, subst, sym, take}
use Rattle.std.proofs.lemmas.List.{length-append, length-drop, length-take-le}
use Rattle.gob_types.specs.Defined.{types}
use Rattle.gob_value.specs.Top.{SpellsTop}
use Rattle.gob_read.specs.Calls.Builders.{check_building}
use Rattle.gob_read.specs.Calls.UnderWay.{HasReadBody}
use Rattle.gob_read.specs.Machine.Nil.{ExpectsNil}
use Rattle.gob_filled_match.proofs.TakingLaws.{ends_at_nil, ends_behind, none_left_behind, number_on, stands_on}
use Rattle.gob_filled_match.proofs.TakingLaws.{rest_is, whole_taken, zero_taken}
use Rattle.gob_filled_match.proofs.taking.take_nil.Goals as goal

pub fill-requires-clause-clear : goal.fill-requires-clause-clear
fill-requires-clause-clear c = c.announce.ensures.clear (types c.args.table.now) c.in-Ok-Nil.ensures.clear

pub fill-requires-clause-at_nil : goal.fill-requires-clause-at_nil
fill-requires-clause-at_nil c =
    c.announce.ensures.at_nil (types c.args.table.now) (rw c.in-Ok-Nil.field-0-is at c.in-Ok-Nil.ensures.at_nil)

pub returns-in-Ok-More : goal.returns-in-Ok-More
returns-in-Ok-More c = λ u s.
    let T = types c.args.table.now in
    let z = c.args.skeleton.now.bytes.items in
    let b = c.args.numbered.now in
    let at = c.args.at in
    let used = c.in-Ok-Nil.used in
    let behind = c.in_ok-behind-in-Ok-Nil.behind in
    let given = c.in-Ok-Nil.ensures.given u 65536 (length z + (length b - at)) z s.read in
    let stops = rw c.in-Ok-Nil.field-0-is at given in
    let piece = rest_is at b in
    let within : used ≤ length (drop at b) = subst (λ x. used ≤ length x) piece stops.within in
    let after : HasReadBody check_building T u 65536 (length z + (length b - at)) c.push_to_nil.new.self
    (z ++ take used (drop at b)) =
    subst (λ x. HasReadBody check_building T u 65536 (length z + (length b - at)) c.push_to_nil.new.self
    (z ++ take used x)) piece stops.takes.after in
    let nil : ExpectsNil T u (z ++ take used (drop at b)) =
    subst (λ x. ExpectsNil T u (z ++ take used x)) piece stops.nil in
    let t = c.in_ok-behind-in-Ok-Nil.ensures in
    let front = z ++ take used (drop at b) in
    let sum : length front ≡ length z + length (take used (drop at b)) = length-append z (take used (drop at b)) in
    let count : length (take used (drop at b)) ≡ used = length-take-le used (drop at b) within in
    let few = s.short in
    let onward = t.onward in
    let inside = t.inside in
    let small : length front + (length b - behind + 1) < 2 ^ 64 = omega (arith, sum, count, few, onward, inside) in
    let read = c.announce.ensures.read T u 65536 (length z + (length b - at)) front small after in
    let more = c.in-Ok-More.ensures.given u 65536 (length front + (length b - behind + 1)) front read in
    let takes = rw c.in-Ok-More.field-0-is at more in record {
      on = number_on t (nil.depth, nil.expects);
      stands = stands_on t t.onward s.short within takes.after c.in-Ok-More.ensures.clear;
    }

pub returns-in-Ok-Done-fill : goal.returns-in-Ok-Done-fill
returns-in-Ok-Done-fill c = λ u s.
    let T = types c.args.table.now in
    let z = c.args.skeleton.now.bytes.items in
    let b = c.args.numbered.now in
    let at = c.args.at in
    let used = c.in-Ok-Nil.used in
    let behind = c.in_ok-behind-in-Ok-Nil.behind in
    let given = c.in-Ok-Nil.ensures.given u 65536 (length z + (length b - at)) z s.read in
    let stops = rw c.in-Ok-Nil.field-0-is at given in
    let piece = rest_is at b in
    let within : used ≤ length (drop at b) = subst (λ x. used ≤ length x) piece stops.within in
    let after : HasReadBody check_building T u 65536 (length z + (length b - at)) c.push_to_nil.new.self
    (z ++ take used (drop at b)) =
    subst (λ x. HasReadBody check_building T u 65536 (length z + (length b - at)) c.push_to_nil.new.self
    (z ++ take used x)) piece stops.takes.after in
    let nil : ExpectsNil T u (z ++ take used (drop at b)) =
    subst (λ x. ExpectsNil T u (z ++ take used x)) piece stops.nil in
    let t = c.in_ok-behind-in-Ok-Nil.ensures in
    let front = z ++ take used (drop at b) in
    let sum : length front ≡ length z + length (take used (drop at b)) = length-append z (take used (drop at b)) in
    let count : length (take used (drop at b)) ≡ used = length-take-le used (drop at b) within in
    let few = s.short in
    let onward = t.onward in
    let inside = t.inside in
    let small : length front + (length b - behind + 1) < 2 ^ 64 = omega (arith, sum, count, few, onward, inside) in
    let read = c.announce.ensures.read T u 65536 (length z + (length b - at)) front small after in
    let more = c.in-Ok-Done-fill.ensures.given u 65536 (length front + (length b - behind + 1)) front read in
    let ends = rw c.in-Ok-Done-fill.field-0-is at more in
    ends_at_nil {v = ends.made.value} (number_on t (nil.depth, nil.expects))
    (none_left_behind b front behind _ t.inside ends.made.all)
    (subst (SpellsTop T u ends.made.value)
    (zero_taken front _ (length b - behind) ends.made.all ∙ append_assoc z (take used (drop at b)) (0 ∷ [])
    ∙ sym t.bytes) ends.made.spelled)

pub returns-in_ok-extend_from_slice-in-Ok-Done : goal.returns-in_ok-extend_from_slice-in-Ok-Done
returns-in_ok-extend_from_slice-in-Ok-Done c = λ u s.
    let T = types c.args.table.now in
    let z = c.args.skeleton.now.bytes.items in
    let b = c.args.numbered.now in
    let at = c.args.at in
    let used = c.in-Ok-Done.used in
    let given = c.in-Ok-Done.ensures.given u 65536 (length z + (length b - at)) z s.read in
    let ends = rw c.in-Ok-Done.field-0-is at given in
    let piece = rest_is at b in
    let within : used ≤ length (drop at b) = subst (λ x. used ≤ length x) piece ends.within in
    let all : length (z ++ take used (drop at b)) ≡ length z + (length b - at) =
    subst (λ x. length (z ++ take used x) ≡ length z + (length b - at)) piece ends.made.all in
    let spelled : SpellsTop T u ends.made.value (z ++ take used (drop at b)) =
    subst (λ x. SpellsTop T u ends.made.value (z ++ take used x)) piece ends.made.spelled in
    let rest : length (drop at b) ≡ length b - at = length-drop at b in
    let whole = whole_taken z (drop at b) used within (all ∙ ap (λ n. length z + n) (sym rest)) in
    let same : (at + used) - at ≡ used = omega arith in
    let bytes : c.extend_from_slice.new.self.items ≡ z ++ drop at b =
    c.in_ok-extend_from_slice-in-Ok-Done.ensures.items
    ∙ ap (λ n. z ++ take n (drop at b)) same ∙ ap (λ x. z ++ x) whole in
    ends_behind bytes refl
    (subst (SpellsTop T u ends.made.value) (ap (λ x. z ++ x) whole ∙ sym bytes) spelled)
