use Rattle.std.proofs.Common.{◌≡◌, arith, subst, sym}
use Rattle.std.proofs.lemmas.List.{nil_from_length}
use Rattle.gob_types.specs.Defined.{types}
use Rattle.gob_types.specs.Machine.Walk.{AddsAll}
use Rattle.gob_types.proofs.FirstLaws.{none_first, read_at}
use Rattle.gob_types.proofs.WalkLaws.{met_names, met_start, met_undefined}
use Rattle.gob_views.proofs.ReachLaws.{all_bare, next_bare, next_undefined}
use Rattle.gob_views.proofs.each.leads_to_interface.Goals as goal

pub types-init : goal.types-init
types-init c = record {
  met = met_start (types c.args.table.now) c.args.id _
      (subst (λ ids. AddsAll ids c.meet.new.met.keys (λ u. c.args.id ≡ u)) (nil_from_length _ c.new-met.ensures.len)
      c.in_ok-meet.ensures);
  bare = none_first;
}

pub types-preserved-in_default : goal.types-preserved-in_default
types-preserved-in_default c =
    let at = read_at c.types.next _ c.as_slice.ensures.keys (omega (arith, c.types-test.true, c.len.ensures.len)) in
    record {
      met = met_undefined (types c.args.table.now) c.args.id _ c.types.met.keys c.types.next c.types.invariant.met at
          (sym c.in_default.ensures);
      bare = next_undefined c.types.invariant.bare at (sym c.in_default.ensures);
    }

pub types-preserved : goal.types-preserved
types-preserved c =
    let at = read_at c.types.next _ c.as_slice.ensures.keys (omega (arith, c.types-test.true, c.len.ensures.len)) in
    record {
      met = met_names (types c.args.table.now) c.args.id _ c.in-Some.shape.now c.types.met.keys
          c.meet_names.new.met.keys c.types.next c.types.invariant.met at (sym c.in-Some.ensures)
          c.in_ok-meet_names.ensures;
      bare = next_bare c.types.invariant.bare at (sym c.in-Some.ensures) (c.is_interface.ensures
          c.if-is_interface.false) c.in_ok-meet_names.ensures;
    }

pub returns : goal.returns
returns c = λ none.
    all_bare c.types.invariant.met c.types.invariant.bare (omega (arith, c.types-test.false, c.len.ensures.len))
