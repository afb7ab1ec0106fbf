-- More of them are made, and then all.
use Rattle.std.proofs.Common.{arith, refl, ◌-◌}
use Rattle.std.proofs.lemmas.Bool.{eqb-true}
use Rattle.gob_types.specs.Defined.{types}
use Rattle.gob_views.proofs.PartLineLaws.{all_made, more_made, none_made}
use Rattle.gob_views.proofs.body_lines.push_each.Goals as goal

pub groups-init : goal.groups-init
groups-init c =
    let of = c.args.of.now in record {
      same = refl;
      inside = c.requires.parts.inside;
      made = none_made of.lines of.style (types of.table.now) of.id (c.args.depth - 1) c.args.all.parts;
    }

pub groups-preserved : goal.groups-preserved
groups-preserved c =
    let of = c.args.of.now in
    let p = c.requires.parts in
    let few = rw c.in-Some.is at c.in_ok-group.ensures.few in
    let inside = rw c.in-Some.is at c.in_ok-group.ensures.inside in
    let has = rw (← c.groups.invariant.same) at p.type_is in
    let put = rw c.groups.invariant.same at (rw c.in-Some.is at c.in_ok-group.ensures.put c.requires.each has) in
    record {
      same = c.groups.invariant.same;
      inside = inside;
      made = more_made of.lines of.style (types of.table.now) of.id (c.args.depth - 1) c.args.all.parts
          c.groups.invariant.made refl (omega (arith, few.1)) put;
    }

pub returns : goal.returns
returns c = λ end.
    all_made c.args.of.now.style (c.args.depth - 1) c.requires.each c.requires.parts c.groups.invariant.made
    (omega (arith, c.groups-test.false)) (eqb-true _ _ end) (omega (arith, c.requires.deep)) c.requires.empty
