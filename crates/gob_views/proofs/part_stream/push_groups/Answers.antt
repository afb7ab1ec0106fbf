-- Group by group the lines are made, and what has them is let go of.
use Rattle.std.proofs.Common.{arith, refl, ◌∙◌}
use Rattle.std.proofs.lemmas.Result.{on_ok_weaker}
use Rattle.gob_types.specs.Defined.{types}
use Rattle.gob_views.proofs.PartLineLaws.{more_made, none_made}
use Rattle.gob_views.proofs.PartStreamLaws.{none_printed, some_printed}
use Rattle.gob_views.proofs.part_stream.push_groups.Goals as goal

pub returns-then-not-is_due : goal.returns-then-not-is_due
returns-then-not-is_due c = λ each has.
    let of = c.args.of.now in
    none_printed of.lines of.style (types of.table.now) of.id c.args.depth c.args.left.now.ahead
    c.args.left.now.bytes.items c.args.text.now.items

pub groups-init : goal.groups-init
groups-init c =
    let of = c.args.of.now in record {
      bytes = refl;
      same = refl;
      inside = c.is_due.ensures c.if-not-is_due.false;
      made = λ each has. none_made of.lines of.style (types of.table.now) of.id c.args.depth
          c.args.left.now.ahead.parts;
    }

pub groups-preserved : goal.groups-preserved
groups-preserved c =
    let of = c.args.of.now in
    let i = c.groups.invariant in
    let few = rw c.in-Some.is at c.in_ok-group.ensures.few in
    let inside = rw c.deref.ensures.value at (rw c.in-Some.is at c.in_ok-group.ensures.inside) in
    record {
      bytes = i.bytes;
      same = i.same;
      inside = inside;
      made = λ each has.
          let put = rw i.bytes at (rw c.deref.ensures.value at (rw c.in-Some.is at (c.in_ok-group.ensures.put each
          (rw (← i.same) at has)))) in
          more_made of.lines of.style (types of.table.now) of.id c.args.depth c.args.left.now.ahead.parts
          (i.made each has) refl (omega (arith, few.1)) (rw i.same at put);
    }
