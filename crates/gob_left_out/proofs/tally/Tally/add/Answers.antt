use Rattle.std.proofs.Common.{◌≡◌, ◌∙◌, ap, arith, length, List, subst, sym}
use Rattle.std.specs.List.{IsDistinct}
use Rattle.std.specs.Map.{keys_of}
use Rattle.gob_left_out.specs.Machine.Tallying.{with_rows}
use Rattle.gob_left_out.specs.LeftOut.{Row}
use Rattle.gob_left_out.specs.Tally.{same_field}
use Rattle.gob_left_out.proofs.TallyLaws.{room_kept, room_left, rows_tallied}
use Rattle.gob_left_out.proofs.tally.Tally.add.Goals as goal

pub loop-field-init : goal.loop-field-init
loop-field-init c =
    let given : c.into_iter-field-iterator.result ≡ c.left.inside.rows.entries =
    c.into_iter-field-iterator.ensures.into_iter_gives.0 in
    let kept = c.in_ok-reserve.ensures.entries ∙ c.self.view_is in
    let all = given ∙ c.left.view_is in
    let many = ap length given in record {
      told = (λ i. with_rows (kept i) (all i));
      room = omega (arith, many, c.len.ensures.len, c.in_ok-reserve.ensures.ok);
    }

pub add_row-requires : goal.add_row-requires
add_row-requires c = room_left c.in-Some.ensures.steps c.loop-field.invariant.room

pub loop-field-preserved : goal.loop-field-preserved
loop-field-preserved c = record {
  told = ap (λ ts. with_rows ts c.next.new.self) c.add_row.ensures.row
      ∙ ap (λ (l : List Row). with_rows c.loop-field.self-inside.rows.entries l) (sym c.in-Some.ensures.steps)
      ∙ c.loop-field.invariant.told;
  room = room_kept c.in-Some.ensures.steps c.loop-field.invariant.room c.add_row.ensures.room;
}

pub returns-clause-tallied : goal.returns-clause-tallied
returns-clause-tallied c all e =
    let apart = subst (λ (l : List Row). IsDistinct same_field (keys_of l)) c.left.view_is c.len.ensures.unique in
    ap (λ (l : List Row). with_rows c.loop-field.self-inside.rows.entries l) (sym c.in-None.ensures.steps.0)
    ∙ c.loop-field.invariant.told ∙ ap (λ ts. with_rows ts c.args.left) e ∙ rows_tallied all c.args.left apart
