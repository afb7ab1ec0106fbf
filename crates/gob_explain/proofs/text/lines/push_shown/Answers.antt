-- A line behind those before it, and none is left at the end.
use Rattle.std.proofs.Common.{arith, length, string_bytes, ◌<◌, ◌≡◌}
use Rattle.std.proofs.lemmas.Bool.Decides.{nat_tests}
use Rattle.gob_explain.proofs.ColumnLaws.{shown_all, shown_next}
use Rattle.gob_explain.proofs.text.lines.push_shown.Goals as goal

pub loop-rest-preserved : goal.loop-rest-preserved
loop-rest-preserved c = λ most few.
    let some : 0 < length c.loop-rest.rest.now = grind (arith, nat_tests) in
    shown_next most c.args.begin c.args.bytes.now (string_bytes c.args.out.now) (string_bytes c.loop-rest.out)
    (string_bytes c.push_bytes.new.out) (string_bytes c.push_str.new.self) c.loop-rest.offset
    c.saturating_add-offset.result c.loop-rest.rest.now c.split.result.0.now c.split.result.1.now some
    (c.loop-rest.invariant most few) c.in_ok-push_bytes.ensures c.in_ok-push_str.ensures.bytes c.split.ensures.first
    c.split.ensures.others (omega (arith, c.saturating_add-offset.ensures))

pub returns : goal.returns
returns c = λ most few.
    let none : length c.loop-rest.rest.now ≡ 0 = grind (arith, nat_tests) in
    shown_all most c.args.begin c.args.bytes.now (string_bytes c.args.out.now) (string_bytes c.loop-rest.out)
    c.loop-rest.offset c.loop-rest.rest.now none (c.loop-rest.invariant most few)
