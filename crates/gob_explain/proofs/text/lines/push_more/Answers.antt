-- The next lines, and the number of the other bytes.
use Rattle.std.proofs.Common.{arith, length, string_bytes}
use Rattle.gob_explain.proofs.ColumnLaws.{below_counted_ok, below_shown, none_by_test, some_by_test}
use Rattle.gob_explain.proofs.text.lines.push_more.Goals as goal

pub returns-then-is_empty : goal.returns-then-is_empty
returns-then-is_empty c = below_shown c.args.begin c.args.bytes.now c.split.result.0.now c.split.result.1.now
    (string_bytes c.args.out.now) (string_bytes c.push_shown.new.out) c.split.ensures.first c.split.ensures.others
    (none_by_test (length c.split.result.1.now) c.is_empty.result c.is_empty.ensures c.if-is_empty.true)
    (c.in_ok-push_shown.ensures 3 (omega (arith, c.split.ensures.size)))

pub returns : goal.returns
returns c = below_counted_ok c.write.result c.args.begin c.args.bytes.now c.split.result.0.now c.split.result.1.now
    (string_bytes c.args.out.now) (string_bytes c.push_shown.new.out) (string_bytes c.write.new.self)
    c.split.ensures.first c.split.ensures.others
    (some_by_test (length c.split.result.1.now) c.is_empty.result c.is_empty.ensures c.if-is_empty.false)
    (c.in_ok-push_shown.ensures 3 (omega (arith, c.split.ensures.size))) c.write.ensures.bytes
