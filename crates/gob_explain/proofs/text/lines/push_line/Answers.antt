-- The parts of a line one behind another.
use Rattle.std.proofs.Common.{◌≡◌, ap, arith, length, string_bytes, take}
use Rattle.gob_explain.proofs.ColumnLaws.{line_added_ok}
use Rattle.gob_explain.proofs.text.lines.push_line.Goals as goal

pub returns : goal.returns
returns c =
    let size : length c.split.result.0.now ≡ length (take 8 c.args.bytes.now) = ap length c.split.ensures.first in
    line_added_ok c.push_more.result c.args.offset c.args.bytes.now c.args.levels c.saturating_sub.result
    c.args.meaning.now (string_bytes c.args.out.now) (string_bytes c.push_more.new.out) c.split.result.0.now
    c.split.result.1.now c.saturating_add.result (string_bytes c.push_bytes.new.out)
    (string_bytes c.push_gap.new.out) (string_bytes c.push_str.new.self) (string_bytes c.push_str-2.new.self)
    c.split.ensures.first c.split.ensures.others (omega (arith, c.saturating_sub.ensures, size))
    (omega (arith, c.saturating_add.ensures, size)) c.in_ok-push_bytes.ensures c.in_ok-push_gap.ensures
    c.in_ok-push_str.ensures.bytes c.in_ok-push_str-2.ensures.bytes c.push_more.ensures
