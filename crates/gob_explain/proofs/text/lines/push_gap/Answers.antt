-- Spaces behind spaces.
use Rattle.std.proofs.Common.{◌+◌, ◌*◌, arith, string_bytes}
use Rattle.gob_explain.proofs.ColumnLaws.{more_spaces, no_spaces, three, two}
use Rattle.gob_explain.proofs.text.lines.push_gap.Goals as goal

pub bytes-init : goal.bytes-init
bytes-init c = no_spaces (string_bytes c.args.out.now)

pub bytes-preserved : goal.bytes-preserved
bytes-preserved c = more_spaces (string_bytes c.args.out.now) (string_bytes c.bytes.out)
    (string_bytes c.push_str.new.self) _ (3 * c.bytes.byte) 3 _ c.bytes.invariant three
    c.in_ok-push_str.ensures.bytes (omega arith)

pub levels-init : goal.levels-init
levels-init c = more_spaces (string_bytes c.args.out.now) (string_bytes c.bytes.out)
    (string_bytes c.push_str-2.new.self) _ (3 * c.bytes.byte) 2 _ c.bytes.invariant two
    c.in_ok-push_str-2.ensures.bytes (omega arith)

pub levels-preserved : goal.levels-preserved
levels-preserved c = more_spaces (string_bytes c.args.out.now) (string_bytes c.levels.out)
    (string_bytes c.push_str-in-levels.new.self) _ (3 * c.args.missing + 2 + 2 * c.levels.level) 2 _
    c.levels.invariant two c.in_ok-push_str-3.ensures.bytes (omega arith)
