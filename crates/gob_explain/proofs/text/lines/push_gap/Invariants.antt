-- So many spaces were added.
use Rattle.std.proofs.Common.{◌≡◌, ◌+◌, ◌*◌, ◌++◌, string_bytes}
use Rattle.gob_explain.specs.Column.{spaces}
use Rattle.gob_explain.proofs.text.lines.push_gap.Given as goal

abbrev pub invariant-bytes : goal.invariant-bytes
invariant-bytes l = string_bytes l.out ≡ string_bytes l.fn.out ++ spaces (3 * l.byte)

abbrev pub invariant-levels : goal.invariant-levels
invariant-levels l = string_bytes l.out ≡ string_bytes l.fn.out ++ spaces (3 * l.missing + 2 + 2 * l.level)
