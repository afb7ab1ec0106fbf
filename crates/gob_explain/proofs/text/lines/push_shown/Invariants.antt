-- What is left of the bytes has the lines that are left.
use Rattle.std.proofs.Common.{ℕ, ◌*◌, ◌≤◌, length, string_bytes}
use Rattle.gob_explain.proofs.ColumnLaws.{IsShownUpTo}
use Rattle.gob_explain.proofs.text.lines.push_shown.Given as goal

abbrev pub invariant-loop-rest : goal.invariant-loop-rest
invariant-loop-rest l = (most : ℕ) → length l.fn.bytes ≤ 8 * most
    → IsShownUpTo most l.fn.begin l.fn.bytes (string_bytes l.fn.out) (string_bytes l.out) l.offset l.rest

abbrev pub decreases-loop-rest : goal.decreases-loop-rest
decreases-loop-rest l = length l.rest
