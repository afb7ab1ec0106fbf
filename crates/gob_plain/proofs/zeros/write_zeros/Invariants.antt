-- The zeros of the fields so far were written.
use Rattle.std.proofs.Common.{◌≡◌, ◌-◌, ◌≤◌, Ok}
use Rattle.std.specs.declared.alloc.AllocError.{AllocError}
use Rattle.gob_plain.specs.AbsentFields.{ZeroTokens}
use Rattle.gob_plain.specs.WritesPlain.{WritesSome}
use Rattle.gob_plain.proofs.zeros.write_zeros.Given as goal

abbrev pub invariant-loop-number : goal.invariant-loop-number
invariant-loop-number g l = record {
  still : l.end ≤ l.fn.absent.start → l.number ≡ l.fn.absent.start;
  written : WritesSome {E = AllocError} (Ok tt) l.fn.out l.out
      (ZeroTokens (g.S.Shapes.table l.table) l.types l.fn.absent.start (l.number - l.fn.absent.start));
}
