-- With the rows that are left all are told, and there is room for them.
use Rattle.std.proofs.Common.{◌≡◌, ◌≤◌, length}
use Rattle.indexmap.specs.IndexMap.{spare}
use Rattle.gob_left_out.specs.Machine.Tallying.{with_rows}
use Rattle.gob_left_out.proofs.tally.Tally.add.Given as goal

abbrev pub invariant-loop-field : goal.invariant-loop-field
invariant-loop-field l = record {
  told : with_rows l.self-inside.rows.entries l.field-iterator ≡ with_rows l.fn.self l.fn.left;
  room : length l.field-iterator ≤ spare l.self-inside.rows;
}
