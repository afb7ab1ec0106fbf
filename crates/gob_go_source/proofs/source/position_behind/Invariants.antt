-- The place behind what is read, and behind the rest from there, is that behind all.
use Rattle.std.proofs.Common.{◌≡◌, ◌+◌, ◌≤◌, drop}
use Rattle.gob_go_source.specs.Source.{moved_over, position_behind}
use Rattle.gob_go_source.proofs.source.position_behind.Given as goal

abbrev pub invariant-loop-byte : goal.invariant-loop-byte
invariant-loop-byte l = record {
  so_far : moved_over l.place (drop l.byte-index l.text) ≡ position_behind l.text;
  line : l.place.line ≤ l.byte-index + 1;
  column : l.place.column ≤ l.byte-index + 1;
}
