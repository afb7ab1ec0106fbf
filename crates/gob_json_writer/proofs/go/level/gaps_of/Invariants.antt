-- What was read, and what is left.
use Rattle.std.proofs.Common.{◌≤◌, length, take, drop}
use Rattle.gob_types.specs.Defined.{types}
use Rattle.gob_read.specs.Calls.Builders.{check_building}
use Rattle.gob_read.specs.Calls.UnderWay.{HasReadBody}
use Rattle.gob_json_writer.proofs.GapsLaws.{GapsSoFar}
use Rattle.gob_json_writer.proofs.go.level.gaps_of.Given as goal

abbrev pub invariant-loop-filling : goal.invariant-loop-filling
invariant-loop-filling l = record {
  read : HasReadBody check_building (types l.table) l.fn.id 65536 (length l.skeleton) l.reader
      (take l.from l.skeleton);
  within : l.from ≤ length l.skeleton;
  gaps : GapsSoFar (types l.table) l.fn.id l.skeleton l.number (drop l.filling-index l.fillings) l.fillings
      l.gaps.items;
}
