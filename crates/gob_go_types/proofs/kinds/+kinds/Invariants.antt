-- The depth that is left bounds the descent, in which the functions stand one above another.
use Rattle.std.proofs.Common.{◌+◌, ◌*◌, take}
use Rattle.gob_go_types.specs.Machine.{Goes, HasFieldsIn, Sound}
use Rattle.gob_go_types.proofs.kinds.+kinds.Given as goal

abbrev pub decreases-id_of_parts : goal.decreases-id_of_parts
decreases-id_of_parts l = 6 * l.depth

abbrev pub decreases-id_of : goal.decreases-id_of
decreases-id_of l = 6 * l.depth + 1

abbrev pub decreases-id_at : goal.decreases-id_at
decreases-id_at l = 6 * l.depth + 2

abbrev pub decreases-push_line : goal.decreases-push_line
decreases-push_line l = 6 * l.depth + 2

abbrev pub decreases-push_lines : goal.decreases-push_lines
decreases-push_lines l = 6 * l.depth + 3

abbrev pub decreases-kind_at : goal.decreases-kind_at
decreases-kind_at l = 6 * l.depth + 4

abbrev pub invariant-push_lines-loop-line : goal.invariant-push_lines-loop-line
invariant-push_lines-loop-line l = record {
  sound : Sound l.code.source.now l.numbers;
  goes : Goes l.fn.numbers l.numbers;
  says : HasFieldsIn l.code.source.now l.numbers (take l.line-index l.lines) l.fields.items;
}
