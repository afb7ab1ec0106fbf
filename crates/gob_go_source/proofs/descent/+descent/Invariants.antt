-- The depth that is left bounds the descent, in which the functions stand one above another.
use Rattle.std.proofs.Common.{◌+◌, ◌*◌, length}
use Rattle.gob_go_source.specs.Grammar.{SaysFields}
use Rattle.gob_go_source.specs.Grown.{Grown}
use Rattle.gob_go_source.specs.Left.{left}
use Rattle.gob_go_source.proofs.descent.+descent.Given as goal

abbrev pub decreases-read_type : goal.decreases-read_type
decreases-read_type l = 5 * l.depth

abbrev pub decreases-read_field : goal.decreases-read_field
decreases-read_field l = 5 * l.depth + 1

abbrev pub decreases-read_fields : goal.decreases-read_fields
decreases-read_fields l = 5 * l.depth + 2

abbrev pub decreases-read_struct : goal.decreases-read_struct
decreases-read_struct l = 5 * l.depth + 3

abbrev pub decreases-read_pointer : goal.decreases-read_pointer
decreases-read_pointer l = 5 * l.depth + 3

abbrev pub decreases-read_in_parentheses : goal.decreases-read_in_parentheses
decreases-read_in_parentheses l = 5 * l.depth + 3

abbrev pub decreases-read_list : goal.decreases-read_list
decreases-read_list l = 5 * l.depth + 3

abbrev pub decreases-read_map : goal.decreases-read_map
decreases-read_map l = 5 * l.depth + 3

abbrev pub decreases-read_results : goal.decreases-read_results
decreases-read_results l = 5 * l.depth + 1

abbrev pub decreases-read_channel : goal.decreases-read_channel
decreases-read_channel l = 5 * l.depth + 3

abbrev pub decreases-read_receiver : goal.decreases-read_receiver
decreases-read_receiver l = 5 * l.depth + 3

abbrev pub decreases-read_function : goal.decreases-read_function
decreases-read_function l = 5 * l.depth + 3

abbrev pub decreases-read_marked : goal.decreases-read_marked
decreases-read_marked l = 5 * l.depth + 4

abbrev pub invariant-read_fields-lines : goal.invariant-read_fields-lines
invariant-read_fields-lines l = record {
  says : SaysFields l.types.items l.fields.items (left l.fn.tokens) (left l.tokens);
  grown : Grown l.fn.types.items l.types.items;
}

abbrev pub decreases-read_fields-lines : goal.decreases-read_fields-lines
decreases-read_fields-lines l = length (left l.tokens)
