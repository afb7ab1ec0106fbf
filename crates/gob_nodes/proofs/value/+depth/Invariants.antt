-- What was put of parts says what stands there, and of those that stand there those behind are left.
use Rattle.std.proofs.Common.{◌+◌, ◌*◌, ◌-◌}
use Rattle.gob_nodes.specs.Calls.{known, nodes_of, pool_of}
use Rattle.gob_nodes.proofs.GroupLaws.{ListGoes, MapGoes, StructGoes}
use Rattle.gob_nodes.proofs.value.+depth.Given as goal

abbrev pub decreases-put_value : goal.decreases-put_value
decreases-put_value l = 6 * l.depth + 1

abbrev pub decreases-put_top : goal.decreases-put_top
decreases-put_top l = 6 * l.depth + 3

abbrev pub decreases-put_basic : goal.decreases-put_basic
decreases-put_basic l = 6 * l.depth

abbrev pub decreases-put_own : goal.decreases-put_own
decreases-put_own l = 6 * l.depth + 2

abbrev pub decreases-put_interface : goal.decreases-put_interface
decreases-put_interface l = 6 * l.depth + 5

abbrev pub decreases-put_held_value : goal.decreases-put_held_value
decreases-put_held_value l = 6 * l.depth + 4

abbrev pub decreases-put_elements : goal.decreases-put_elements
decreases-put_elements l = 6 * l.depth + 2

abbrev pub decreases-put_entries : goal.decreases-put_entries
decreases-put_entries l = 6 * l.depth + 2

abbrev pub decreases-put_fields : goal.decreases-put_fields
decreases-put_fields l = 6 * l.depth + 2

abbrev pub invariant-put_elements-elements : goal.invariant-put_elements-elements
invariant-put_elements-elements l = record {
  goes : ListGoes (known l.walk) (nodes_of l.walk) (pool_of l.walk) l.id l.depth l.fn.places l.places l.group
      (l.group.count - l.counter) l.fn.out.items l.out.items;
}

abbrev pub invariant-put_entries-entries : goal.invariant-put_entries-entries
invariant-put_entries-entries l = record {
  goes : MapGoes (known l.walk) (nodes_of l.walk) (pool_of l.walk) l.entry.key l.entry.elem l.depth l.fn.places
      l.places l.group (l.group.count - l.counter) l.fn.out.items l.out.items;
}

abbrev pub invariant-put_fields-present : goal.invariant-put_fields-present
invariant-put_fields-present l = record {
  goes : StructGoes (known l.walk) (nodes_of l.walk) (pool_of l.walk) l.fields l.depth l.fn.places l.places l.group
      l.next (l.group.count - l.counter) l.fn.out.items l.out.items;
}
