-- What was put of parts says what stands behind the bracket, and where parts stand that can be put, so do those behind.
use Rattle.std.proofs.Common.{[], ◌+◌, ◌*◌, length, ℕ}
use Rattle.gob_go_lines.specs.Lines.{known}
use Rattle.gob_go_lines.specs.Says.{SaysEach, SaysFields, SaysPairs}
use Rattle.gob_go_lines.proofs.PartLaws.{HasSaid, Leaves}
use Rattle.gob_go_lines.proofs.value.+depth.Given as goal

abbrev pub decreases-put_value : goal.decreases-put_value
decreases-put_value l = 3 * l.depth

abbrev pub decreases-put_top : goal.decreases-put_top
decreases-put_top l = 3 * l.depth + 1

abbrev pub decreases-put_interface : goal.decreases-put_interface
decreases-put_interface l = 3 * l.depth + 2

abbrev pub decreases-read_elements : goal.decreases-read_elements
decreases-read_elements l = 3 * l.depth + 1

abbrev pub decreases-read_entries : goal.decreases-read_entries
decreases-read_entries l = 3 * l.depth + 1

abbrev pub decreases-put_fields : goal.decreases-put_fields
decreases-put_fields l = 3 * l.depth + 1

abbrev pub invariant-read_elements-elements : goal.invariant-read_elements-elements
invariant-read_elements-elements l = record {
  says : HasSaid (SaysEach (known l.reading) l.reading.holds l.id l.depth)
      (SaysEach (known l.reading) l.reading.holds l.id l.depth) l.fn.tokens l.tokens l.count [] l.bytes.items;
  leaves : Leaves (SaysEach (known l.reading) l.reading.holds l.id l.depth)
      (SaysEach (known l.reading) l.reading.holds l.id l.depth) l.fn.tokens l.tokens l.count [] l.bytes.items;
}

abbrev pub decreases-read_elements-elements : goal.decreases-read_elements-elements
decreases-read_elements-elements l = length l.tokens

abbrev pub invariant-read_entries-entries : goal.invariant-read_entries-entries
invariant-read_entries-entries l = record {
  says : HasSaid (SaysPairs (known l.reading) l.reading.holds l.entry.key l.entry.elem l.depth)
      (SaysPairs (known l.reading) l.reading.holds l.entry.key l.entry.elem l.depth) l.fn.tokens l.tokens l.count []
      l.bytes.items;
  leaves : Leaves (SaysPairs (known l.reading) l.reading.holds l.entry.key l.entry.elem l.depth)
      (SaysPairs (known l.reading) l.reading.holds l.entry.key l.entry.elem l.depth) l.fn.tokens l.tokens l.count []
      l.bytes.items;
}

abbrev pub decreases-read_entries-entries : goal.decreases-read_entries-entries
decreases-read_entries-entries l = length l.tokens

-- how many fields were put isn't kept by the code
abbrev pub invariant-put_fields-present : goal.invariant-put_fields-present
invariant-put_fields-present l = record {
  says : (count : ℕ) × HasSaid (SaysFields (known l.reading) l.reading.holds l.fields l.next l.depth)
      (SaysFields (known l.reading) l.reading.holds l.fields 0 l.depth) l.fn.tokens l.tokens count l.fn.out.items
      l.out.items;
  leaves : (count : ℕ) × Leaves (SaysFields (known l.reading) l.reading.holds l.fields l.next l.depth)
      (SaysFields (known l.reading) l.reading.holds l.fields 0 l.depth) l.fn.tokens l.tokens count l.fn.out.items
      l.out.items;
}

abbrev pub decreases-put_fields-present : goal.decreases-put_fields-present
decreases-put_fields-present l = length l.tokens
