-- Whatever the rest of the tokens says, it stands behind the parts that were read.
use Rattle.std.proofs.Common.{◌≡◌, ◌+◌, ◌*◌, length}
use Rattle.gob_value.specs.View.{field_views}
use Rattle.gob_make.proofs.ReadLaws.{ElementsGoOn, EntriesGoOn, MembersGoOn, PairsGoOn}
use Rattle.gob_make.proofs.value.+depth.Given as goal

abbrev pub decreases-read_value : goal.decreases-read_value
decreases-read_value g l = 5 * l.depth

abbrev pub decreases-read_array : goal.decreases-read_array
decreases-read_array g l = 5 * l.depth + 4

abbrev pub decreases-read_elements : goal.decreases-read_elements
decreases-read_elements g l = 5 * l.depth + 3

abbrev pub decreases-read_map : goal.decreases-read_map
decreases-read_map g l = 5 * l.depth + 4

abbrev pub decreases-read_pairs : goal.decreases-read_pairs
decreases-read_pairs g l = 5 * l.depth + 3

abbrev pub decreases-read_entries : goal.decreases-read_entries
decreases-read_entries g l = 5 * l.depth + 3

abbrev pub decreases-read_struct : goal.decreases-read_struct
decreases-read_struct g l = 5 * l.depth + 4

abbrev pub decreases-read_members : goal.decreases-read_members
decreases-read_members g l = 5 * l.depth + 3

abbrev pub decreases-read_member : goal.decreases-read_member
decreases-read_member g l = 5 * l.depth + 2

abbrev pub invariant-read_elements-elements : goal.invariant-read_elements-elements
invariant-read_elements-elements g l = record {
  goes : ElementsGoOn l.fn.said.lenient (g.S.Shapes.table l.table) l.id l.elements.items l.fn.said.tokens
      l.said.tokens;
  lenient : l.said.lenient ≡ l.fn.said.lenient;
}

abbrev pub decreases-read_elements-elements : goal.decreases-read_elements-elements
decreases-read_elements-elements g l = length l.said.tokens

abbrev pub invariant-read_pairs-pairs : goal.invariant-read_pairs-pairs
invariant-read_pairs-pairs g l = record {
  goes : PairsGoOn l.fn.said.lenient (g.S.Shapes.table l.table) l.key_id l.id l.pairs.items l.fn.said.tokens
      l.said.tokens;
  lenient : l.said.lenient ≡ l.fn.said.lenient;
}

abbrev pub decreases-read_pairs-pairs : goal.decreases-read_pairs-pairs
decreases-read_pairs-pairs g l = length l.said.tokens

abbrev pub invariant-read_entries-entries : goal.invariant-read_entries-entries
invariant-read_entries-entries g l = record {
  goes : EntriesGoOn l.fn.said.lenient (g.S.Shapes.table l.table) l.key_id l.id l.pairs.items l.fn.said.tokens
      l.said.tokens;
  lenient : l.said.lenient ≡ l.fn.said.lenient;
}

abbrev pub decreases-read_entries-entries : goal.decreases-read_entries-entries
decreases-read_entries-entries g l = length l.said.tokens

abbrev pub invariant-read_members-members : goal.invariant-read_members-members
invariant-read_members-members g l = record {
  goes : MembersGoOn l.fn.said.lenient (g.S.Shapes.table l.table) l.types (field_views l.fields.entries)
      l.fn.said.tokens l.said.tokens;
  lenient : l.said.lenient ≡ l.fn.said.lenient;
  types : l.names.types.now ≡ l.types;
}

abbrev pub decreases-read_members-members : goal.decreases-read_members-members
decreases-read_members-members g l = length l.said.tokens
