-- The names so far, and the entries that are left.
use Rattle.std.proofs.Common.{map}
use Rattle.std.specs.Prelude.{string_bytes}
use Rattle.gob_value.specs.Tree.{Pairs}
use Rattle.gob_tape.specs.Seeing.{Gives, alternating}
use Rattle.gob_plain.proofs.FormLaws.{NamesLeft}
use Rattle.gob_plain.proofs.maps.key_names.Given as goal

abbrev pub invariant-keys : goal.invariant-keys
invariant-keys l = record {
  next : (goal.iterator-keys).can_next l.parts;
  finite : (goal.iterator-keys).is_finite l.parts;
  left : (ps : Pairs) → Gives l.fn.parts (alternating ps) → NamesLeft ps l.parts (map string_bytes l.names.items);
}
