-- The keys so far are UTF-8.
use Rattle.gob_value.specs.Tree.{Pairs}
use Rattle.gob_tape.specs.Seeing.{Gives, alternating}
use Rattle.gob_plain.proofs.FormLaws.{Utf8Left}
use Rattle.gob_plain.proofs.maps.are_utf8.Given as goal

abbrev pub invariant-keys : goal.invariant-keys
invariant-keys l = record {
  next : (goal.iterator-keys).can_next l.parts;
  finite : (goal.iterator-keys).is_finite l.parts;
  left : (ps : Pairs) → Gives l.fn.parts (alternating ps) → Utf8Left ps l.parts;
}
