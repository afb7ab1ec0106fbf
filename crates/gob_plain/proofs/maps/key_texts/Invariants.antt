-- The texts so far, and the entries that are left.
use Rattle.std.proofs.Common.{map}
use Rattle.std.specs.Prelude.{string_bytes}
use Rattle.gob_types.specs.declared.id.TypeId.{TypeId}
use Rattle.gob_types.specs.Table.{Table}
use Rattle.gob_value.specs.Tree.{Pairs}
use Rattle.gob_tape.specs.Seeing.{Gives, alternating}
use Rattle.gob_plain.specs.declared.style.Style.{Style}
use Rattle.gob_plain.proofs.FormLaws.{TextsSeen}
use Rattle.gob_plain.proofs.maps.key_texts.Given as goal

abbrev pub invariant-keys : goal.invariant-keys
invariant-keys g l = record {
  next : (goal.iterator-keys g).can_next l.parts;
  finite : (goal.iterator-keys g).is_finite l.parts;
  left : (style : Style) (T : Table) (k e : TypeId) (ps : Pairs) → Gives l.fn.parts (alternating ps)
      → TextsSeen (g.N.NilTexts.says l.nils) style T k e ps l.parts l.ahead (map string_bytes l.texts.items);
}
