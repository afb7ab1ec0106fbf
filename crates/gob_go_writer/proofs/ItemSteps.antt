-- The letters of an item, and the spelling that they are.
use Rattle.std.proofs.Common.{◌≡◌, ℕ, ◌<◌, ◌^◌, List, ◌∷◌, ◌++◌, refl, sym, subst, arith, to_z, w64}
use Rattle.gob_num.specs.Spelled.{IsSpelled}
use Rattle.gob_num.specs.Unsigned.{AreBytes}
use Rattle.gob_num.specs.Signed.{IsSigned}
use Rattle.gob_num.proofs.PublicLaws.{bytes_rest}
use Rattle.gob_types.specs.declared.id.TypeId.{TypeId}
use Rattle.gob_types.specs.Table.{Table}
use Rattle.gob_value.specs.View.{view}
use Rattle.gob_value.specs.declared.value.Value.{Value}
use Rattle.gob_filled.specs.Filled.{cut, AreSegments, last_segment, next_segment}
use Rattle.gob_go.specs.declared.filled.Filled.{Filled}
use Rattle.gob_go.specs.declared.item.GoItem.{GoItem}
use Rattle.gob_go.specs.declared.item.GoItem.TheVariants as item
use Rattle.gob_go_writer.specs.Machine.Letters.{AreOfItem, of_definition, of_value, AreSpelledBytes, IsSegment}
use Rattle.gob_go_writer.specs.Machine.Letters.{TakesSpelled}
use Rattle.gob_go_writer.specs.Spelling.{SpellsDefinition, SpellsValue, IsSpelling}
use Rattle.gob_go_writer.specs.Spelling as spelling
use Rattle.gob_go_writer.specs.declared.segments.Segments.{Segments}
use Rattle.gob_go_writer.proofs.LetterLaws.{takes_then}
use Rattle.gob_go_writer.proofs.PartSteps.{small_number, type_number}

-- bytes are one segment
pub one_segment : {ls bytes : List ℕ} → AreBytes ls → AreSegments ls bytes → IsSegment ls bytes
one_segment o (last_segment {c = c} s o' u) = record { count = c; are_bytes = o; counts = u; whole = refl }
one_segment o (next_segment {ls = ls} s o' u k) =
    absurd (let rest = bytes_rest s (cut ∷ ls) o in omega (arith, rest.0))

pub letters_spelled : {T : Table} {kept : GoItem} {ls bytes : List ℕ} → AreOfItem T kept ls → AreSegments ls bytes
    → IsSpelling T kept bytes
letters_spelled {T = T} (of_definition {id = id} {described = described} d) k =
    let one = one_segment d.are_bytes k in
    subst (IsSpelling T (item.Define id described)) (sym one.whole) (spelling.of_definition d.spelled one.counts)
letters_spelled (of_value n v) k = spelling.of_value n v k

-- ---- a definition

pub definition_taken : {T : Table} {kept : GoItem} {id : TypeId} {described : Value} {old new : Segments}
    → kept ≡ item.Define id described
    → TakesSpelled (AreSpelledBytes (SpellsDefinition T id (view described))) old new
    → TakesSpelled (AreOfItem T kept) old new
definition_taken {T = T} e t = record {
  letters = t.letters;
  spelled = subst (λ i. AreOfItem T i t.letters) (sym e) (of_definition t.spelled);
  takes = t.takes;
}

pub no_definition : {T : Table} {kept : GoItem} {id : TypeId} {described : Value} → kept ≡ item.Define id described
    → ¬ IsSpelled (SpellsDefinition T id (view described)) → ¬ IsSpelled (IsSpelling T kept)
no_definition {T = T} {id = id} {described = described} e never s =
    by (subst (λ i. IsSpelling T i s.bytes) e s.spelled)
  where
    by : {b : List ℕ} → IsSpelling T (item.Define id described) b → ⊥
    by (spelling.of_definition {ls = ls} d u) = never (record { bytes = ls; spelled = d })

-- ---- a value

pub value_taken : {T : Table} {kept : GoItem} {id : TypeId} {value : Filled} {old mid new : Segments}
    → kept ≡ item.Put id value → id.0 < 2 ^ 63 → TakesSpelled (IsSigned (to_z w64 id.0)) old mid
    → TakesSpelled (SpellsValue T value) mid new → TakesSpelled (AreOfItem T kept) old new
value_taken {T = T} e small n v = record {
  letters = n.letters ++ v.letters;
  spelled = subst (λ i. AreOfItem T i (n.letters ++ v.letters)) (sym e)
      (of_value (type_number small n.spelled) v.spelled);
  takes = takes_then n.takes v.takes;
}

record ValueParts (T : Table) (id : TypeId) (value : Filled) : Type 0 where
  pub small : id.0 < 2 ^ 63
  pub spelled : IsSpelled (SpellsValue T value)

value_parts : {T : Table} {kept : GoItem} {id : TypeId} {value : Filled} → kept ≡ item.Put id value
    → IsSpelled (IsSpelling T kept) → ValueParts T id value
value_parts {T = T} {id = id} {value = value} e s = by (subst (λ i. IsSpelling T i s.bytes) e s.spelled)
  where
    by : {b : List ℕ} → IsSpelling T (item.Put id value) b → ValueParts T id value
    by (spelling.of_value {ls = ls} n v k) =
        record { small = small_number n; spelled = record { bytes = ls; spelled = v } }

pub no_number : {T : Table} {kept : GoItem} {id : TypeId} {value : Filled} → kept ≡ item.Put id value
    → ¬ (id.0 < 2 ^ 63) → ¬ IsSpelled (IsSpelling T kept)
no_number e never s = never (value_parts e s).small

pub no_value : {T : Table} {kept : GoItem} {id : TypeId} {value : Filled} → kept ≡ item.Put id value
    → ¬ IsSpelled (SpellsValue T value) → ¬ IsSpelled (IsSpelling T kept)
no_value e never s = never (value_parts e s).spelled
