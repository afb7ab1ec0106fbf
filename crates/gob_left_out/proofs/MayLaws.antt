-- Two types whose values leave out nothing.
use Rattle.std.proofs.Common.{◌≡◌, ℕ, ◌≤◌, ◌↔◌, IsTrue, Bool, true, false, true≢false, List, Some, Contains, length, refl, sym}
use Rattle.std.proofs.Common.{◌∙◌, subst}
use Rattle.std.specs.Prelude.{slice_get}
use Rattle.gob_types.specs.declared.kind.Field.{Field}
use Rattle.gob_types.specs.declared.kind.Kind.{Kind}
use Rattle.gob_types.specs.declared.kind.Shape.{Shape}
use Rattle.gob_types.specs.Table.{Table}
use Rattle.gob_types.proofs.FirstLaws.{all_first, FirstAre}
use Rattle.gob_types.proofs.PublicLaws.{contains_read, some_injective}
use Rattle.gob_value.specs.Tree.{Tree}
use Rattle.gob_match.specs.declared.pair.TypePair.{TypePair}
use Rattle.gob_match.specs.declared.step.TypeStep.{TypeStep}
use Rattle.gob_match.specs.declared.matched.Matched.{Matched}
use Rattle.gob_match.specs.Calls.Matched.{IsSound, pairs_of, stream_of, wanted_types_of}
use Rattle.gob_match.proofs.PublicLaws.{pairs_closed}
use Rattle.gob_match.specs.Matching.{HasShapes, IsClosed}
use Rattle.gob_match.specs.Pairs.{element_of_arrays as element_of_two_arrays, HasName, NamesPair}
use Rattle.gob_match.specs.Pairs.{element_of_maps as element_of_two_maps, element_of_slices as element_of_two_slices}
use Rattle.gob_match.specs.Pairs.{field_of_structs as field_of_two_structs, key_of_maps as key_of_two_maps}
use Rattle.gob_left_out.specs.declared.field.UnwantedField.{UnwantedField}
use Rattle.gob_left_out.specs.declared.kinds.Parts.{Parts}
use Rattle.gob_left_out.specs.declared.kinds.Parts.TheVariants as parts
use Rattle.gob_left_out.specs.declared.kinds.StructPair.{StructPair}
use Rattle.gob_left_out.specs.LeftOut.{element_of_arrays, element_of_maps, element_of_slices, field_of_structs, HasPart}
use Rattle.gob_left_out.specs.LeftOut.{here, inside, key_of_maps, KindsLack, Lacks, LacksSome, LeavesOut, of_structs}
use Rattle.gob_left_out.specs.LeftOut.{PairLacks, SomePairLacks, structs}
use Rattle.gob_left_out.specs.Machine.Kinds.{KindParts, of_structs as of_two_structs, PairParts}

-- ---- a pair
lacks_kinds : {T U : Table} {p : TypePair} {s r : Shape} → HasShapes T U p s r → PairLacks T U p
    → KindsLack s.kind r.kind
lacks_kinds {s = s} h l =
    subst (λ (z : Shape). KindsLack s.kind z.kind) (some_injective (sym l.shapes.wanted ∙ h.wanted))
    (subst (λ (z : Shape). KindsLack z.kind l.wanted.kind) (some_injective (sym l.shapes.stream ∙ h.stream)) l.lacks)

fields_lack : {k l : Kind} {pair : StructPair} → KindParts k l (parts.Fields pair) → KindsLack k l
    → LacksSome pair.stream.now pair.wanted.now
fields_lack {pair = pair} (of_two_structs {types = types} {wanted = wanted} e f) (structs l) =
    subst (λ (types : List Field). LacksSome types pair.wanted.now) (sym e)
    (subst (λ (wanted : List Field). LacksSome types wanted) (sym f) l)

kinds_lack : {k l : Kind} {pair : StructPair} → KindParts k l (parts.Fields pair)
    → LacksSome pair.stream.now pair.wanted.now → KindsLack k l
kinds_lack {pair = pair} (of_two_structs {types = types} {wanted = wanted} e f) l =
    structs (subst (λ (types : List Field). LacksSome types wanted) e
    (subst (λ (wanted : List Field). LacksSome pair.stream.now wanted) f l))

are_fields : {k l : Kind} {given : Parts} → KindParts k l given → KindsLack k l
    → (pair : StructPair) × (given ≡ parts.Fields pair)
are_fields (of_two_structs {structs = pair} e f) (structs l) = (pair, refl)
are_fields p l = elim l [ ]

module _ {T U : Table} {p : TypePair} {given : Parts} (h : PairParts T U p given) where
  pub fields_told : (pair : StructPair) {b : Bool} → given ≡ parts.Fields pair
      → IsTrue b ↔ LacksSome pair.stream.now pair.wanted.now → IsTrue b ↔ PairLacks T U p
  fields_told pair e told =
      let at = subst (KindParts h.stream.kind h.wanted.kind) e h.parts in (
        λ t. record {
          stream = h.stream;
          wanted = h.wanted;
          shapes = h.shapes;
          lacks = kinds_lack at (told.0 t);
        },
        λ l. told.1 (fields_lack at (lacks_kinds h.shapes l)),
      )

  pub others_told : ((pair : StructPair) → given ≡ parts.Fields pair → ⊥) → IsTrue false ↔ PairLacks T U p
  others_told n = (
    λ t. absurd (true≢false (sym t)),
    λ l. let f = are_fields h.parts (lacks_kinds h.shapes l) in absurd (n f.0 f.1),
  )

-- ---- what leads on
pub part_named : {k l : Kind} {v w : Tree} {s : TypeStep} {q : TypePair} → HasPart k l v s q w → NamesPair k l s q
part_named (element_of_arrays h) = element_of_two_arrays
part_named (element_of_slices h) = element_of_two_slices
part_named (key_of_maps h) = key_of_two_maps
part_named (element_of_maps h) = element_of_two_maps
part_named (field_of_structs f g) = field_of_two_structs
    (record { number = f.number; field = f.type; there = f.there; named = f.named; typed = f.typed }) g

lack_of : {k l : Kind} {v : Tree} {number : ℕ} {name : List ℕ} → Lacks k l v number name → KindsLack k l
lack_of (of_structs {wanted = wanted} h) = structs (record {
  number = _;
  field = h.field;
  there = h.there;
  unwanted = subst (λ (name : List ℕ). ¬ HasName wanted name) (sym h.named) h.unwanted;
})

module _ {T U : Table} {pairs : List TypePair} (closed : IsClosed T U pairs)
    (none : (p : TypePair) → Contains pairs p → ¬ PairLacks T U p) where
  pub none_left : {p : TypePair} {v : Tree} {path : List TypeStep} {x : UnwantedField} → LeavesOut T U p v path x
      → Contains pairs p → ⊥
  none_left (here {p = p} {s = s} {r = r} h l) there =
      none p there (record { stream = s; wanted = r; shapes = h; lacks = lack_of l })
  none_left (inside {p = p} {q = q} {s = s} {r = r} {onward = onward} h part l) there =
      none_left l (closed.named p q onward there
      (record { stream = s; wanted = r; shapes = h; named = part_named part }))

-- ---- the list of pairs
pub closed_at : {S W : Type 0} (stream : S → Table) (wanted : W → Table) (m : Matched S W) {s : S} {w : W}
    → IsSound stream wanted m → stream_of m ≡ s → wanted_types_of m ≡ w
    → IsClosed (stream s) (wanted w) (pairs_of m)
closed_at stream wanted m {w = w} sound e f =
    subst (λ s. IsClosed (stream s) (wanted w) (pairs_of m)) e
    (subst (λ w. IsClosed (stream (stream_of m)) (wanted w) (pairs_of m)) f (pairs_closed stream wanted m sound))

pub some_lacks : {T U : Table} {pairs : List TypePair} {p : TypePair} (place : ℕ) → slice_get pairs place ≡ Some p
    → PairLacks T U p → IsTrue true ↔ SomePairLacks T U pairs
some_lacks {pairs = pairs} {p = p} place there lacks = (
  λ t. record { pair = p; there = contains_read pairs place p there; lacks = lacks },
  λ l. refl,
)

pub none_lacks : {T U : Table} {pairs : List TypePair} {n : ℕ} → FirstAre (λ (p : TypePair). ¬ PairLacks T U p) pairs n
    → length pairs ≤ n → IsTrue false ↔ SomePairLacks T U pairs
none_lacks first all = (
  λ t. absurd (true≢false (sym t)),
  λ l. absurd (all_first first all l.there l.lacks),
)
