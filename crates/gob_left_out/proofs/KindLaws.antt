-- The parts of values of two kinds that match.
use Rattle.std.proofs.Common.{◌≡◌, ◌⊎◌, inl, inr, ℕ, List, sym, subst}
use Rattle.gob_types.specs.declared.basic.Basic.{Basic}
use Rattle.gob_types.specs.declared.id.TypeId.{TypeId}
use Rattle.gob_types.specs.declared.kind.Field.{Field}
use Rattle.gob_types.specs.declared.kind.Kind.{Kind}
use Rattle.gob_types.specs.declared.kind.Kind.TheVariants as kind
use Rattle.gob_types.specs.declared.kind.Marshal.{Marshal}
use Rattle.gob_match.specs.declared.pair.TypePair.{TypePair}
use Rattle.gob_match.specs.Matching.{basics, KindsMatch, opaques}
use Rattle.gob_match.specs.Pairs.{of_types}
use Rattle.gob_left_out.specs.declared.kinds.Parts.TheVariants as parts
use Rattle.gob_left_out.specs.declared.kinds.StructPair.{StructPair}
use Rattle.gob_left_out.specs.Machine.Kinds.{KindParts, of_arrays, of_basics, of_maps, of_opaques, of_slices, of_structs}

pub array_parts : {l : Kind} {e f : TypeId} {m n : ℕ} {q : TypePair} → l ≡ kind.Array f n → q ≡ of_types e f
    → KindParts (kind.Array e m) l (parts.Elements q)
array_parts {e = e} {f = f} {m = m} {n = n} {q = q} is same =
    subst (λ (l : Kind). KindParts (kind.Array e m) l (parts.Elements q)) (sym is)
    (subst (λ (q : TypePair). KindParts (kind.Array e m) (kind.Array f n) (parts.Elements q)) (sym same) of_arrays)

pub slice_parts : {l : Kind} {e f : TypeId} {q : TypePair} → l ≡ kind.Slice f → q ≡ of_types e f
    → KindParts (kind.Slice e) l (parts.Elements q)
slice_parts {e = e} {f = f} {q = q} is same =
    subst (λ (l : Kind). KindParts (kind.Slice e) l (parts.Elements q)) (sym is)
    (subst (λ (q : TypePair). KindParts (kind.Slice e) (kind.Slice f) (parts.Elements q)) (sym same) of_slices)

pub map_parts : {h : Kind} {k l e f : TypeId} {q r : TypePair} → h ≡ kind.Map l f → q ≡ of_types k l
    → r ≡ of_types e f → KindParts (kind.Map k e) h (parts.Entries q r)
map_parts {k = k} {l = l} {e = e} {f = f} {q = q} {r = r} is same other =
    subst (λ (h : Kind). KindParts (kind.Map k e) h (parts.Entries q r)) (sym is)
    (subst (λ (q : TypePair). KindParts (kind.Map k e) (kind.Map l f) (parts.Entries q r)) (sym same)
    (subst (λ (r : TypePair). KindParts (kind.Map k e) (kind.Map l f) (parts.Entries (of_types k l) r)) (sym other)
    of_maps))

pub struct_parts : {types wanted : List Field} {l : Kind} (structs : StructPair) → l ≡ kind.Struct wanted
    → structs.stream.now ≡ types → structs.wanted.now ≡ wanted → KindParts (kind.Struct types) l (parts.Fields structs)
struct_parts {types = types} structs is same other =
    subst (λ (l : Kind). KindParts (kind.Struct types) l (parts.Fields structs)) (sym is) (of_structs same other)

-- a basic kind or an opaque one
abbrev pub IsLeaf : Kind → Type 0
IsLeaf (kind.Basic b) = Unit {0}
IsLeaf (kind.Opaque m) = Unit {0}
IsLeaf _ = ⊥

pub leaf_either : {k : Kind} → ((b : Basic) × (k ≡ kind.Basic b)) ⊎ ((m : Marshal) × (k ≡ kind.Opaque m)) → IsLeaf k
leaf_either (inl e) = subst IsLeaf (sym e.1) tt
leaf_either (inr e) = subst IsLeaf (sym e.1) tt

pub leaf_parts : {k l : Kind} → IsLeaf k → KindsMatch k l → KindParts k l parts.Nothing
leaf_parts leaf basics = of_basics
leaf_parts leaf opaques = of_opaques
leaf_parts leaf _ = absurd leaf
