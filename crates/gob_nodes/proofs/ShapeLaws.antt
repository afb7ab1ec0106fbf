-- The kinds that nodes name, and the shape that they say.
use Rattle.std.proofs.Common.{◌≡◌, ℕ, ◌<◌, List, [], ◌∷◌, length, arith, slice_index_or, ap, sym, ◌∙◌}
use Rattle.gob_types.specs.declared.id.TypeId.{TypeId}
use Rattle.gob_types.specs.declared.kind.Kind.{Kind}
use Rattle.gob_types.specs.declared.kind.Kind.TheVariants as kind
use Rattle.gob_types.specs.declared.kind.Marshal.{Marshal}
use Rattle.gob_types.specs.declared.kind.Shape.{Shape}
use Rattle.gob_tape.specs.declared.flat.FlatNode.{FlatNode}
use Rattle.gob_nodes.specs.Nodes.{HasBytes, bytes_of}
use Rattle.gob_nodes.specs.Shapes.{IsMethod, NamesKind, NamesType, SaysShape, names_array, names_map, names_opaque}
use Rattle.gob_nodes.specs.Shapes.{names_slice, says_shape}

pub array_named : {P : List ℕ} {first : FlatNode} {e : TypeId} (l : List FlatNode) (d : FlatNode) → length l ≡ 1
    → first.kind ≡ 13 → NamesType (slice_index_or l 0 d) e
    → NamesKind P first l (kind.Array e (slice_index_or l 0 d).first)
array_named [] d one is h = absurd (omega (arith, one))
array_named (n ∷ []) d one is h = names_array is h
array_named (m ∷ (n ∷ ns)) d one is h = absurd (omega (arith, one))

pub slice_named : {P : List ℕ} {first : FlatNode} {e : TypeId} (l : List FlatNode) (d : FlatNode) → length l ≡ 1
    → first.kind ≡ 9 → NamesType (slice_index_or l 0 d) e → NamesKind P first l (kind.Slice e)
slice_named [] d one is h = absurd (omega (arith, one))
slice_named (n ∷ []) d one is h = names_slice is h
slice_named (m ∷ (n ∷ ns)) d one is h = absurd (omega (arith, one))

pub map_named : {P : List ℕ} {first : FlatNode} {k e : TypeId} (l : List FlatNode) (c d : FlatNode) → length l ≡ 2
    → first.kind ≡ 10 → NamesType (slice_index_or l 0 c) k → NamesType (slice_index_or l 1 d) e
    → NamesKind P first l (kind.Map k e)
map_named [] c d two is g h = absurd (omega (arith, two))
map_named (m ∷ []) c d two is g h = absurd (omega (arith, two))
map_named (m ∷ (n ∷ [])) c d two is g h = names_map is g h
map_named (l ∷ (m ∷ (n ∷ ns))) c d two is g h = absurd (omega (arith, two))

pub opaque_named : {P : List ℕ} {first : FlatNode} {m : Marshal} (l : List FlatNode) → length l < 1
    → first.kind ≡ 12 → IsMethod first.number m → NamesKind P first l (kind.Opaque m)
opaque_named [] none is h = names_opaque is h
opaque_named (n ∷ ns) none is h = absurd (omega (arith, none))

-- ---- a shape

pub record ShapeParts (P : List ℕ) (n : FlatNode) (ns : List FlatNode) (s : Shape) : Type 0 where
  pub has : HasBytes P n
  pub named : s.name ≡ bytes_of P n
  pub kind : NamesKind P n ns s.kind

pub shape_parts : {P : List ℕ} {n : FlatNode} {ns : List FlatNode} {s : Shape} → SaysShape P (n ∷ ns) s
    → ShapeParts P n ns s
shape_parts (says_shape has named is) = record { has = has; named = named; kind = is }

abbrev shape_of_parts : List ℕ → Kind → Shape
shape_of_parts name k = record { name = name; kind = k }

pub shape_once : {P : List ℕ} {n : FlatNode} {ns : List FlatNode} {s : Shape} (name : List ℕ) (k : Kind)
    → name ≡ bytes_of P n → k ≡ s.kind → ShapeParts P n ns s → shape_of_parts name k ≡ s
shape_once {s = s} name k named is h =
    ap (λ m. shape_of_parts m k) (named ∙ sym h.named) ∙ ap (λ l. shape_of_parts s.name l) is
