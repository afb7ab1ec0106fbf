-- Which shape the nodes of a definition say. (docs/LIBRARY.md, Flat nodes: this project's own.)
use Rattle.std.specs.Prelude.{◌≡◌, ℕ, List, [], ◌∷◌}
use Rattle.gob_types.specs.declared.id.TypeId.{TypeId}
use Rattle.gob_types.specs.declared.kind.Field.{Field}
use Rattle.gob_types.specs.declared.kind.Kind.{Kind}
use Rattle.gob_types.specs.declared.kind.Kind.TheVariants as kind
use Rattle.gob_types.specs.declared.kind.Marshal.{Marshal}
use Rattle.gob_types.specs.declared.kind.Marshal.TheVariants as marshal
use Rattle.gob_types.specs.declared.kind.Shape.{Shape}
use Rattle.gob_tape.specs.declared.flat.FlatNode.{FlatNode}
use Rattle.gob_nodes.specs.Nodes.{HasBytes, bytes_of}

-- the number of a method by which a type encodes itself
pub data IsMethod : ℕ → Marshal → Type 0 where
  is_gob : {code : ℕ} → code ≡ 1 → IsMethod code marshal.Gob
  is_binary : {code : ℕ} → code ≡ 2 → IsMethod code marshal.Binary
  is_text : {code : ℕ} → code ≡ 3 → IsMethod code marshal.Text

-- the node names this type
pub record NamesType (n : FlatNode) (id : TypeId) : Type 0 where
  pub kind : n.kind ≡ 14
  pub is : id ≡ record { 0 = n.number }

-- the nodes name the types of these fields, and say their names
pub data NamesFields (pool : List ℕ) : List FlatNode → List Field → Type 0 where
  no_field : NamesFields pool [] []
  field_then : {n : FlatNode} {ns : List FlatNode} {f : Field} {fs : List Field} → NamesType n f.id → HasBytes pool n
      → f.name ≡ bytes_of pool n → NamesFields pool ns fs → NamesFields pool (n ∷ ns) (f ∷ fs)

-- behind the first node these nodes say the kind
pub data NamesKind (pool : List ℕ) (first : FlatNode) : List FlatNode → Kind → Type 0 where
  names_array : {n : FlatNode} {e : TypeId} → first.kind ≡ 13 → NamesType n e
      → NamesKind pool first (n ∷ []) (kind.Array e n.first)
  names_slice : {n : FlatNode} {e : TypeId} → first.kind ≡ 9 → NamesType n e
      → NamesKind pool first (n ∷ []) (kind.Slice e)
  names_map : {m n : FlatNode} {k e : TypeId} → first.kind ≡ 10 → NamesType m k → NamesType n e
      → NamesKind pool first (m ∷ (n ∷ [])) (kind.Map k e)
  names_struct : {ns : List FlatNode} {fs : List Field} → first.kind ≡ 11 → NamesFields pool ns fs
      → NamesKind pool first ns (kind.Struct fs)
  names_opaque : {m : Marshal} → first.kind ≡ 12 → IsMethod first.number m → NamesKind pool first [] (kind.Opaque m)

-- the nodes say the shape: its name and its kind
pub data SaysShape (pool : List ℕ) : List FlatNode → Shape → Type 0 where
  says_shape : {n : FlatNode} {ns : List FlatNode} {s : Shape} → HasBytes pool n → s.name ≡ bytes_of pool n
      → NamesKind pool n ns s.kind → SaysShape pool (n ∷ ns) s
