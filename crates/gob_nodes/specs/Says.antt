-- Which value of a type nodes say, as the bytes that spell it. The nodes of a part stand behind one another; a list, a
-- map or a struct says how many it has. What an interface holds stands behind all nodes of the value around it: its
-- name, its nodes, and what its own interfaces hold, before what the next interface of the value around it holds. A
-- part's number counts where it is a field of a struct, and nowhere else.
-- (docs/LIBRARY.md, Flat nodes: this project's own; docs/FORMAT.md, Values; Fillings and segments.)
use Rattle.std.specs.Prelude.{◌≡◌, ℕ, pos, ◌+◌, ◌-◌, ◌<◌, ◌≤◌, List, [], ◌∷◌, ◌++◌, length, Some, slice_get}
use Rattle.gob_num.specs.Unsigned.{IsUnsigned}
use Rattle.gob_num.specs.Signed.{IsSigned}
use Rattle.gob_num.specs.Pattern.{IsPattern}
use Rattle.gob_types.specs.declared.id.TypeId.{TypeId}
use Rattle.gob_types.specs.declared.basic.Basic.{Basic}
use Rattle.gob_types.specs.declared.basic.Basic.TheVariants as basic
use Rattle.gob_types.specs.declared.kind.Field.{Field}
use Rattle.gob_types.specs.declared.kind.Kind.{Kind}
use Rattle.gob_types.specs.declared.kind.Kind.TheVariants as kind
use Rattle.gob_types.specs.declared.kind.Marshal.{Marshal}
use Rattle.gob_types.specs.declared.kind.Shape.{Shape}
use Rattle.gob_types.specs.Table.{Table, shape_of}
use Rattle.gob_value.specs.Top.{IsStruct}
use Rattle.gob_value.specs.Written.{WrittenBytes}
use Rattle.gob_stream.specs.Body.{MayPut}
use Rattle.gob_tape.specs.FlatNodes.{number_code}
use Rattle.gob_tape.specs.declared.flat.FlatNode.{FlatNode}
use Rattle.gob_nodes.specs.Nodes.{HasBytes, bytes_of}
use Rattle.gob_nodes.specs.declared.value.Places.{Places}

-- the next node is the one at the first place, and what the next interface holds begins at the second
abbrev pub places : ℕ → ℕ → Places
places at held = record { at = at; held = held }

-- behind one node
abbrev pub behind : Places → Places
behind p = places (p.at + 1) p.held

-- two patterns, one behind the other
pub data SpellsComplex (real imaginary : ℕ) : List ℕ → Type 0 where
  spells_complex : {b c : List ℕ} → IsPattern real b → IsPattern imaginary c → SpellsComplex real imaginary (b ++ c)

-- the bytes that a node of a basic type says: of a bool, an int and a uint by the unsigned number as which it is
-- spelled, of a float by its pattern
abbrev pub LeafBytes : (pool : List ℕ) → Basic → FlatNode → List ℕ → Type 0
LeafBytes pool basic.Bool n b = (n.first ≤ 1) × IsUnsigned n.first b
LeafBytes pool basic.Int n b = IsUnsigned n.first b
LeafBytes pool basic.Uint n b = IsUnsigned n.first b
LeafBytes pool basic.Float n b = IsPattern n.first b
LeafBytes pool basic.Bytes n b = HasBytes pool n × WrittenBytes (bytes_of pool n) b
LeafBytes pool basic.Str n b = HasBytes pool n × WrittenBytes (bytes_of pool n) b
LeafBytes pool basic.Complex n b = SpellsComplex n.first n.second b
LeafBytes pool basic.Interface n b = IsUnsigned 0 b

-- the node says a value of the basic type, which is spelled so
pub record SaysLeaf (pool : List ℕ) (k : Basic) (n : FlatNode) (b : List ℕ) : Type 0 where
  pub kind : n.kind ≡ number_code k
  pub bytes : LeafBytes pool k n b

-- the node at the first place does, and no other is gone past
pub data SaysLeafAt (nodes : List FlatNode) (pool : List ℕ) : Basic → (from to : Places) → List ℕ → Type 0 where
  leaf_at : {k : Basic} {p : Places} {n : FlatNode} {b : List ℕ} → slice_get nodes p.at ≡ Some n → SaysLeaf pool k n b
      → SaysLeafAt nodes pool k p (behind p) b

-- it says the bytes of an opaque value
pub data SaysOpaqueAt (nodes : List FlatNode) (pool : List ℕ) : (from to : Places) → List ℕ → Type 0 where
  opaque_at : {p : Places} {n : FlatNode} {b : List ℕ} → slice_get nodes p.at ≡ Some n → n.kind ≡ 12
      → HasBytes pool n → WrittenBytes (bytes_of pool n) b → SaysOpaqueAt nodes pool p (behind p) b

-- the node at the place is of a list, a map or a struct of so many elements, pairs or fields, and its nodes end there
pub record IsGroup (nodes : List FlatNode) (code count : ℕ) (at end : ℕ) : Type 0 where
  pub node : FlatNode
  pub there : slice_get nodes at ≡ Some node
  pub kind : node.kind ≡ code
  pub counted : node.first ≡ count
  pub end_is : end ≡ at + node.second

-- the node at the place says that the interface holds a value of the type, whose type's name stands at the other
pub record IsHeldAt (nodes : List FlatNode) (pool : List ℕ) (at held : ℕ) (id : TypeId) (name : List ℕ) : Type 0 where
  pub node : FlatNode
  pub there : slice_get nodes at ≡ Some node
  pub kind : node.kind ≡ 15
  pub further : at + node.first ≡ held
  pub of_type : id ≡ record { 0 = node.second }
  pub text : FlatNode
  pub behind : slice_get nodes held ≡ Some text
  pub text_kind : text.kind ≡ 6
  pub within : HasBytes pool text
  pub named : name ≡ bytes_of pool text
  pub some : 0 < length name

mutual
  -- the nodes from the first places up to the others say the value of the type that is spelled so, no part of it
  -- deeper than the limit
  pub data Says (T : Table) (nodes : List FlatNode) (pool : List ℕ) : TypeId → (limit : ℕ) → (from to : Places)
      → List ℕ → Type 0 where
    of_type : {t : TypeId} {s : Shape} {limit : ℕ} {p q : Places} {b : List ℕ} → shape_of T t ≡ Some s → 0 < limit
        → SaysAs T nodes pool s.kind limit p q b → Says T nodes pool t limit p q b

  -- a value of a kind
  pub data SaysAs (T : Table) (nodes : List FlatNode) (pool : List ℕ) : Kind → (limit : ℕ) → (from to : Places)
      → List ℕ → Type 0 where
    of_leaf : {k : Basic} {limit : ℕ} {p q : Places} {b : List ℕ} → SaysLeafAt nodes pool k p q b
        → SaysAs T nodes pool (kind.Basic k) limit p q b
    of_opaque : {m : Marshal} {limit : ℕ} {p q : Places} {b : List ℕ} → SaysOpaqueAt nodes pool p q b
        → SaysAs T nodes pool (kind.Opaque m) limit p q b
    of_slice : {e : TypeId} {limit count : ℕ} {p q : Places} {b : List ℕ}
        → SaysList T nodes pool e (limit - 1) count p q b → SaysAs T nodes pool (kind.Slice e) limit p q b
    of_array : {e : TypeId} {limit count : ℕ} {p q : Places} {b : List ℕ}
        → SaysList T nodes pool e (limit - 1) count p q b → SaysAs T nodes pool (kind.Array e count) limit p q b
    of_map : {k e : TypeId} {limit : ℕ} {p q : Places} {b : List ℕ} → SaysMap T nodes pool k e (limit - 1) p q b
        → SaysAs T nodes pool (kind.Map k e) limit p q b
    of_struct : {types : List Field} {limit : ℕ} {p q : Places} {b : List ℕ}
        → SaysStruct T nodes pool types (limit - 1) p q b → SaysAs T nodes pool (kind.Struct types) limit p q b
    of_held : {limit : ℕ} {p q : Places} {b : List ℕ} → SaysHeld T nodes pool (limit - 1) p q b
        → SaysAs T nodes pool (kind.Basic basic.Interface) limit p q b

  -- an interface that holds a value: what it holds stands from its name up to where what the next one holds begins
  pub data SaysHeld (T : Table) (nodes : List FlatNode) (pool : List ℕ) : (limit : ℕ) → (from to : Places)
      → List ℕ → Type 0 where
    holds : {id : TypeId} {limit end : ℕ} {p : Places} {name a m c b : List ℕ} → IsHeldAt nodes pool p.at p.held id name
        → MayPut T id → IsUnsigned (length name) a → IsSigned (pos id.0) m
        → SaysTop T nodes pool id limit (p.held + 1) end b → IsUnsigned (length b) c
        → SaysHeld T nodes pool limit p (places (p.at + 1) end) (a ++ (name ++ (m ++ (c ++ b))))

  -- a whole value, whose nodes begin at the place, with what its interfaces hold, which stands behind them up to the
  -- other place
  pub data SaysOwn (T : Table) (nodes : List FlatNode) (pool : List ℕ) : TypeId → (limit : ℕ) → (from to : ℕ)
      → List ℕ → Type 0 where
    up_to : {t : TypeId} {limit from end to : ℕ} {b : List ℕ}
        → Says T nodes pool t limit (places from end) (places end to) b → SaysOwn T nodes pool t limit from to b

  -- the bytes spell it behind its tag, which a struct doesn't have
  pub data SaysTop (T : Table) (nodes : List FlatNode) (pool : List ℕ) : TypeId → (limit : ℕ) → (from to : ℕ)
      → List ℕ → Type 0 where
    at_once : {t : TypeId} {s : Shape} {limit from to : ℕ} {b : List ℕ} → shape_of T t ≡ Some s → IsStruct s.kind
        → SaysOwn T nodes pool t limit from to b → SaysTop T nodes pool t limit from to b
    tagged : {t : TypeId} {s : Shape} {limit from to : ℕ} {b : List ℕ} → shape_of T t ≡ Some s → ¬ IsStruct s.kind
        → SaysOwn T nodes pool t limit from to b → SaysTop T nodes pool t limit from to (0 ∷ b)

  -- a list of so many elements, a map, a struct
  pub data SaysList (T : Table) (nodes : List FlatNode) (pool : List ℕ) : TypeId → (limit count : ℕ)
      → (from to : Places) → List ℕ → Type 0 where
    a_list : {e : TypeId} {limit count : ℕ} {p q : Places} {c b : List ℕ} → IsGroup nodes 9 count p.at q.at
        → IsUnsigned count c → SaysEach T nodes pool e limit count (behind p) q b
        → SaysList T nodes pool e limit count p q (c ++ b)

  pub data SaysMap (T : Table) (nodes : List FlatNode) (pool : List ℕ) : TypeId → TypeId → (limit : ℕ)
      → (from to : Places) → List ℕ → Type 0 where
    a_map : {k e : TypeId} {limit count : ℕ} {p q : Places} {c b : List ℕ} → IsGroup nodes 10 count p.at q.at
        → IsUnsigned count c → SaysPairs T nodes pool k e limit count (behind p) q b
        → SaysMap T nodes pool k e limit p q (c ++ b)

  pub data SaysStruct (T : Table) (nodes : List FlatNode) (pool : List ℕ) : List Field → (limit : ℕ)
      → (from to : Places) → List ℕ → Type 0 where
    a_struct : {types : List Field} {limit count : ℕ} {p q : Places} {b : List ℕ} → IsGroup nodes 11 count p.at q.at
        → SaysFields T nodes pool types 0 limit count (behind p) q b → SaysStruct T nodes pool types limit p q b

  -- so many elements of the type, one behind another
  pub data SaysEach (T : Table) (nodes : List FlatNode) (pool : List ℕ) : TypeId → (limit count : ℕ)
      → (from to : Places) → List ℕ → Type 0 where
    no_element : {e : TypeId} {limit : ℕ} {p : Places} → SaysEach T nodes pool e limit 0 p p []
    element : {e : TypeId} {limit count : ℕ} {p q r : Places} {b c : List ℕ} → Says T nodes pool e limit p q b
        → SaysEach T nodes pool e limit count q r c → SaysEach T nodes pool e limit (count + 1) p r (b ++ c)

  -- so many keys, each with its element
  pub data SaysPairs (T : Table) (nodes : List FlatNode) (pool : List ℕ) : TypeId → TypeId → (limit count : ℕ)
      → (from to : Places) → List ℕ → Type 0 where
    no_entry : {k e : TypeId} {limit : ℕ} {p : Places} → SaysPairs T nodes pool k e limit 0 p p []
    entry : {k e : TypeId} {limit count : ℕ} {p q r s : Places} {a b c : List ℕ} → Says T nodes pool k limit p q a
        → Says T nodes pool e limit q r b → SaysPairs T nodes pool k e limit count r s c
        → SaysPairs T nodes pool k e limit (count + 1) p s (a ++ (b ++ c))

  -- so many fields that are present, of which the next has this number or a greater one
  pub data SaysFields (T : Table) (nodes : List FlatNode) (pool : List ℕ) : List Field → (next limit count : ℕ)
      → (from to : Places) → List ℕ → Type 0 where
    end_of_fields : {types : List Field} {next limit : ℕ} {p : Places} {b : List ℕ} → IsUnsigned 0 b
        → SaysFields T nodes pool types next limit 0 p p b
    next_field : {types : List Field} {next limit count : ℕ} {p q r : Places} {n : FlatNode} {e : Field}
        {a b c : List ℕ} → slice_get nodes p.at ≡ Some n → n.named ≡ 1 → next ≤ n.number
        → slice_get types n.number ≡ Some e → IsUnsigned (n.number + 1 - next) a → Says T nodes pool e.id limit p q b
        → SaysFields T nodes pool types (n.number + 1) limit count q r c
        → SaysFields T nodes pool types next limit (count + 1) p r (a ++ (b ++ c))

-- all of the nodes say the value of the type that is spelled so
abbrev pub SaysValue : Table → (nodes : List FlatNode) → (pool : List ℕ) → TypeId → (limit : ℕ) → List ℕ → Type 0
SaysValue T nodes pool t limit b = SaysTop T nodes pool t limit 0 (length nodes) b
