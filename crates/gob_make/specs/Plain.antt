-- What plain JSON says as a value of a type, as a person writes it or `values` prints it: a member that is absent or
-- null leaves its field out, and so does a zero that Go's encoder leaves out. Members stand in any order, each for the
-- field of its name, of which it is the only one. (docs/FORMAT.md, Plain JSON as input.)
use Rattle.std.specs.Prelude.{◌≡◌, ◌≢◌, ◌<◌, ◌≤◌, ⊤, ℕ, ◌+◌, List, Bool, true, Some}
use Rattle.json.specs.Json.{Json, Items, Members}
use Rattle.json.specs.Json as json
use Rattle.gob_types.specs.declared.basic.Basic.{Basic}
use Rattle.gob_types.specs.declared.id.TypeId.{TypeId}
use Rattle.gob_types.specs.declared.kind.Field.{Field}
use Rattle.gob_types.specs.declared.kind.Marshal.{Marshal}
use Rattle.gob_types.specs.declared.kind.Kind.TheVariants as kind
use Rattle.gob_types.specs.declared.kind.Shape.{Shape}
use Rattle.gob_types.specs.Table.{Table, shape_of}
use Rattle.gob_value.specs.Tree.{Tree, Trees, no_tree, tree, Pairs, no_pair, pair, Fields, no_field, field}
use Rattle.gob_value.specs.Tree as Value
use Rattle.gob_plain.specs.OpaqueText.{content_by}
use Rattle.gob_make.specs.Leaf.{IsNamed, ReadsBasic, ReadsContent, ReadsKey}
use Rattle.gob_make.specs.Zero.{IsZeroOf, AreFilled, AreKept}

-- the field of this number has this name
abbrev pub HasName : List Field → ℕ → List ℕ → Type 0
HasName types number name = (e : Field) × IsNamed types number name e

-- no field has it
abbrev pub IsUnknown : List Field → List ℕ → Type 0
IsUnknown types name = (number : ℕ) (e : Field) → ¬ IsNamed types number name e

-- a field's number is below that of the first of these
abbrev pub IsBelow : ℕ → Fields → Type 0
IsBelow f no_field = ⊤
IsBelow f (field g w fs) = f < g

-- the field is put in its place among those of this number and greater ones, of which none is it
pub data Puts (f : ℕ) (v : Tree) : (least : ℕ) → (fields more : Fields) → Type 0 where
  here : {least : ℕ} {fs : Fields} → least ≤ f → IsBelow f fs → Puts f v least fs (field f v fs)
  further : {least g : ℕ} {w : Tree} {fs gs : Fields} → Puts f v (g + 1) fs gs
      → Puts f v least (field g w fs) (field g w gs)

mutual
  -- the JSON says the value as one of this type; members that no field has may be left out, or there are none
  pub data ReadsPlain (lenient : Bool) (T : Table) : TypeId → Json → Tree → Type 0 where
    of_null : {t : TypeId} {v : Tree} → IsZeroOf T t v → ReadsPlain lenient T t json.null v
    of_type : {t : TypeId} {s : Shape} {j : Json} {v : Tree} → shape_of T t ≡ Some s → ReadsAs lenient T s j v
        → ReadsPlain lenient T t j v

  -- as one of a type of this shape
  pub data ReadsAs (lenient : Bool) (T : Table) : Shape → Json → Tree → Type 0 where
    of_basic : {s : Shape} {b : Basic} {j : Json} {v : Tree} → s.kind ≡ kind.Basic b → ReadsBasic b j v
        → ReadsAs lenient T s j v
    of_opaque : {s : Shape} {m : Marshal} {j : Json} {b : List ℕ} → s.kind ≡ kind.Opaque m
        → ReadsContent (content_by s.kind s.name) j b → ReadsAs lenient T s j (Value.opaque b)
    of_slice : {s : Shape} {e : TypeId} {js : Items} {vs : Trees} → s.kind ≡ kind.Slice e
        → ReadsEach lenient T e js vs → ReadsAs lenient T s (json.array js) (Value.many vs)
    of_array : {s : Shape} {e : TypeId} {n : ℕ} {js : Items} {vs ws : Trees} → s.kind ≡ kind.Array e n
        → ReadsEach lenient T e js vs → AreFilled T e n vs ws → ReadsAs lenient T s (json.array js) (Value.many ws)
    of_pairs : {s : Shape} {k e : TypeId} {js : Items} {ps : Pairs} → s.kind ≡ kind.Map k e
        → ReadsPairs lenient T k e js ps → ReadsAs lenient T s (json.array js) (Value.pairs ps)
    of_entries : {s : Shape} {k e : TypeId} {ms : Members} {ps : Pairs} → s.kind ≡ kind.Map k e
        → ReadsEntries lenient T k e ms ps → ReadsAs lenient T s (json.object ms) (Value.pairs ps)
    of_struct : {s : Shape} {types : List Field} {ms : Members} {fs gs : Fields} → s.kind ≡ kind.Struct types
        → ReadsMembers lenient T types no_field ms fs → AreKept T types fs gs
        → ReadsAs lenient T s (json.object ms) (Value.fields gs)

  -- each element, in order
  pub data ReadsEach (lenient : Bool) (T : Table) : TypeId → Items → Trees → Type 0 where
    no_element : {e : TypeId} → ReadsEach lenient T e json.no_items no_tree
    element : {e : TypeId} {j : Json} {v : Tree} {js : Items} {vs : Trees} → ReadsPlain lenient T e j v
        → ReadsEach lenient T e js vs → ReadsEach lenient T e (json.item j js) (tree v vs)

  -- [key,element] for each entry, in order
  pub data ReadsPairs (lenient : Bool) (T : Table) : TypeId → TypeId → Items → Pairs → Type 0 where
    no_more_pairs : {k e : TypeId} → ReadsPairs lenient T k e json.no_items no_pair
    one_pair : {k e : TypeId} {a b : Json} {x v : Tree} {js : Items} {ps : Pairs} → ReadsPlain lenient T k a x
        → ReadsPlain lenient T e b v → ReadsPairs lenient T k e js ps
        → ReadsPairs lenient T k e (json.item (json.array (json.item a (json.item b json.no_items))) js) (pair x v ps)

  -- a member for each entry, named by its key, in order; a repeated one is kept
  pub data ReadsEntries (lenient : Bool) (T : Table) : TypeId → TypeId → Members → Pairs → Type 0 where
    no_entry : {k e : TypeId} → ReadsEntries lenient T k e json.no_members no_pair
    entry : {k e : TypeId} {name : List ℕ} {j : Json} {x v : Tree} {ms : Members} {ps : Pairs} → ReadsKey T k name x
        → ReadsPlain lenient T e j v → ReadsEntries lenient T k e ms ps
        → ReadsEntries lenient T k e (json.member name j ms) (pair x v ps)

  -- behind members that say the first fields, these members say the others
  pub data ReadsMembers (lenient : Bool) (T : Table) : List Field → Fields → Members → Fields → Type 0 where
    no_more : {types : List Field} {fs : Fields} → ReadsMembers lenient T types fs json.no_members fs
    null : {types : List Field} {number : ℕ} {e : Field} {name : List ℕ} {ms : Members} {fs gs : Fields}
        → IsNamed types number name e → ReadsMembers lenient T types fs ms gs
        → ReadsMembers lenient T types fs (json.member name json.null ms) gs
    left_out : {types : List Field} {name : List ℕ} {j : Json} {ms : Members} {fs gs : Fields} → lenient ≡ true
        → IsUnknown types name → ReadsMembers lenient T types fs ms gs
        → ReadsMembers lenient T types fs (json.member name j ms) gs
    said : {types : List Field} {number : ℕ} {e : Field} {name : List ℕ} {j : Json} {v : Tree} {ms : Members}
        {fs more gs : Fields} → IsNamed types number name e → j ≢ json.null → ReadsPlain lenient T e.id j v
        → Puts number v 0 fs more → ReadsMembers lenient T types more ms gs
        → ReadsMembers lenient T types fs (json.member name j ms) gs
