-- How a stream spells a value of a type: a relation of whole values and whole lists of bytes, by cases on the shape.
-- (Go's encoding/gob documentation, Encoding Details; docs/FORMAT.md, Values.)
use Rattle.std.specs.Prelude.{◌≡◌, ℕ, ℤ, ◌+◌, ◌-◌, ◌≤◌, Bool, true, false, List, [], ◌++◌, length, Some, slice_get}
use Rattle.gob_num.specs.Unsigned.{IsUnsigned}
use Rattle.gob_num.specs.Signed.{IsSigned}
use Rattle.gob_num.specs.Pattern.{IsPattern}
use Rattle.gob_types.specs.declared.id.TypeId.{TypeId}
use Rattle.gob_types.specs.declared.basic.Basic.TheVariants as basic
use Rattle.gob_types.specs.declared.kind.Field.{Field}
use Rattle.gob_types.specs.declared.kind.Marshal.{Marshal}
use Rattle.gob_types.specs.declared.kind.Kind.{Kind}
use Rattle.gob_types.specs.declared.kind.Kind.TheVariants as kind
use Rattle.gob_types.specs.declared.kind.Shape.{Shape}
use Rattle.gob_types.specs.Table.{Table, shape_of}
use Rattle.gob_value.specs.Tree.{Tree, Trees, no_tree, tree, Pairs, no_pair, pair, Fields, no_field, field, tree_count}
use Rattle.gob_value.specs.Tree.{pair_count}
use Rattle.gob_value.specs.Tree as Value

-- the number of a truth value
abbrev pub truth : Bool → ℕ
truth false = 0
truth true = 1

mutual
  -- the bytes spell the value at the type of this id
  pub data Spells (T : Table) : TypeId → Tree → List ℕ → Type 0 where
    of_type : {t : TypeId} {s : Shape} {v : Tree} {b : List ℕ} → shape_of T t ≡ Some s → SpellsAs T s.kind v b
        → Spells T t v b

  -- the bytes spell the value at a kind
  pub data SpellsAs (T : Table) : Kind → Tree → List ℕ → Type 0 where
    of_bool : {x : Bool} {b : List ℕ} → IsUnsigned (truth x) b → SpellsAs T (kind.Basic basic.Bool) (Value.bool x) b
    of_int : {i : ℤ} {b : List ℕ} → IsSigned i b → SpellsAs T (kind.Basic basic.Int) (Value.int i) b
    of_uint : {n : ℕ} {b : List ℕ} → IsUnsigned n b → SpellsAs T (kind.Basic basic.Uint) (Value.uint n) b
    of_float : {p : ℕ} {b : List ℕ} → IsPattern p b → SpellsAs T (kind.Basic basic.Float) (Value.float p) b
    of_complex : {p q : ℕ} {b c : List ℕ} → IsPattern p b → IsPattern q c
        → SpellsAs T (kind.Basic basic.Complex) (Value.complex p q) (b ++ c)
    of_nil : {b : List ℕ} → IsUnsigned 0 b → SpellsAs T (kind.Basic basic.Interface) Value.nil b
    of_bytes : {s c : List ℕ} → IsUnsigned (length s) c → SpellsAs T (kind.Basic basic.Bytes) (Value.bytes s) (c ++ s)
    of_text : {s c : List ℕ} → IsUnsigned (length s) c → SpellsAs T (kind.Basic basic.Str) (Value.text s) (c ++ s)
    of_opaque : {m : Marshal} {s c : List ℕ} → IsUnsigned (length s) c
        → SpellsAs T (kind.Opaque m) (Value.opaque s) (c ++ s)
    of_slice : {e : TypeId} {vs : Trees} {c b : List ℕ} → IsUnsigned (tree_count vs) c → SpellsEach T e vs b
        → SpellsAs T (kind.Slice e) (Value.many vs) (c ++ b)
    of_array : {e : TypeId} {n : ℕ} {vs : Trees} {c b : List ℕ} → tree_count vs ≡ n → IsUnsigned n c
        → SpellsEach T e vs b → SpellsAs T (kind.Array e n) (Value.many vs) (c ++ b)
    of_map : {k e : TypeId} {ps : Pairs} {c b : List ℕ} → IsUnsigned (pair_count ps) c → SpellsPairs T k e ps b
        → SpellsAs T (kind.Map k e) (Value.pairs ps) (c ++ b)
    of_struct : {types : List Field} {fs : Fields} {b : List ℕ} → SpellsFields T types 0 fs b
        → SpellsAs T (kind.Struct types) (Value.fields fs) b

  -- the elements, one after another
  pub data SpellsEach (T : Table) : TypeId → Trees → List ℕ → Type 0 where
    no_element : {e : TypeId} → SpellsEach T e no_tree []
    element : {e : TypeId} {v : Tree} {vs : Trees} {b c : List ℕ} → Spells T e v b → SpellsEach T e vs c
        → SpellsEach T e (tree v vs) (b ++ c)

  -- a key, its element, and so on
  pub data SpellsPairs (T : Table) : TypeId → TypeId → Pairs → List ℕ → Type 0 where
    no_entry : {k e : TypeId} → SpellsPairs T k e no_pair []
    entry : {k e : TypeId} {x v : Tree} {ps : Pairs} {a b c : List ℕ} → Spells T k x a → Spells T e v b
        → SpellsPairs T k e ps c → SpellsPairs T k e (pair x v ps) (a ++ (b ++ c))

  -- the present fields, of which the next has this number or a greater one: by how much each number is above the one
  -- before, the field's value, and 0 at the end
  pub data SpellsFields (T : Table) : List Field → ℕ → Fields → List ℕ → Type 0 where
    end_of_fields : {types : List Field} {next : ℕ} {b : List ℕ} → IsUnsigned 0 b → SpellsFields T types next no_field b
    next_field : {types : List Field} {next f : ℕ} {e : Field} {v : Tree} {fs : Fields} {a b c : List ℕ} → next ≤ f
        → slice_get types f ≡ Some e
        → IsUnsigned (f + 1 - next) a → Spells T e.id v b → SpellsFields T types (f + 1) fs c
        → SpellsFields T types next (field f v fs) (a ++ (b ++ c))
