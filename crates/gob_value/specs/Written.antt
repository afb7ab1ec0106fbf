-- The bytes of a value that fits its type. They are the same at each type that the value fits, so that writing them
-- looks up none. (Go's encoding/gob documentation, Encoding Details; docs/FORMAT.md, Values.)
use Rattle.std.specs.Prelude.{ℕ, ℤ, ◌+◌, ◌-◌, ◌≤◌, Bool, List, [], ◌++◌, length, Option, Some, None}
use Rattle.gob_num.specs.Unsigned.{IsUnsigned}
use Rattle.gob_num.specs.Signed.{IsSigned}
use Rattle.gob_num.specs.Pattern.{IsPattern}
use Rattle.gob_value.specs.Tree.{Tree, Trees, no_tree, tree, Pairs, no_pair, pair, Fields, no_field, field, tree_count}
use Rattle.gob_value.specs.Tree.{pair_count}
use Rattle.gob_value.specs.Tree as Value
use Rattle.gob_value.specs.Spelling.{truth}

-- a list, a map or a struct
abbrev pub HasParts : Tree → Type 0
HasParts (Value.many vs) = Unit {0}
HasParts (Value.pairs ps) = Unit {0}
HasParts (Value.fields fs) = Unit {0}
HasParts _ = ⊥

-- so many bytes behind their count
pub data WrittenBytes : List ℕ → List ℕ → Type 0 where
  counted : {s c : List ℕ} → IsUnsigned (length s) c → WrittenBytes s (c ++ s)

mutual
  pub data Written : Tree → List ℕ → Type 0 where
    of_bool : {x : Bool} {b : List ℕ} → IsUnsigned (truth x) b → Written (Value.bool x) b
    of_int : {i : ℤ} {b : List ℕ} → IsSigned i b → Written (Value.int i) b
    of_uint : {n : ℕ} {b : List ℕ} → IsUnsigned n b → Written (Value.uint n) b
    of_float : {p : ℕ} {b : List ℕ} → IsPattern p b → Written (Value.float p) b
    of_complex : {p q : ℕ} {b c : List ℕ} → IsPattern p b → IsPattern q c → Written (Value.complex p q) (b ++ c)
    of_nil : {b : List ℕ} → IsUnsigned 0 b → Written Value.nil b
    of_bytes : {s b : List ℕ} → WrittenBytes s b → Written (Value.bytes s) b
    of_text : {s b : List ℕ} → WrittenBytes s b → Written (Value.text s) b
    of_opaque : {s b : List ℕ} → WrittenBytes s b → Written (Value.opaque s) b
    of_many : {vs : Trees} {c b : List ℕ} → IsUnsigned (tree_count vs) c → WrittenEach vs b
        → Written (Value.many vs) (c ++ b)
    of_pairs : {ps : Pairs} {c b : List ℕ} → IsUnsigned (pair_count ps) c → WrittenPairs ps b
        → Written (Value.pairs ps) (c ++ b)
    of_fields : {fs : Fields} {b : List ℕ} → WrittenFields 0 fs b → Written (Value.fields fs) b

  -- the elements, one after another
  pub data WrittenEach : Trees → List ℕ → Type 0 where
    no_element : WrittenEach no_tree []
    element : {v : Tree} {vs : Trees} {b c : List ℕ} → Written v b → WrittenEach vs c → WrittenEach (tree v vs) (b ++ c)

  -- a key, its element, and so on
  pub data WrittenPairs : Pairs → List ℕ → Type 0 where
    no_entry : WrittenPairs no_pair []
    entry : {x v : Tree} {ps : Pairs} {a b c : List ℕ} → Written x a → Written v b → WrittenPairs ps c
        → WrittenPairs (pair x v ps) (a ++ (b ++ c))

  -- the present fields, of which the next has this number or a greater one
  pub data WrittenFields : ℕ → Fields → List ℕ → Type 0 where
    end_of_fields : {next : ℕ} {b : List ℕ} → IsUnsigned 0 b → WrittenFields next no_field b
    next_field : {next f : ℕ} {v : Tree} {fs : Fields} {a b c : List ℕ} → next ≤ f → IsUnsigned (f + 1 - next) a
        → Written v b
        → WrittenFields (f + 1) fs c → WrittenFields next (field f v fs) (a ++ (b ++ c))

-- the number that the next field has at least, behind a field of this number or before the first
abbrev pub next_number : Option ℕ → ℕ
next_number None = 0
next_number (Some last) = last + 1
