-- What comes next after some bytes of a spelling, said by the whole parts before it and the one that is under way.
-- (Go's encoding/gob documentation, Encoding Details; docs/FORMAT.md, Values; Depth.)
use Rattle.std.specs.Prelude.{◌≡◌, ℕ, suc, ◌+◌, ◌-◌, ◌<◌, ◌≤◌, List, [], ◌∷◌, ◌++◌, length, Some, slice_get}
use Rattle.gob_num.specs.Unsigned.{IsUnsigned}
use Rattle.gob_num.specs.Pattern.{IsPattern}
use Rattle.gob_types.specs.declared.id.TypeId.{TypeId}
use Rattle.gob_types.specs.declared.basic.Basic.TheVariants as basic
use Rattle.gob_types.specs.declared.kind.Field.{Field}
use Rattle.gob_types.specs.declared.kind.Marshal.{Marshal}
use Rattle.gob_types.specs.declared.kind.Kind.{Kind}
use Rattle.gob_types.specs.declared.kind.Kind.TheVariants as kind
use Rattle.gob_types.specs.declared.kind.Shape.{Shape}
use Rattle.gob_types.specs.Table.{Table, shape_of}
use Rattle.gob_value.specs.Tree.{Tree, Trees, Pairs, tree_count, pair_count}
use Rattle.gob_value.specs.Spelling.{Spells, SpellsEach, SpellsPairs}
use Rattle.gob_value.specs.Top.{IsStruct}
use Rattle.gob_read.specs.Expected.{Expected, a_number, raw, any, tag, delta, first_allowed}

-- whole fields, each behind its delta, from one field number on to another
pub data FieldsRun (T : Table) : List Field → ℕ → ℕ → List ℕ → Type 0 where
  no_fields : {types : List Field} {next : ℕ} → FieldsRun T types next next []
  field_then : {types : List Field} {start f next : ℕ} {e : Field} {v : Tree} {a b c : List ℕ} → start ≤ f
      → slice_get types f ≡ Some e
      → IsUnsigned (f + 1 - start) a → Spells T e.id v b → FieldsRun T types (f + 1) next c
      → FieldsRun T types start next (a ++ (b ++ c))

-- a part of this kind has begun with these bytes, and behind them the next part in it begins, which is of this type
pub data Enters (T : Table) : Kind → List ℕ → TypeId → Type 0 where
  slice_element : {e : TypeId} {n : ℕ} {vs : Trees} {c b : List ℕ} → IsUnsigned n c → SpellsEach T e vs b
      → tree_count vs < n → Enters T (kind.Slice e) (c ++ b) e
  array_element : {e : TypeId} {n : ℕ} {vs : Trees} {c b : List ℕ} → IsUnsigned n c → SpellsEach T e vs b
      → tree_count vs < n → Enters T (kind.Array e n) (c ++ b) e
  next_key : {k e : TypeId} {n : ℕ} {ps : Pairs} {c b : List ℕ} → IsUnsigned n c → SpellsPairs T k e ps b
      → pair_count ps < n → Enters T (kind.Map k e) (c ++ b) k
  next_value : {k e : TypeId} {n : ℕ} {x : Tree} {ps : Pairs} {c b a : List ℕ} → IsUnsigned n c → SpellsPairs T k e ps b
      → pair_count ps < n → Spells T k x a
      → Enters T (kind.Map k e) (c ++ (b ++ a)) e
  next_field : {types : List Field} {next f : ℕ} {e : Field} {a b : List ℕ} → FieldsRun T types 0 next a → next ≤ f
      → slice_get types f ≡ Some e
      → IsUnsigned (f + 1 - next) b → Enters T (kind.Struct types) (a ++ b) e.id

-- a part of this kind has begun with these bytes, and this comes next in the part itself
pub data ExpectsAt (T : Table) : Kind → List ℕ → Expected → Type 0 where
  first : {k : Kind} → ExpectsAt T k [] (a_number (first_allowed k))
  second : {p : ℕ} {b : List ℕ} → IsPattern p b → ExpectsAt T (kind.Basic basic.Complex) b (a_number any)
  byte_content : {n : ℕ} {b : List ℕ} → 0 < n → IsUnsigned n b → ExpectsAt T (kind.Basic basic.Bytes) b (raw n)
  text_content : {n : ℕ} {b : List ℕ} → 0 < n → IsUnsigned n b → ExpectsAt T (kind.Basic basic.Str) b (raw n)
  opaque_content : {m : Marshal} {n : ℕ} {b : List ℕ} → 0 < n → IsUnsigned n b → ExpectsAt T (kind.Opaque m) b (raw n)
  next_delta : {types : List Field} {next : ℕ} {b : List ℕ} → 0 < next → FieldsRun T types 0 next b
      → ExpectsAt T (kind.Struct types) b (a_number (delta (length types - next)))

-- after these bytes of a spelling at the type, this comes next, in a part of this depth
pub data Expects (T : Table) : TypeId → List ℕ → Expected → ℕ → Type 0 where
  in_itself : {t : TypeId} {s : Shape} {p : List ℕ} {w : Expected} → shape_of T t ≡ Some s → ExpectsAt T s.kind p w
      → Expects T t p w 1
  in_part : {t u : TypeId} {d : ℕ} {s : Shape} {p q : List ℕ} {w : Expected} → shape_of T t ≡ Some s
      → Enters T s.kind q u → Expects T u p w d → Expects T t (q ++ p) w (suc d)

-- after these bytes of a body behind its type number, this comes next: a value that is no struct stands behind the
-- tag, which is in no part
pub data ExpectsTop (T : Table) : TypeId → List ℕ → Expected → ℕ → Type 0 where
  in_struct : {t : TypeId} {s : Shape} {p : List ℕ} {w : Expected} {d : ℕ} → shape_of T t ≡ Some s → IsStruct s.kind
      → Expects T t p w d → ExpectsTop T t p w d
  at_tag : {t : TypeId} {s : Shape} → shape_of T t ≡ Some s → ¬ IsStruct s.kind → ExpectsTop T t [] (a_number tag) 0
  behind_tag : {t : TypeId} {s : Shape} {p : List ℕ} {w : Expected} {d : ℕ} → shape_of T t ≡ Some s → ¬ IsStruct s.kind
      → Expects T t p w d → ExpectsTop T t (0 ∷ p) w d
