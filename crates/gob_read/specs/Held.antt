-- How much is held of a body of which only the first bytes came: each part from its first byte on, and of its raw bytes
-- those that came, as far as either is stored.
-- (docs/LIBRARY.md, Events: What is held.)
use Rattle.std.specs.Prelude.{◌≡◌, ℕ, ◌+◌, ◌-◌, ◌<◌, ◌≤◌, List, [], ◌∷◌, ◌++◌, length, Some, slice_get}
use Rattle.gob_num.specs.Unsigned.{IsUnsigned, IsUnsignedPrefix}
use Rattle.gob_num.specs.Pattern.{IsPattern}
use Rattle.gob_types.specs.declared.id.TypeId.{TypeId}
use Rattle.gob_types.specs.declared.basic.Basic.TheVariants as basic
use Rattle.gob_types.specs.declared.kind.Field.{Field}
use Rattle.gob_types.specs.declared.kind.Marshal.{Marshal}
use Rattle.gob_types.specs.declared.kind.Kind.{Kind}
use Rattle.gob_types.specs.declared.kind.Kind.TheVariants as kind
use Rattle.gob_types.specs.declared.kind.Shape.{Shape}
use Rattle.gob_types.specs.Table.{Table, shape_of}
use Rattle.gob_value.specs.Tree.{Tree, Trees, Pairs, Fields, no_field, tree_count, pair_count}
use Rattle.gob_value.specs.Tree as Value
use Rattle.gob_value.specs.Spelling.{Spells, SpellsEach, SpellsPairs}
use Rattle.gob_value.specs.Top.{IsStruct}
use Rattle.gob_read.specs.declared.builder.Stores.{Stores}
use Rattle.gob_read.specs.declared.builder.Stores.TheVariants.{PartsAndRaw, Parts, Nothing}
use Rattle.gob_read.specs.Viable.{IsViable}
use Rattle.gob_read.specs.Weight.{part_count, raw_count, parts_of_all, raw_of_all, parts_of_pairs, raw_of_pairs}
use Rattle.gob_read.specs.Weight.{parts_of_fields, raw_of_fields}

-- whole fields, each behind its delta, from one field number on to another
pub data WholeFields (T : Table) : List Field → ℕ → ℕ → Fields → List ℕ → Type 0 where
  no_whole_field : {types : List Field} {next : ℕ} → WholeFields T types next next no_field []
  whole_field : {types : List Field} {start f next : ℕ} {e : Field} {v : Tree} {fs : Fields} {a b c : List ℕ}
      → start ≤ f → slice_get types f ≡ Some e
      → IsUnsigned (f + 1 - start) a → Spells T e.id v b → WholeFields T types (f + 1) next fs c
      → WholeFields T types start next (Value.field f v fs) (a ++ (b ++ c))

-- A part of this kind has begun with these bytes, and behind them the next part in it begins, of this type. With the
-- bytes came so many parts, this one and all those in the whole parts before the next, and so many raw bytes.
pub data PartsBefore (T : Table) : Kind → List ℕ → TypeId → ℕ → ℕ → Type 0 where
  before_element : {e : TypeId} {n : ℕ} {vs : Trees} {c b : List ℕ} → IsUnsigned n c → SpellsEach T e vs b
      → tree_count vs < n → PartsBefore T (kind.Slice e) (c ++ b) e (parts_of_all vs + 1) (raw_of_all vs)
  before_array_element : {e : TypeId} {n : ℕ} {vs : Trees} {c b : List ℕ} → IsUnsigned n c → SpellsEach T e vs b
      → tree_count vs < n → PartsBefore T (kind.Array e n) (c ++ b) e (parts_of_all vs + 1) (raw_of_all vs)
  before_key : {k e : TypeId} {n : ℕ} {ps : Pairs} {c b : List ℕ} → IsUnsigned n c → SpellsPairs T k e ps b
      → pair_count ps < n → PartsBefore T (kind.Map k e) (c ++ b) k (parts_of_pairs ps + 1) (raw_of_pairs ps)
  before_value : {k e : TypeId} {n : ℕ} {x : Tree} {ps : Pairs} {c b a : List ℕ} → IsUnsigned n c
      → SpellsPairs T k e ps b → pair_count ps < n → Spells T k x a
      → PartsBefore T (kind.Map k e) (c ++ (b ++ a)) e (parts_of_pairs ps + part_count x + 1)
      (raw_of_pairs ps + raw_count x)
  before_field : {types : List Field} {next f : ℕ} {e : Field} {fs : Fields} {a b : List ℕ}
      → WholeFields T types 0 next fs a → next ≤ f → slice_get types f ≡ Some e
      → IsUnsigned (f + 1 - next) b → PartsBefore T (kind.Struct types) (a ++ b) e.id (parts_of_fields fs + 1)
      (raw_of_fields fs)

-- Of a part of this kind only these bytes came. They end in one of its own numbers or in its raw bytes, and in no part
-- in it.
pub data EndsInItself (T : Table) : Kind → List ℕ → ℕ → ℕ → Type 0 where
  -- before its first byte it isn't held
  not_begun : {k : Kind} → EndsInItself T k [] 0 0
  in_first_number : {k : Kind} {b : ℕ} {r : List ℕ} → IsUnsignedPrefix (b ∷ r) → EndsInItself T k (b ∷ r) 1 0
  in_imaginary_part : {p : ℕ} {c r : List ℕ} → IsPattern p c → IsUnsignedPrefix r
      → EndsInItself T (kind.Basic basic.Complex) (c ++ r) 1 0
  in_bytes : {n : ℕ} {c : List ℕ} (r : List ℕ) → IsUnsigned n c → length r < n
      → EndsInItself T (kind.Basic basic.Bytes) (c ++ r) 1 (length r)
  in_text : {n : ℕ} {c : List ℕ} (r : List ℕ) → IsUnsigned n c → length r < n → EndsInItself T (kind.Basic basic.Str) (c
      ++ r) 1 (length r)
  in_opaque : {m : Marshal} {n : ℕ} {c : List ℕ} (r : List ℕ) → IsUnsigned n c → length r < n
      → EndsInItself T (kind.Opaque m) (c ++ r) 1 (length r)
  -- in the delta behind a field
  in_delta : {types : List Field} {next : ℕ} {fs : Fields} {b r : List ℕ} → 0 < next → WholeFields T types 0 next fs b
      → IsUnsignedPrefix r
      → EndsInItself T (kind.Struct types) (b ++ r) (parts_of_fields fs + 1) (raw_of_fields fs)

-- Of a part of this type only these bytes came, and with them the first bytes of so many parts, itself among them, and
-- so many raw bytes: whole parts, and behind them the one that is under way.
pub data PartialPart (T : Table) : TypeId → List ℕ → ℕ → ℕ → Type 0 where
  in_itself : {t : TypeId} {s : Shape} {z : List ℕ} {m w : ℕ} → shape_of T t ≡ Some s → EndsInItself T s.kind z m w
      → PartialPart T t z m w
  in_part : {t u : TypeId} {s : Shape} {q z : List ℕ} {m n w v : ℕ} → shape_of T t ≡ Some s
      → PartsBefore T s.kind q u m w → PartialPart T u z n v → PartialPart T t (q ++ z) (m + n) (w + v)

-- Of a body behind its type number only these bytes came, with the first bytes of so many parts, and so many raw
-- bytes; the tag before a value that is no struct is in no part.
pub data PartialBody (T : Table) : TypeId → List ℕ → ℕ → ℕ → Type 0 where
  in_struct : {t : TypeId} {s : Shape} {z : List ℕ} {m w : ℕ} → shape_of T t ≡ Some s → IsStruct s.kind
      → PartialPart T t z m w → PartialBody T t z m w
  in_tag : {t : TypeId} {s : Shape} {r : List ℕ} → shape_of T t ≡ Some s → ¬ IsStruct s.kind → IsUnsignedPrefix r
      → PartialBody T t r 0 0
  behind_tag : {t : TypeId} {s : Shape} {z : List ℕ} {m w : ℕ} → shape_of T t ≡ Some s → ¬ IsStruct s.kind
      → PartialPart T t z m w → PartialBody T t (0 ∷ z) m w

-- so much is held of so many parts and raw bytes by a builder that stores this of them
abbrev pub held_of : Stores → ℕ → ℕ → ℕ
held_of PartsAndRaw parts raws = parts + raws
held_of Parts parts raws = parts
held_of Nothing parts raws = 0

-- of so many parts so many are held
abbrev pub counted_of : Stores → ℕ → ℕ
counted_of PartsAndRaw parts = parts
counted_of Parts parts = parts
counted_of Nothing parts = 0

-- so much is held of a body of which these bytes came
pub record IsHeld (T : Table) (t : TypeId) (stores : Stores) (z : List ℕ) (held : ℕ) : Type 0 where
  pub parts : ℕ
  pub raws : ℕ
  pub partial : PartialBody T t z parts raws
  pub held_is : held ≡ held_of stores parts raws

-- of bytes that stand so many parts and raw bytes came
abbrev pub ViableArePartial : Type 0
ViableArePartial = (T : Table) (t : TypeId) (limit announced : ℕ) (z : List ℕ) → IsViable T t limit announced z
    → (parts : ℕ) × (raws : ℕ) × PartialBody T t z parts raws

-- and no others, so that one number is held
abbrev pub HoldOnce : Type 0
HoldOnce = (T : Table) (t : TypeId) (stores : Stores) (z : List ℕ) (held other : ℕ) → IsHeld T t stores z held
    → IsHeld T t stores z other → held ≡ other

-- at most as many as the bytes
abbrev pub HoldAtMostTheirLength : Type 0
HoldAtMostTheirLength = (T : Table) (t : TypeId) (stores : Stores) (z : List ℕ) (held : ℕ) → IsHeld T t stores z held
    → held ≤ length z
