-- Where a reader with a work stack stands, in the words of the grammar: whole parts, and around the place the open
-- ones.
-- It describes the reader's stack.
use Rattle.std.specs.Prelude.{◌≡◌, ℕ, ◌+◌, ◌-◌, ◌<◌, ◌≤◌, List, [], ◌∷◌, ◌++◌, length, Some, slice_get}
use Rattle.gob_num.specs.Unsigned.{IsUnsigned}
use Rattle.gob_num.specs.Pattern.{IsPattern}
use Rattle.gob_types.specs.declared.id.TypeId.{TypeId}
use Rattle.gob_types.specs.declared.basic.Basic.TheVariants as basic
use Rattle.gob_types.specs.declared.kind.Field.{Field}
use Rattle.gob_types.specs.declared.kind.Kind.{Kind}
use Rattle.gob_types.specs.declared.kind.Kind.TheVariants as kind
use Rattle.gob_types.specs.declared.kind.Shape.{Shape}
use Rattle.gob_types.specs.Table.{Table, shape_of}
use Rattle.gob_value.specs.Tree.{Tree, Trees, no_tree, tree, Pairs, no_pair, pair, Fields, no_field, tree_count}
use Rattle.gob_value.specs.Tree.{pair_count}
use Rattle.gob_value.specs.Tree as Value
use Rattle.gob_value.specs.Spelling.{Spells}
use Rattle.gob_value.specs.Top.{IsStruct}
use Rattle.gob_read.specs.declared.event.RawKind.{RawKind}
use Rattle.gob_read.specs.declared.event.GroupKind.TheVariants as group
use Rattle.gob_read.specs.declared.frame.Frame.{Frame}
use Rattle.gob_read.specs.declared.frame.Frame.TheVariants as frame
use Rattle.gob_read.specs.declared.next.Next.{Next}
use Rattle.gob_read.specs.declared.next.Next.TheVariants.{Number, Raw}
use Rattle.gob_read.specs.declared.next.NextNumber.TheVariants.{Tag, Part, Second, Delta}
use Rattle.gob_read.specs.Event.{Event, raw_start, enter, field, HasEvents, HasRawEvents}
use Rattle.gob_read.specs.Machine.Kinds.{HasKind, IsRawKind, IsList}

-- elements, spelled and told
pub data EachTold (T : Table) : TypeId → Trees → List ℕ → List Event → Type 0 where
  none_told : {e : TypeId} → EachTold T e no_tree [] []
  one_told : {e : TypeId} {v : Tree} {vs : Trees} {b c : List ℕ} {us ws : List Event} → Spells T e v b → HasEvents v us
      → EachTold T e vs c ws → EachTold T e (tree v vs) (b ++ c) (us ++ ws)

-- keys, each with its element, spelled and told
pub data PairsTold (T : Table) : TypeId → TypeId → Pairs → List ℕ → List Event → Type 0 where
  no_pair_told : {k e : TypeId} → PairsTold T k e no_pair [] []
  pair_told : {k e : TypeId} {x v : Tree} {ps : Pairs} {a b c : List ℕ} {us ws xs : List Event} → Spells T k x a
      → HasEvents x us → Spells T e v b → HasEvents v ws
      → PairsTold T k e ps c xs → PairsTold T k e (pair x v ps) (a ++ (b ++ c)) (us ++ (ws ++ xs))

-- whole fields from one number on to another, spelled and told
pub data FieldsTold (T : Table) : List Field → ℕ → ℕ → Fields → List ℕ → List Event → Type 0 where
  no_field_told : {types : List Field} {next : ℕ} → FieldsTold T types next next no_field [] []
  field_told : {types : List Field} {start f next : ℕ} {e : Field} {v : Tree} {fs : Fields} {a b c : List ℕ}
      {us ws : List Event} → start ≤ f → slice_get types f ≡ Some e
      → IsUnsigned (f + 1 - start) a → Spells T e.id v b → HasEvents v us → FieldsTold T types (f + 1) next fs c ws
      → FieldsTold T types start next (Value.field f v fs) (a ++ (b ++ c)) (field f ∷ (us ++ ws))

-- after these bytes, told so, a part of this type begins, inside these open parts, the innermost first
pub data OpenPath (T : Table) (t : TypeId) : List Frame → List ℕ → List Event → TypeId → Type 0 where
  at_once : {s : Shape} → shape_of T t ≡ Some s → IsStruct s.kind → OpenPath T t [] [] [] t
  behind_tag : {s : Shape} → shape_of T t ≡ Some s → ¬ IsStruct s.kind → OpenPath T t [] (0 ∷ []) [] t
  in_list : {fs : List Frame} {p c b : List ℕ} {us ws : List Event} {u e : TypeId} {n left : ℕ} {k : Kind} {vs : Trees}
      → OpenPath T t fs p us u → HasKind T u k → IsList k n e
      → IsUnsigned n c → EachTold T e vs b ws → tree_count vs + left + 1 ≡ n → OpenPath T t (frame.Many e left ∷ fs) (p
      ++ (c ++ b)) (us ++ enter group.Many ∷ ws) e
  at_key : {fs : List Frame} {p c b : List ℕ} {us ws : List Event} {u k e : TypeId} {n left : ℕ} {ps : Pairs}
      → OpenPath T t fs p us u → HasKind T u (kind.Map k e)
      → IsUnsigned n c → PairsTold T k e ps b ws → pair_count ps + left + 1 ≡ n
      → OpenPath T t (frame.Key k e left ∷ fs) (p ++ (c ++ b)) (us ++ enter group.Pairs ∷ ws) k
  at_value : {fs : List Frame} {p c b a : List ℕ} {us ws xs : List Event} {u k e : TypeId} {n left : ℕ} {ps : Pairs}
      {x : Tree} → OpenPath T t fs p us u → HasKind T u (kind.Map k e)
      → IsUnsigned n c → PairsTold T k e ps b ws → pair_count ps + left + 1 ≡ n → Spells T k x a → HasEvents x xs
      → OpenPath T t (frame.Elem k e left ∷ fs) (p ++ (c ++ (b ++ a))) (us ++ enter group.Pairs ∷ (ws ++ xs)) e
  in_field : {fs : List Frame} {p a b : List ℕ} {us ws : List Event} {u : TypeId} {e : Field} {f next after : ℕ}
      {types : List Field} {vs : Fields} → OpenPath T t fs p us u
      → HasKind T u (kind.Struct types) → FieldsTold T types 0 next vs a ws → next ≤ f → f + 1 ≡ after
      → slice_get types f ≡ Some e → IsUnsigned (f + 1 - next) b
      → OpenPath T t (frame.Fields u after ∷ fs) (p ++ (a ++ b)) (us ++ enter group.Fields ∷ (ws ++ field f ∷ [])) e.id

-- after these bytes, told so, a struct of this type and these fields is open, and its next field has this number or a
-- greater one
pub data OpenStruct (T : Table) (t : TypeId) : List Frame → TypeId → List Field → ℕ → List ℕ → List Event → Type 0 where
  open_struct : {fs : List Frame} {p a : List ℕ} {us ws : List Event} {u : TypeId} {next : ℕ} {types : List Field}
      {vs : Fields} → OpenPath T t fs p us u → HasKind T u (kind.Struct types)
      → FieldsTold T types 0 next vs a ws → OpenStruct T t (frame.Fields u next ∷ fs) u types next (p ++ a) (us
      ++ enter group.Fields ∷ ws)

-- before these bytes of it, told so, the expected item begins
pub data AtNext (T : Table) (t : TypeId) : List Frame → Next → List ℕ → List ℕ → List Event → Type 0 where
  at_tag : {r : List ℕ} {s : Shape} → shape_of T t ≡ Some s → ¬ IsStruct s.kind → AtNext T t [] (Number (Tag t)) [] r []
  at_part : {fs : List Frame} {p r : List ℕ} {us : List Event} {u : TypeId} → OpenPath T t fs p us u
      → AtNext T t fs (Number (Part u)) p r us
  at_second : {fs : List Frame} {p c r : List ℕ} {us : List Event} {u : TypeId} {q : ℕ} → OpenPath T t fs p us u
      → HasKind T u (kind.Basic basic.Complex) → IsPattern q c
      → AtNext T t fs (Number (Second q)) (p ++ c) r us
  at_delta : {fs : List Frame} {p r : List ℕ} {us : List Event} {u : TypeId} {next : ℕ} {types : List Field}
      → OpenStruct T t fs u types next p us → 0 < next → AtNext T t fs (Number Delta) p r us
  at_raw : {fs : List Frame} {p c r : List ℕ} {us ws : List Event} {u : TypeId} {n left : ℕ} {k : Kind} {raw : RawKind}
      → OpenPath T t fs p us u → HasKind T u k → IsRawKind k raw → IsUnsigned n c
      → HasRawEvents r ws → length r + left ≡ n → 0 < left → AtNext T t fs (Raw left) (p ++ c) r (us
      ++ raw_start raw ∷ ws)

-- a whole part has just been read inside these open ones
pub record PartDone (T : Table) (t : TypeId) (fs : List Frame) (z : List ℕ) (us : List Event) : Type 0 where
  pub type : TypeId
  pub value : Tree
  pub before : List ℕ
  pub bytes : List ℕ
  pub told_before : List Event
  pub told : List Event
  pub within : OpenPath T t fs before told_before type
  pub spelled : Spells T type value bytes
  pub tells : HasEvents value told
  pub whole : z ≡ before ++ bytes
  pub event : us ≡ told_before ++ told
