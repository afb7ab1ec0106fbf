-- The path of a place in a body: the steps into the part that what comes next there is of, from the value on.
-- (docs/FORMAT.md, Refusals, What comes next; Explained bytes: this project's own.)
use Rattle.std.specs.Prelude.{◌≡◌, ℕ, List, [], ◌∷◌, ◌++◌, Bool, true, false, Some}
use Rattle.gob_types.specs.declared.id.TypeId.{TypeId}
use Rattle.gob_types.specs.declared.kind.Kind.{Kind}
use Rattle.gob_types.specs.declared.kind.Shape.{Shape}
use Rattle.gob_types.specs.Table.{Table, shape_of}
use Rattle.gob_value.specs.Top.{IsStruct}
use Rattle.gob_value.specs.Tree.{tree_count, pair_count}
use Rattle.gob_read.specs.Expected.{Expected}
use Rattle.gob_read.specs.Expects.{Enters, ExpectsAt, slice_element, array_element, next_key, next_value, next_field}
use Rattle.gob_explain.specs.declared.row.PartStep.{PartStep}
use Rattle.gob_explain.specs.declared.row.PartStep.TheVariants as step
use Rattle.gob_explain.specs.Open.{Due, Open, a_filling, a_value}

-- the step from a part of the type into the next one in it: by how many elements or pairs stand before that, or by the
-- number of its field
abbrev pub step_into : {T : Table} {k : Kind} {b : List ℕ} {u : TypeId} → TypeId → Enters T k b u → PartStep
step_into t (slice_element {vs = vs} count before fewer) = step.Element (tree_count vs)
step_into t (array_element {vs = vs} count before fewer) = step.Element (tree_count vs)
step_into t (next_key {ps = ps} count before fewer) = step.Key (pair_count ps)
step_into t (next_value {ps = ps} count before fewer key) = step.Value (pair_count ps)
step_into t (next_field {f = f} before order there delta) = step.Field t f

-- behind these bytes of a part of the type, what comes next is of the part to which the path leads from it
pub data PathIn (T : Table) : TypeId → List ℕ → List PartStep → Type 0 where
  in_itself : {t : TypeId} {s : Shape} {p : List ℕ} {w : Expected} → shape_of T t ≡ Some s → ExpectsAt T s.kind p w
      → PathIn T t p []
  in_part : {t u : TypeId} {s : Shape} {k : Kind} {q p : List ℕ} {path : List PartStep} → shape_of T t ≡ Some s
      → s.kind ≡ k → (part : Enters T k q u) → PathIn T u p path → PathIn T t (q ++ p) (step_into t part ∷ path)

-- behind these bytes of a value or of its skeleton: before the first one, what comes next is of the value itself
pub data PathTop (T : Table) (t : TypeId) : List ℕ → List PartStep → Type 0 where
  at_begin : PathTop T t [] []
  in_struct : {s : Shape} {p : List ℕ} {path : List PartStep} → shape_of T t ≡ Some s → IsStruct s.kind
      → PathIn T t p path → PathTop T t p path
  behind_tag : {s : Shape} {p : List ℕ} {path : List PartStep} → shape_of T t ≡ Some s → ¬ IsStruct s.kind
      → PathIn T t p path → PathTop T t (0 ∷ p) path

-- where these are open: a filling is of its interface, and what stands in it is a step further
pub data PathOf (T : Table) : List Open → List PartStep → Type 0 where
  of_item : {t : TypeId} {p : List ℕ} {path : List PartStep} → PathTop T t p path → PathOf T (a_value t 0 p ∷ []) path
  of_filling : {u : TypeId} {d : ℕ} {due : Due} {outer : List Open} {path : List PartStep} → PathOf T outer path
      → PathOf T (a_filling u d due ∷ outer) path
  of_held : {t : TypeId} {base : ℕ} {p : List ℕ} {outer : List Open} {around path : List PartStep}
      → PathOf T outer around
      → PathTop T t p path → PathOf T (a_value t base p ∷ outer) (around ++ step.Held t ∷ path)

-- where rows go no further: of a whole value nothing comes next, and the path is that of the value itself
abbrev pub PathAt : Table → (whole : Bool) → List Open → List PartStep → Type 0
PathAt T true opens path = path ≡ []
PathAt T false opens path = PathOf T opens path
