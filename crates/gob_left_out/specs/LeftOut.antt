-- Which fields a value leaves out that is received as one of a wanted type. (docs/LIBRARY.md, Matching and receiving:
-- this project's own.)
use Rattle.std.specs.Global.{Global}
use Rattle.std.specs.Prelude.{◌≡◌, ℕ, List, [], ◌∷◌, Some, Contains, Vec, slice_get}
use Rattle.gob_types.specs.declared.id.TypeId.{TypeId}
use Rattle.gob_types.specs.declared.kind.Field.{Field}
use Rattle.gob_types.specs.declared.kind.Kind.{Kind}
use Rattle.gob_types.specs.declared.kind.Kind.TheVariants as kind
use Rattle.gob_types.specs.declared.kind.Shape.{Shape}
use Rattle.gob_types.specs.Table.{Table}
use Rattle.gob_value.specs.Tree.{Tree, Trees, tree, Pairs, pair, Fields}
use Rattle.gob_value.specs.Tree as Value
use Rattle.gob_match.specs.declared.pair.TypePair.{TypePair}
use Rattle.gob_match.specs.declared.step.TypeStep.{TypeStep}
use Rattle.gob_match.specs.declared.step.TypeStep.TheVariants as step
use Rattle.gob_match.specs.Matching.{HasShapes}
use Rattle.gob_match.specs.Pairs.{HasFieldNamed, HasName, of_types}
use Rattle.gob_match.specs.Received.{HasPresent, IsPresent}
use Rattle.gob_left_out.specs.declared.field.UnwantedField.{UnwantedField}

-- it is one of the elements
pub data IsElement : Tree → Trees → Type 0 where
  first : {v : Tree} {vs : Trees} → IsElement v (tree v vs)
  later : {v w : Tree} {vs : Trees} → IsElement v vs → IsElement v (tree w vs)

-- they are one of the keys and its element
pub data IsEntry : Tree → Tree → Pairs → Type 0 where
  first_entry : {x y : Tree} {ps : Pairs} → IsEntry x y (pair x y ps)
  later_entry : {x y k e : Tree} {ps : Pairs} → IsEntry x y ps → IsEntry x y (pair k e ps)

-- a part of a value of the first kind, with the pair of types that it is received under and the step that leads to it:
-- an element, a key, or a field whose name is in both structs
pub data HasPart : Kind → Kind → Tree → TypeStep → TypePair → Tree → Type 0 where
  element_of_arrays : {e f : TypeId} {m n : ℕ} {vs : Trees} {w : Tree} → IsElement w vs
      → HasPart (kind.Array e m) (kind.Array f n) (Value.many vs) step.Element (of_types e f) w
  element_of_slices : {e f : TypeId} {vs : Trees} {w : Tree} → IsElement w vs
      → HasPart (kind.Slice e) (kind.Slice f) (Value.many vs) step.Element (of_types e f) w
  key_of_maps : {k l e f : TypeId} {ps : Pairs} {x y : Tree} → IsEntry x y ps
      → HasPart (kind.Map k e) (kind.Map l f) (Value.pairs ps) step.Key (of_types k l) x
  element_of_maps : {k l e f : TypeId} {ps : Pairs} {x y : Tree} → IsEntry x y ps
      → HasPart (kind.Map k e) (kind.Map l f) (Value.pairs ps) step.Element (of_types e f) y
  field_of_structs : {types wanted : List Field} {fs : Fields} {name : List ℕ} {t u : TypeId} {w : Tree}
      → HasPresent types fs name t w → HasFieldNamed wanted name u
      → HasPart (kind.Struct types) (kind.Struct wanted) (Value.fields fs) (step.Named name) (of_types t u) w

-- the struct's field of this number, which has this name, is present, and the wanted struct has no field of that name
pub record HasUnwanted (types wanted : List Field) (fs : Fields) (number : ℕ) (name : List ℕ) : Type 0 where
  pub field : Field
  pub there : slice_get types number ≡ Some field
  pub named : field.name ≡ name
  pub value : Tree
  pub present : IsPresent number value fs
  pub unwanted : ¬ HasName wanted name

-- a value of the first kind has it, where values of the second are wanted
pub data Lacks : Kind → Kind → Tree → ℕ → List ℕ → Type 0 where
  of_structs : {types wanted : List Field} {fs : Fields} {number : ℕ} {name : List ℕ}
      → HasUnwanted types wanted fs number name
      → Lacks (kind.Struct types) (kind.Struct wanted) (Value.fields fs) number name

-- a value of the pair's type of the stream, received as one of its wanted type, leaves out this field, to which the
-- path of steps leads
pub data LeavesOut (T U : Table) : TypePair → Tree → List TypeStep → UnwantedField → Type 0 where
  here : {p : TypePair} {v : Tree} {s r : Shape} {number : ℕ} {name : List ℕ} → HasShapes T U p s r
      → Lacks s.kind r.kind v number name
      → LeavesOut T U p v (step.Named name ∷ []) (record { pair = p; number = number })
  inside : {p q : TypePair} {v w : Tree} {s r : Shape} {onward : TypeStep} {path : List TypeStep} {x : UnwantedField}
      → HasShapes T U p s r → HasPart s.kind r.kind v onward q w → LeavesOut T U q w path x
      → LeavesOut T U p v (onward ∷ path) x

-- the value leaves out nothing
abbrev pub LeavesNothing : (T U : Table) → TypePair → Tree → Type 0
LeavesNothing T U p v = (path : List TypeStep) (x : UnwantedField) → ¬ LeavesOut T U p v path x

-- ---- what is told of it
-- a field that is left out, and a path to it
abbrev pub Row : Type 0
Row = UnwantedField × Vec TypeStep Global

-- the field is among them
pub record HasRow (rows : List Row) (x : UnwantedField) : Type 0 where
  pub place : ℕ
  pub row : Row
  pub there : slice_get rows place ≡ Some row
  pub is : row.0 ≡ x

-- they are the fields that the value leaves out, each with a path to it
pub record AreLeftOut (T U : Table) (p : TypePair) (v : Tree) (rows : List Row) : Type 0 where
  pub each : (k : ℕ) (r : Row) → slice_get rows k ≡ Some r → LeavesOut T U p v r.1.items r.0
  pub all : (path : List TypeStep) (x : UnwantedField) → LeavesOut T U p v path x → HasRow rows x

-- the path is that of the first of them
pub record IsFirstPath (rows : List Row) (path : Vec TypeStep Global) : Type 0 where
  pub field : UnwantedField
  pub there : slice_get rows 0 ≡ Some (field, path)

-- ---- two types
-- a field of the struct has a name that no field of the wanted struct has
pub record LacksSome (types wanted : List Field) : Type 0 where
  pub number : ℕ
  pub field : Field
  pub there : slice_get types number ≡ Some field
  pub unwanted : ¬ HasName wanted field.name

pub data KindsLack : Kind → Kind → Type 0 where
  structs : {types wanted : List Field} → LacksSome types wanted → KindsLack (kind.Struct types) (kind.Struct wanted)

-- the pair is one of struct types, of which the wanted one lacks a field
pub record PairLacks (T U : Table) (p : TypePair) : Type 0 where
  pub stream : Shape
  pub wanted : Shape
  pub shapes : HasShapes T U p stream wanted
  pub lacks : KindsLack stream.kind wanted.kind

-- one of the pairs is
pub record SomePairLacks (T U : Table) (pairs : List TypePair) : Type 0 where
  pub pair : TypePair
  pub there : Contains pairs pair
  pub lacks : PairLacks T U pair
