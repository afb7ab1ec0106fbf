-- What a walk over a value has met: the fields that are left out so far, and the steps that led to where it is.
use Rattle.std.specs.Prelude.{◌≡◌, ℕ, ◌<◌, ◌⊎◌, List, [], ◌∷◌, ◌++◌, Some, slice_get}
use Rattle.gob_types.specs.declared.kind.Field.{Field}
use Rattle.gob_types.specs.declared.kind.Kind.TheVariants as kind
use Rattle.gob_types.specs.declared.kind.Shape.{Shape}
use Rattle.gob_types.specs.Table.{Table}
use Rattle.gob_value.specs.declared.value.Value.{Value}
use Rattle.gob_value.specs.Tree.{Tree}
use Rattle.gob_value.specs.View.{view}
use Rattle.gob_match.specs.declared.pair.TypePair.{TypePair}
use Rattle.gob_match.specs.declared.step.TypeStep.{TypeStep}
use Rattle.gob_match.specs.declared.step.TypeStep.TheVariants as step
use Rattle.gob_match.specs.Matching.{HasShapes, Match}
use Rattle.gob_match.specs.Pairs.{HasFieldNamed, HasName, of_types, RepeatsName}
use Rattle.gob_left_out.specs.declared.field.UnwantedField.{UnwantedField}
use Rattle.gob_left_out.specs.declared.kinds.StructPair.{StructPair}
use Rattle.gob_left_out.specs.declared.walk.Met.{Met}
use Rattle.gob_left_out.specs.LeftOut.{HasRow, LeavesOut, Row}

-- what may be left out, by the path to it
abbrev pub Leaves : Type 1
Leaves = List TypeStep → UnwantedField → Type 0

-- the fields of which this holds were added, where they weren't there, and no others
pub record Notes (old new : List Row) (P : Leaves) : Type 0 where
  pub more : List Row
  pub grown : new ≡ old ++ more
  pub has : (path : List TypeStep) (x : UnwantedField) → P path x → HasRow new x
  pub only : (k : ℕ) (r : Row) → slice_get more k ≡ Some r → P r.1.items r.0

-- it is this field, by this path
abbrev pub IsAlone : UnwantedField → List TypeStep → Leaves
IsAlone field steps path x = (x ≡ field) × (path ≡ steps)

-- the path goes on behind these steps
pub record Behind (trail : List TypeStep) (P : Leaves) (path : List TypeStep) (x : UnwantedField) : Type 0 where
  pub rest : List TypeStep
  pub whole : path ≡ trail ++ rest
  pub holds : P rest x

-- what was met of a part of the value: the walk stands where it stood
pub record Meets (old new : Met) (P : Leaves) : Type 0 where
  pub trail : new.trail.items ≡ old.trail.items
  pub notes : Notes old.fields new.fields (Behind old.trail.items P)

-- one of the first n items leaves it out
pub record SomeOf {A : Type 0} (items : List A) (n : ℕ) (P : A → Leaves) (path : List TypeStep) (x : UnwantedField)
    : Type 0 where
  pub index : ℕ
  pub below : index < n
  pub item : A
  pub there : slice_get items index ≡ Some item
  pub holds : P item path x

-- ---- what the parts of a value leave out
module _ (T U : Table) where
  abbrev pub ValueLeaves : TypePair → Tree → Leaves
  ValueLeaves = LeavesOut T U

  -- behind this step
  abbrev pub StepLeaves : TypeStep → TypePair → Tree → Leaves
  StepLeaves onward p v = Behind (onward ∷ []) (LeavesOut T U p v)

  abbrev pub ElementsLeave : TypePair → List Value → ℕ → Leaves
  ElementsLeave p items n = SomeOf items n (λ item. StepLeaves step.Element p (view item))

  abbrev pub EntryLeaves : (key elem : TypePair) → Value × Value → Leaves
  EntryLeaves key elem entry path x =
      StepLeaves step.Key key (view entry.0) path x ⊎ StepLeaves step.Element elem (view entry.1) path x

  abbrev pub EntriesLeave : (key elem : TypePair) → List (Value × Value) → ℕ → Leaves
  EntriesLeave key elem items n = SomeOf items n (EntryLeaves key elem)

  -- a field that isn't wanted, or what the value of one leaves out that is
  pub data FieldLeaves (p : TypePair) (types wanted : List Field) (number : ℕ) (v : Tree)
      : List TypeStep → UnwantedField → Type 0 where
    whole : {field : Field} → slice_get types number ≡ Some field → ¬ HasName wanted field.name
        → FieldLeaves p types wanted number v (step.Named field.name ∷ []) (record { pair = p; number = number })
    part : {field : Field} {u : _} {path : List TypeStep} {x : UnwantedField} → slice_get types number ≡ Some field
        → HasFieldNamed wanted field.name u
        → StepLeaves (step.Named field.name) (of_types field.id u) v path x
        → FieldLeaves p types wanted number v path x

  abbrev pub FieldsLeave : TypePair → StructPair → List (ℕ × Value) → ℕ → Leaves
  FieldsLeave p structs items n =
      SomeOf items n (λ part. FieldLeaves p structs.stream.now structs.wanted.now part.0 (view part.1))

-- the two structs are those of the pair, and the pair matches
pub record MatchStructs (T U : Table) (p : TypePair) (structs : StructPair) : Type 0 where
  pub match : Match T U p.stream p.wanted
  pub stream : Shape
  pub wanted : Shape
  pub shapes : HasShapes T U p stream wanted
  pub stream_is : stream.kind ≡ kind.Struct structs.stream.now
  pub wanted_is : wanted.kind ≡ kind.Struct structs.wanted.now
  pub distinct : ¬ RepeatsName structs.wanted.now
