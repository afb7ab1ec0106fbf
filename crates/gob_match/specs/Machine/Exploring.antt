-- What exploring a pair of types finds: the conversion of its shapes and the pairs that they name, or why they clash.
use Rattle.std.specs.Prelude.{◌≡◌, ℕ, List, [], ◌∷◌, ◌++◌, Result, MatchResult}
use Rattle.gob_types.specs.declared.kind.Kind.{Kind}
use Rattle.gob_types.specs.declared.kind.Shape.{Shape}
use Rattle.gob_types.specs.Table.{Table}
use Rattle.gob_match.specs.declared.conversion.Conversion.{Conversion}
use Rattle.gob_match.specs.declared.fault.MatchFault.{MatchFault}
use Rattle.gob_match.specs.declared.fault.MatchFault.TheVariants as fault
use Rattle.gob_match.specs.declared.fault.PairFault.{PairFault}
use Rattle.gob_match.specs.declared.fault.PairFault.TheVariants as pair_fault
use Rattle.gob_match.specs.declared.pair.TypePair.{TypePair}
use Rattle.gob_match.specs.declared.reason.ClashReason.{ClashReason}
use Rattle.gob_match.specs.declared.step.TypeStep.{TypeStep}
use Rattle.gob_match.specs.Clashing.{HasClashingShapes}
use Rattle.gob_match.specs.Machine.Conversions.{IsConversion}
use Rattle.gob_match.specs.Machine.Search.{Entry, IsAt, IsPathTo, AddsPairs}
use Rattle.gob_match.specs.Matching.{KindsMatch, KindsClash, HasShapes, NamesByStep}

-- the two kinds match, and this is their conversion
pub record Converts (k l : Kind) (w : Conversion) : Type 0 where
  pub match : KindsMatch k l
  pub conversion : IsConversion k l w

-- the kinds match, or clash for the reason
abbrev pub MatchAnswers : Kind → Kind → Result Conversion ClashReason → Type 0
MatchAnswers k l r = MatchResult r (Converts k l) (KindsClash k l)

-- why two kinds have no conversion; want of memory tells nothing of them
abbrev pub IsPairFault : Kind → Kind → PairFault → Type 0
IsPairFault k l (pair_fault.Clash reason) = KindsClash k l reason
IsPairFault k l pair_fault.Memory = Unit {0}

-- the types of the pair have shapes that match, and this is their conversion
pub record ConvertsAt (T U : Table) (p : TypePair) (conversion : Conversion) : Type 0 where
  pub stream : Shape
  pub wanted : Shape
  pub shapes : HasShapes T U p stream wanted
  pub converts : Converts stream.kind wanted.kind conversion

-- the pair at the place was explored, and what it names was added
pub record Explores (T U : Table) (old new : List Entry) (place : ℕ) (conversion : Conversion) : Type 0 where
  pub pair : TypePair
  pub at : IsAt old place pair
  pub converts : ConvertsAt T U pair conversion
  pub added : AddsPairs old new place (NamesByStep T U pair)

-- the pair at the place clashes, and nothing was added
pub record ClashesAt (T U : Table) (old new : List Entry) (place : ℕ) (reason : ClashReason) : Type 0 where
  pub pair : TypePair
  pub at : IsAt old place pair
  pub clash : HasClashingShapes T U pair reason
  pub same : new ≡ old

abbrev pub IsExploreFault : Table → Table → List Entry → List Entry → ℕ → PairFault → Type 0
IsExploreFault T U old new place (pair_fault.Clash reason) = ClashesAt T U old new place reason
IsExploreFault T U old new place pair_fault.Memory = Unit {0}

-- the pair at the place was explored, and its conversion is kept, last
pub record KeepsExplored (T U : Table) (old new : List Entry) (place : ℕ) (before behind : List Conversion)
    : Type 0 where
  pub conversion : Conversion
  pub explores : Explores T U old new place conversion
  pub kept : behind ≡ before ++ conversion ∷ []

-- the pair at the place clashes, and this is a path to it
pub record ClashesAlong (T U : Table) (found : List Entry) (place : ℕ) (path : List TypeStep) (reason : ClashReason)
    : Type 0 where
  pub pair : TypePair
  pub at : IsAt found place pair
  pub clash : HasClashingShapes T U pair reason
  pub leads : IsPathTo found place path

-- why a search ends at the pair at the place
abbrev pub EndsAt : Table → Table → List Entry → ℕ → MatchFault → Type 0
EndsAt T U found place (fault.Clash path reason) = ClashesAlong T U found place path.items reason
EndsAt T U found place fault.Memory = Unit {0}
