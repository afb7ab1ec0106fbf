-- What a step leads to in one of two types. For private clauses.
use Rattle.std.specs.Prelude.{◌≡◌, Option, None, MatchOption}
use Rattle.gob_types.specs.KindParts.{elem_named, key_named}
use Rattle.gob_types.specs.declared.id.TypeId.{TypeId}
use Rattle.gob_types.specs.declared.kind.Kind.{Kind}
use Rattle.gob_types.specs.declared.kind.Kind.TheVariants as kind
use Rattle.gob_match.specs.Pairs.{HasFieldNamed, HasName}
use Rattle.gob_match.specs.declared.step.TypeStep.{TypeStep}
use Rattle.gob_match.specs.declared.step.TypeStep.TheVariants as step

-- it is the type behind the step
abbrev pub IsBehind : Kind → TypeStep → Option TypeId → Type 0
IsBehind k step.Element type = type ≡ elem_named k
IsBehind k step.Key type = type ≡ key_named k
IsBehind (kind.Struct fs) (step.Named name) type = MatchOption type (¬ HasName fs name) (HasFieldNamed fs name)
IsBehind k (step.Named name) type = type ≡ None
