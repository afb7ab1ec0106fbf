-- The laws of descriptions. (They follow from docs/FORMAT.md, Descriptions.)
use Rattle.std.specs.Prelude.{◌≡◌, ℕ, ◌^◌, ◌<◌, ◌⊎◌, List, [], ◌∷◌, length}
use Rattle.gob_types.specs.declared.id.TypeId.{TypeId}
use Rattle.gob_types.specs.declared.kind.Field.{Field}
use Rattle.gob_types.specs.declared.kind.Kind.{Kind}
use Rattle.gob_types.specs.declared.kind.Kind.TheVariants as kind
use Rattle.gob_types.specs.declared.kind.Shape.{Shape}
use Rattle.gob_types.specs.declared.reason.Reason.{Reason}
use Rattle.gob_types.specs.Base.{base_table, wire_type}
use Rattle.gob_types.specs.Definable.{IsDefinable}
use Rattle.gob_value.specs.Tree.{Tree}
use Rattle.gob_value.specs.Fits.{Fits}
use Rattle.gob_value.specs.Within.{FitsWithin}
use Rattle.gob_value.specs.Description.{Describes, Misdescribes}
use Rattle.gob_value.specs.Described.{described}
use Rattle.gob_value.specs.ShapeFaults.{IsDescription}

-- the description that is made of a shape describes it
abbrev pub DescribeTheShape : Type 0
DescribeTheShape = (id : TypeId) (s : Shape) → IsDefinable s → Describes id (described id s) s

-- a value describes one shape at most
abbrev pub DescribeOneShape : Type 0
DescribeOneShape = (id : TypeId) (v : Tree) (r s : Shape) → Describes id v r → Describes id v s → r ≡ s

-- a value that describes a shape meets each demand
abbrev pub AreNotRefused : Type 0
AreNotRefused = (id : TypeId) (v : Tree) (s : Shape) (r : Reason) → Describes id v s → ¬ Misdescribes id v r

-- a value fails one demand first
abbrev pub DescriptionsHaveOneReason : Type 0
DescriptionsHaveOneReason = (id : TypeId) (v : Tree) (r q : Reason) → Misdescribes id v r → Misdescribes id v q → r ≡ q

-- a value that is refused, for some reason
pub record IsRefusedDescription (id : TypeId) (v : Tree) : Type 0 where
  pub reason : Reason
  pub refused : Misdescribes id v reason

-- there is no third way
abbrev pub AreJudged : Type 0
AreJudged = (id : TypeId) (v : Tree) → IsDescription id v ⊎ IsRefusedDescription id v

-- what describes a shape describes one that may be defined
abbrev pub DescribeDefinable : Type 0
DescribeDefinable = (id : TypeId) (v : Tree) (s : Shape) → Fits base_table wire_type v → Describes id v s
    → IsDefinable s

-- a text that an unsigned number counts the bytes of
abbrev pub IsCountedName : List ℕ → Type 0
IsCountedName name = length name < 2 ^ 64

abbrev pub AreCounted : List Field → Type 0
AreCounted [] = Unit {0}
AreCounted (f ∷ fs) = IsCountedName f.name × AreCounted fs

abbrev pub HasCountedFields : Kind → Type 0
HasCountedFields (kind.Struct fs) = (length fs < 2 ^ 64) × AreCounted fs
HasCountedFields _ = Unit {0}

-- a shape whose names and fields an unsigned number counts, as it does all that memory holds
pub record IsCountable (s : Shape) : Type 0 where
  pub name : IsCountedName s.name
  pub fields : HasCountedFields s.kind

-- the description that is made of such a shape, under an id that a signed number holds, is a value of wireType of
-- depth 5 at most
abbrev pub AreOfWireType : Type 0
AreOfWireType = (id : TypeId) (s : Shape) → IsDefinable s → IsCountable s → id.0 < 2 ^ 63
    → FitsWithin base_table wire_type 5 (described id s)
