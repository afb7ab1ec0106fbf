-- The laws of descriptions read loosely: only a wrong id is forgiven.
use Rattle.std.specs.Prelude.{◌≡◌, ◌≢◌}
use Rattle.gob_types.specs.declared.id.TypeId.{TypeId}
use Rattle.gob_types.specs.declared.kind.Shape.{Shape}
use Rattle.gob_types.specs.declared.reason.Reason.TheVariants as reason
use Rattle.gob_value.specs.Tree.{Tree}
use Rattle.gob_value.specs.Description.{Describes, Misdescribes}
use Rattle.gob_value.specs.ShapeFaults.{IsShapeFault}
use Rattle.gob_value.specs.Loose.{DescribesLoosely, IsLooseFault}
use Rattle.gob_value.specs.declared.fault.ShapeFault.{ShapeFault}
use Rattle.gob_value.specs.declared.fault.ShapeFault.TheVariants as fault

-- a value describes one shape at most, under whatever ids
abbrev pub DescribeOneShapeLoosely : Type 0
DescribeOneShapeLoosely = (id other : TypeId) (v : Tree) (r s : Shape) → DescribesLoosely id v r
    → DescribesLoosely other v s → r ≡ s

-- what describes a shape strictly describes it loosely
abbrev pub StrictIsLoose : Type 0
StrictIsLoose = (id : TypeId) (v : Tree) (s : Shape) → Describes id v s → DescribesLoosely id v s

-- and the other way round, where the strict reading finds no wrong id
abbrev pub LooseIsStrict : Type 0
LooseIsStrict = (id : TypeId) (v : Tree) (s : Shape) → DescribesLoosely id v s
    → ¬ Misdescribes id v reason.WrongId → Describes id v s

-- each fault of the strict reading but a wrong id is one of the loose reading
abbrev pub FaultsStayLoosely : Type 0
FaultsStayLoosely = (id : TypeId) (v : Tree) (f : ShapeFault) → IsShapeFault id v f → f ≢ fault.WrongId
    → IsLooseFault id v f
