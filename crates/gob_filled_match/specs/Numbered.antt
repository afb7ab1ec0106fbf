-- Types in which each interface is an unsigned number.
-- (docs/LIBRARY.md, Matching and receiving: this project's own.)
use Rattle.std.specs.Prelude.{[], ◌∷◌, codes}
use Rattle.gob_types.specs.declared.basic.Basic.{Basic}
use Rattle.gob_types.specs.declared.basic.Basic.TheVariants as basic
use Rattle.gob_types.specs.declared.kind.Kind.{Kind}
use Rattle.gob_types.specs.declared.kind.Kind.TheVariants as kind
use Rattle.gob_types.specs.declared.kind.Shape.{Shape}
use Rattle.gob_types.specs.Table.{Table}

-- the shape of unsigned numbers in each table
abbrev pub uint_shape : Shape
uint_shape = record { name = codes "uint"; kind = kind.Basic basic.Uint }

-- the basic type, or unsigned numbers for interfaces
abbrev pub numbered_basic : Basic → Basic
numbered_basic basic.Interface = basic.Uint
numbered_basic b = b

abbrev pub numbered_as : Shape → Kind → Shape
numbered_as s (kind.Basic basic.Interface) = uint_shape
numbered_as s _ = s

-- the shape, or that of unsigned numbers for that of interfaces
abbrev pub numbered_shape : Shape → Shape
numbered_shape s = numbered_as s s.kind

-- the table, in which the types of interfaces have the shape of unsigned numbers
abbrev pub numbered : Table → Table
numbered [] = []
numbered (entry ∷ T) = (entry.0, numbered_shape entry.1) ∷ numbered T
