-- What is open behind the first bytes of a value: values and fillings, one in another, the innermost first. A value is
-- known by its skeleton so far, which has nil, 00, in the place of each interface value that is whole.
-- (docs/FORMAT.md, Fillings and segments.)
use Rattle.std.specs.Prelude.{ℕ, List}
use Rattle.gob_types.specs.declared.id.TypeId.{TypeId}

-- what comes next in a filling
pub data Due : Type 0 where
  -- so many bytes of its name
  name : ℕ → Due
  type_number : Due
  -- a description, behind a type number below 0
  description : Due
  -- the count of the next segment, behind a description
  segment : Due
  -- the count of the first segment of what is held, which is of this type
  count : TypeId → Due
  -- what is held
  content : Due

pub data Open : Type 0 where
  -- a value of the type or a description, below so many parts, of whose skeleton these bytes are there
  a_value : TypeId → (around : ℕ) → (done : List ℕ) → Open
  -- the filling of an interface, whose type this is; it lies so deep
  a_filling : TypeId → (depth : ℕ) → Due → Open
