-- What tidying a value learns: its tidy form, and that the numbers of its fields are small. (docs/FORMAT.md, Tidy
-- form.)

-- of a value, of elements, of entries or of fields
pub record IsTidied {V : Type 0} (Tidies : V → V → Type 0) (HasSmallNumbers : V → Type 0) (v w : V) : Type 0 where
  pub tidies : Tidies v w
  pub small : HasSmallNumbers v
