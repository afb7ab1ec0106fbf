-- The type of the elements of a list.
use Rattle.std.specs.Prelude.{ℕ, Option, Some, None, ◌==◌, if◌then◌else◌}
use Rattle.gob_types.specs.declared.id.TypeId.{TypeId}
use Rattle.gob_types.specs.declared.kind.Kind.{Kind}
use Rattle.gob_types.specs.declared.kind.Kind.TheVariants as kind

-- where the kind is that of a list of so many
abbrev pub element_type_at : Kind → ℕ → Option TypeId
element_type_at (kind.Slice e) count = Some e
element_type_at (kind.Array e n) count = if n == count then Some e else None
element_type_at _ count = None
