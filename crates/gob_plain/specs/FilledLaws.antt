-- The laws of values with their zeros put back. (They follow from docs/FORMAT.md, Tidy form; Plain values.)
use Rattle.std.specs.Prelude.{◌≡◌, ◌↔◌}
use Rattle.gob_types.specs.declared.id.TypeId.{TypeId}
use Rattle.gob_types.specs.Table.{Table}
use Rattle.gob_value.specs.Tree.{Tree}
use Rattle.gob_value.specs.Tidy.{Tidies}
use Rattle.gob_plain.specs.Filled.{filled}
use Rattle.gob_plain.specs.Plain.{nils}

-- a value and the value with its zeros put back have the same tidy forms
abbrev pub HaveOneTidyForm : Type 0
HaveOneTidyForm = (T : Table) (t : TypeId) (v w : Tree) → Tidies T t (filled T t v) w ↔ Tidies T t v w

-- a value and the value with its zeros put back have as many nils, so the nils of both stand in the same order
abbrev pub ZerosHoldNoNils : Type 0
ZerosHoldNoNils = (T : Table) (t : TypeId) (v : Tree) → nils T t (filled T t v) ≡ nils T t v
