-- What the run that takes the definitions of a stream answers, and what it has appended then. (docs/FORMAT.md, Parts of
-- a stream: this project's own.)
use Rattle.std.specs.Prelude.{◌≡◌, ℕ, ◌≤◌, List, ◌++◌, length, Option, Result, Ok, Err}
use Rattle.gob_types.specs.Base.{base_table}
use Rattle.gob_types.specs.Table.{Table}
use Rattle.gob_stream.specs.Bounds.{Bounds}
use Rattle.gob_filled.specs.Outcome.{profile}
use Rattle.gob_filled.specs.Stream.{FilledItem, FilledStream}
use Rattle.gob_tool.specs.Answering.{EndsWhole, IsRefused}
use Rattle.gob_tool.specs.declared.fault.ToolFault.{ToolFault}
use Rattle.gob_tool.specs.declared.fault.ToolFault.TheVariants as fault
use Rattle.gob_split.specs.Laws.{definitions_among}

-- the bytes are the stream of the definitions that come of the items, and the types behind it are those of the table,
-- under all limits that allow the same depth, as many types, and so many bytes
abbrev pub IsStreamOfDefinitions : Bounds → Table → List FilledItem → (defining : List ℕ) → Type 0
IsStreamOfDefinitions L T items defining = (M : Bounds) → M.depth ≡ L.depth → M.types ≡ L.types
    → length defining ≤ M.item → length defining ≤ M.stream
    → FilledStream base_table M (definitions_among items) defining T

-- such bytes were appended
pub record AppendsDefinitions (L : Bounds) (old new : List ℕ) (T : Table) (items : List FilledItem) : Type 0 where
  pub defining : List ℕ
  pub appended : new ≡ old ++ defining
  pub are : IsStreamOfDefinitions L T items defining

-- how the run ends, over an input with these bytes left: at the end of a stream, and at a refusal, those of the items
-- before are appended, and the table is that of the types behind these
abbrev pub DefinitionsAnswers : Bounds → (bytes : List ℕ) → (now : Option (List ℕ)) → (old new : List ℕ)
    → Result (Unit {0}) ToolFault → Type 0
DefinitionsAnswers L bytes now old new (Ok _) = EndsWhole profile L bytes now (AppendsDefinitions L old new)
DefinitionsAnswers L bytes now old new (Err (fault.Refused R)) =
    IsRefused profile L bytes R (AppendsDefinitions L old new)
DefinitionsAnswers L bytes now old new (Err fault.Read) = Unit {0}
DefinitionsAnswers L bytes now old new (Err fault.Memory) = Unit {0}
DefinitionsAnswers L bytes now old new (Err fault.Write) = ⊥
DefinitionsAnswers L bytes now old new (Err (fault.Wanted R)) = ⊥
DefinitionsAnswers L bytes now old new (Err fault.NoWantedType) = ⊥
DefinitionsAnswers L bytes now old new (Err (fault.Clash path reason)) = ⊥
DefinitionsAnswers L bytes now old new (Err (fault.LeftOut path number)) = ⊥
