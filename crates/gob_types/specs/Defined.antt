-- The table of a stream: the base table, and behind it what the stream has defined, in the order of arrival.
-- (Go's encoding/gob documentation, Encoding Details; docs/FORMAT.md, Items and streams; Types and the base table.)
use Rattle.std.specs.Prelude.{◌≡◌, ℕ, ◌-◌, ◌<◌, ◌==◌, [], ◌∷◌, ◌++◌, length, None, if◌then◌else◌}
use Rattle.gob_types.specs.declared.id.TypeId.{TypeId}
use Rattle.gob_types.specs.Table.{Table, shape_of, HasDistinctIds}
use Rattle.gob_types.specs.Base.{base_table}
use Rattle.gob_types.specs.Definable.{IsOwnId, IsDefinable}

-- the table without the entries of this id
abbrev pub without : TypeId → Table → Table
without t [] = []
without t (entry ∷ T) = if entry.0.0 == t.0 then without t T else entry ∷ without t T

-- the first entry of each id, since that is the one that a look-up finds
abbrev pub first_entries : Table → Table
first_entries [] = []
first_entries (entry ∷ T) = entry ∷ without entry.0 (first_entries T)

-- what a contract sees of a table: the entries as they came, and how many definitions there may be at most
pub record Defined : Type 0 where
  pub entries : Table
  pub most : ℕ

-- the types of the table, each id with its one shape
abbrev pub types : Defined → Table
types d = first_entries d.entries

-- a stream can define each of these, their ids and shapes being what a definition may give
abbrev pub AreDefinitions : Table → Type 0
AreDefinitions [] = Unit {0}
AreDefinitions (entry ∷ T) = IsOwnId entry.0 × IsDefinable entry.1 × AreDefinitions T

-- the base table, and definitions behind it, each of a new id
pub record IsTable (T : Table) : Type 0 where
  pub definitions : Table
  pub behind_base : T ≡ base_table ++ definitions
  pub definable : AreDefinitions definitions
  pub distinct : HasDistinctIds T

-- how many definitions stand behind the base table
abbrev pub definition_count : Table → ℕ
definition_count T = length T - length base_table

-- the table takes a definition of this id
pub record Admits (d : Defined) (t : TypeId) : Type 0 where
  pub own : IsOwnId t
  pub new : shape_of (types d) t ≡ None
  pub room : definition_count (types d) < d.most
