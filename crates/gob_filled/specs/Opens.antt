-- What bytes that stand in an item have said of each open value: what fills nils of it, as far as that is whole, and
-- the name and the definitions in front of what fills the nil at hand.
use Rattle.std.specs.Prelude.{ℕ, List, [], ◌∷◌, length}
use Rattle.gob_types.specs.declared.id.TypeId.{TypeId}
use Rattle.gob_types.specs.Table.{Table}
use Rattle.gob_value.specs.Tree.{Tree}
use Rattle.gob_stream.specs.Bounds.{Bounds}
use Rattle.gob_filled.specs.Filled.{Definitions, no_definitions, definition, Filled, filled, Fillings, no_filling}
use Rattle.gob_filled.specs.Filled.{filling}
use Rattle.gob_filled.specs.Standing.{Level, Next, Stands, at_value, behind_name, behind_definition, at_inner}
use Rattle.gob_filled.specs.Standing.{behind_inner}

-- of an open value
pub record Open : Type 0 where
  pub fillings : Fillings
  pub name : List ℕ
  pub definitions : Definitions

abbrev pub nothing_said : Open
nothing_said = record { fillings = no_filling; name = []; definitions = no_definitions }

-- one more behind them
abbrev pub and_filling : Fillings → ℕ → List ℕ → Definitions → TypeId → Filled → Fillings
and_filling no_filling place name ds u w = filling place name ds u w no_filling
and_filling (filling p s es t v fs) place name ds u w = filling p s es t v (and_filling fs place name ds u w)

abbrev pub and_definition : Definitions → TypeId → Tree → Definitions
and_definition no_definitions id v = definition id v no_definitions
and_definition (definition i u ds) id v = definition i u (and_definition ds id v)

-- a name, where none of the nil at hand was there
abbrev pub named : List ℕ → List Open → List Open
named s [] = []
named s (o ∷ os) = record { fillings = o.fillings; name = s; definitions = no_definitions } ∷ os

abbrev pub defined : TypeId → Tree → List Open → List Open
defined id v [] = []
defined id v (o ∷ os) =
    record { fillings = o.fillings; name = o.name; definitions = and_definition o.definitions id v } ∷ os

-- the innermost value is whole, and fills the nil at this place
abbrev pub held_in : (place : ℕ) → TypeId → Tree → List Open → List Open
held_in place u v [] = []
held_in place u v (o ∷ []) = []
held_in place u v (o ∷ (p ∷ os)) = record {
  fillings = and_filling p.fillings place p.name p.definitions u (filled v o.fillings);
  name = [];
  definitions = no_definitions;
} ∷ os

-- what is said of the open values, the innermost first
abbrev pub opens : {base : Table} {L : Bounds} {T : Table} {offset : ℕ} {z : List ℕ} {U : Table} {levels : List Level}
    {next : Next} {left : ℕ} → Stands base L T offset z U levels next left → List Open
opens (at_value u l e s sg short may k) = nothing_said ∷ []
opens (behind_name c s p ex dl sh some u fit) = named s (opens p)
opens (behind_definition {id = id} {v = v} p def e k) = defined id v (opens p)
opens (at_inner p may sg u e l) = nothing_said ∷ opens p
opens (behind_inner {lv = lv} {around = around} {v = v} b p sp de e) =
    held_in (length around.done) lv.type v (opens p)
