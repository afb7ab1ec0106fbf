-- What follows from what JSON says. (It follows from docs/FORMAT.md, The JSON lines.)
use Rattle.std.specs.Prelude.{◌≡◌, ℕ, ◌^◌, ◌<◌, ◌≤◌, Bool, false, List, [], ◌++◌}
use Rattle.json.specs.Token.{Token}
use Rattle.json.specs.Tree.{json_tokens}
use Rattle.serde_json.specs.Data.{Data}
use Rattle.serde_json.specs.Written.{outline}
use Rattle.gob_types.specs.declared.id.TypeId.{TypeId}
use Rattle.gob_types.specs.Ready.{IsReady}
use Rattle.gob_types.specs.Table.{Table}
use Rattle.gob_value.specs.Bytes.{HoldsBytes}
use Rattle.gob_value.specs.Top.{SpellsTop}
use Rattle.gob_value.specs.Tree.{Tree, depth}
use Rattle.gob_stream.specs.Bounds.{Bounds}
use Rattle.gob_filled.specs.Filled.{Filled, SpellsFilled}
use Rattle.gob_filled_walk.specs.FilledLine.{DefinesNothing}
use Rattle.gob_json.specs.Json.{value_json}
use Rattle.gob_json_writer.specs.FilledJson.{FilledShows}
use Rattle.gob_json_writer.specs.NilsJson.{value_json_with}
use Rattle.gob_lines.specs.Laws.{HaveFewFields}
use Rattle.gob_go_lines.specs.Lines.{HoldsNothing, SaysPut, TellsFilled}
use Rattle.gob_go_lines.specs.Says.{SaysTop}

-- the JSON of a value whose interfaces are all nil, which `show` prints, says the bytes that spell the value
abbrev pub UnfilledValuesAreSaid : Type 0
UnfilledValuesAreSaid = (T : Table) (H : Bool) (t : TypeId) (limit : ℕ) (v : Tree) (b : List ℕ) → SpellsTop T t v b
    → HoldsBytes v → depth v ≤ limit → SaysTop T H t limit (value_json T t v) b

-- the JSON that `show --go` prints of a value that defines nothing says the bytes that spell it, also where interfaces
-- may not hold values if none does
abbrev pub FilledValuesAreSaid : Type 0
FilledValuesAreSaid = (base : Table) (L : Bounds) (T : Table) (H : Bool) (t : TypeId) (limit : ℕ) (w : Filled)
    (v : Tree) (N : ℕ → Data) (b : List ℕ) → SpellsFilled base L T t limit w b T → DefinesNothing w
    → (H ≡ false → HoldsNothing w) → FilledShows T t w v N → SaysTop T H t limit (value_json_with N T t 0 v) b

-- and what the tokens of a line tell of a value, in which texts of digits may stand, is what they say
abbrev pub ToldValuesAreSaid : Type 0
ToldValuesAreSaid = (L : Bounds) (T : Table) (H : Bool) (limit : ℕ) (ts : List Token) (id : TypeId) (b : List ℕ)
    → IsReady T id → id.0 < 2 ^ 64 → TellsFilled T H id limit b ts [] → SaysPut T H limit ts id b

-- the tokens of JSON that says bytes tell these, and where they end, whatever stands behind them
abbrev pub TokensTellTheBytes : Type 0
TokensTellTheBytes = (T : Table) (H : Bool) (t : TypeId) (limit : ℕ) (j k : Data) (b c : List ℕ) (x y : List Token)
    → HaveFewFields T → SaysTop T H t limit j b → SaysTop T H t limit k c
    → json_tokens (outline j) ++ x ≡ json_tokens (outline k) ++ y → (b ≡ c) × (x ≡ y)

-- the tokens of a line say one value of one type
abbrev pub LinesSayOneValue : Type 0
LinesSayOneValue = (T : Table) (H : Bool) (limit : ℕ) (ts : List Token) (id other : TypeId) (b c : List ℕ)
    → HaveFewFields T → SaysPut T H limit ts id b → SaysPut T H limit ts other c → (id ≡ other) × (b ≡ c)
