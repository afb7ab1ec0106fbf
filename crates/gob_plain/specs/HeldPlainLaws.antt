-- The laws of what is written. (They follow from docs/FORMAT.md, Plain values.)
use Rattle.std.specs.Prelude.{◌↔◌, Bool, List, ℕ}
use Rattle.json.specs.Json.{Json}
use Rattle.gob_types.specs.declared.id.TypeId.{TypeId}
use Rattle.gob_types.specs.Table.{Table}
use Rattle.gob_value.specs.Tree.{Tree}
use Rattle.gob_value.specs.Top.{SpellsTop}
use Rattle.gob_plain.specs.declared.style.Style.{Style}
use Rattle.gob_plain.specs.Filled.{SaysValue}
use Rattle.gob_filled.specs.Filled.{filled, no_filling}
use Rattle.gob_plain.specs.HeldPlain.{SaysFilled}

-- a value of which no nil is filled says what it says in the format
abbrev pub SayAsEver : Type 0
SayAsEver = (tagged : Bool) (style : Style) (T : Table) (t : TypeId) (v : Tree) (b : List ℕ) (j : Json)
    → SpellsTop T t v b → SaysFilled tagged style T t (filled v no_filling) j ↔ SaysValue style T t v j
