-- Lines say one stream. (docs/FORMAT.md, The JSON lines.)
use Rattle.std.specs.Prelude.{◌≡◌, Bool, ℕ, List}
use Rattle.gob_num.specs.Unsigned.{AreBytes}
use Rattle.gob_types.specs.Table.{Table}
use Rattle.gob_stream.specs.Bounds.{Bounds}
use Rattle.gob_filled.specs.Stream.{FilledItem}
use Rattle.gob_lines.specs.Laws.{HaveFewFields}
use Rattle.gob_write.specs.Grammar.{SayItems}
use Rattle.gob_write.specs.Shown.{filled_lines}

-- lines of either kind say one list of items, whose stream of bytes is one, with one table behind it
abbrev pub LinesSayOneStream : Type 0
LinesSayOneStream = (H : Bool) (L : Bounds) (lines : List (List ℕ)) (items others : List FilledItem) (b c : List ℕ)
    (T U : Table) → HaveFewFields T → AreBytes b → AreBytes c → SayItems (filled_lines H L) lines items b T
    → SayItems (filled_lines H L) lines others c U → (items ≡ others) × (b ≡ c) × (T ≡ U)
