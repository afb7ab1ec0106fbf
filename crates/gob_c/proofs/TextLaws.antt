-- Texts that were put into room.
use Rattle.std.proofs.Common.{ℕ, List, Result, Ok, Err}
use Rattle.std.specs.Result.{IfOk}
use Rattle.gob_num.specs.declared.memory.Memory.{Memory}
use Rattle.gob_stream.specs.Bounds.{AreLimits, Bounds, deepest}
use Rattle.gob_why.specs.declared.said.Said.{Said}
use Rattle.gob_c.specs.Texts.{PutsSaid, TellsText, is_put, lacks_memory}
use Rattle.gob_c.specs.declared.texts.TextTold.{TextTold}

-- what was said, if there was memory, is told
pub tells_said : (L : Bounds) (P : List ℕ → Type 0) (said : Result Said Memory) (room room' : List ℕ) (told : TextTold)
    → AreLimits deepest L → IfOk said (λ s. P s.text.items) → PutsSaid said room room' told
    → TellsText L P room room' told
tells_said L P (Ok s) room room' told are holds put = is_put are s.text.items holds put.0 put.1
tells_said L P (Err e) room room' told are holds put = lacks_memory are put.0 put.1
