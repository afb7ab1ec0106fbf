-- What a call answers that sends a text. (docs/FORMAT.md, The program: this project's own.)
use Rattle.std.specs.Prelude.{ℕ, List, [], Option, Result, Ok, Err}
use Rattle.std.specs.Io.KnownBytes.{Appends}
use Rattle.gob_tool.specs.declared.fault.ToolFault.{ToolFault}
use Rattle.gob_tool.specs.declared.fault.ToolFault.TheVariants as fault
use Rattle.gob_tool.specs.Showing.{AppendsPrefix}

-- it went out, or after a failed write a prefix of it, or without memory nothing
abbrev pub SendsText : (old new : Option (List ℕ)) → (text : List ℕ) → Result (Unit {0}) ToolFault → Type 0
SendsText old new text (Ok _) = Appends old new text
SendsText old new text (Err fault.Write) = AppendsPrefix old new text
SendsText old new text (Err fault.Memory) = Appends old new []
SendsText old new text (Err _) = ⊥
