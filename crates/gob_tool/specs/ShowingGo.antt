-- What the run that shows a stream of Go's encoder answers, and what it has written then.
-- (docs/FORMAT.md, The JSON lines; The program: this project's own.)
use Rattle.std.specs.Prelude.{ℕ, List, Option, Result}
use Rattle.gob_stream.specs.Bounds.{Bounds}
use Rattle.gob_tool.specs.declared.fault.ToolFault.{ToolFault}
use Rattle.gob_tool.specs.LineGo.{IsLinesOf}
use Rattle.gob_tool.specs.TextsGo.{TextsAnswers}

-- how the run that shows a stream ends, over an input with these bytes left and an output with the old bytes: the lines
-- went out, and nothing else, or after a failed write a prefix of them
abbrev pub ShowGoAnswers : Bounds → (bytes : List ℕ) → (now old new : Option (List ℕ)) → Result (Unit {0}) ToolFault
    → Type 0
ShowGoAnswers L bytes now old new result = TextsAnswers IsLinesOf L bytes now old new result
