-- What the run that checks a stream of Go's encoder answers, and what it has written then.
-- (docs/FORMAT.md, What Go's encoder writes beyond its documentation; The program: this project's own.)
use Rattle.std.specs.Prelude.{ℕ, List, Option, Result}
use Rattle.gob_types.specs.Base.{base_table}
use Rattle.gob_stream.specs.Bounds.{Bounds}
use Rattle.gob_filled.specs.Outcome.{LongestFilled, profile}
use Rattle.gob_filled.specs.Stream.{FilledItem}
use Rattle.gob_tool.specs.Checking.{ChecksIn, IsCountedIn, IsNoStreamIn, definitions_behind}
use Rattle.gob_tool.specs.declared.fault.ToolFault.{ToolFault}

-- the bytes are the stream of some items, all of them were read, and this holds of the line that says so: it counts the
-- items, the types that the table has behind them, which those in front of what fills nils are among, and the bytes
abbrev pub IsCountedGoStream : Bounds → (bytes : List ℕ) → (now : Option (List ℕ)) → (P : List ℕ → Type 0) → Type 0
IsCountedGoStream L bytes now P = IsCountedIn profile definitions_behind L bytes now P

-- the bytes begin with the stream of the items, and with none of more items
abbrev pub LongestGoStream : Bounds → (bytes : List ℕ) → List FilledItem → Type 0
LongestGoStream L bytes items = LongestFilled base_table L bytes items

-- why the bytes aren't known to be a stream, where these are left
abbrev pub IsNoGoStream : Bounds → (bytes : List ℕ) → (now : Option (List ℕ)) → ToolFault → Type 0
IsNoGoStream L bytes now f = IsNoStreamIn profile L bytes now f

-- how the run ends, over an input with these bytes left and an output with the old bytes: the line of the whole stream
-- went out, or a prefix of it where the output failed; or nothing was written
abbrev pub CheckGoAnswers : Bounds → (bytes : List ℕ) → (now old new : Option (List ℕ)) → Result (Unit {0}) ToolFault
    → Type 0
CheckGoAnswers L bytes now old new result = ChecksIn profile definitions_behind L bytes now old new result
