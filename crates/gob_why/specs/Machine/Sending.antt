-- What is answered of lines that were sent while they were made. For private clauses.
use Rattle.std.specs.Prelude.{Option, None, Some, Result, Ok, Err}
use Rattle.gob_explain.specs.declared.text.lines_out.LineFault.{LineFault}
use Rattle.gob_explain.specs.declared.text.lines_out.LineFault.TheVariants as line
use Rattle.gob_stream.specs.declared.fault.WriteFault.{WriteFault}
use Rattle.gob_tool.specs.Fault.{writing_fault}
use Rattle.gob_tool.specs.declared.fault.ToolFault.{ToolFault}
use Rattle.gob_tool.specs.declared.fault.ToolFault.TheVariants as fault

-- the fault, if there was one
abbrev pub sending_answer : Option (LineFault WriteFault) → Result (Unit {0}) ToolFault
sending_answer None = Ok tt
sending_answer (Some line.Memory) = Err fault.Memory
sending_answer (Some (line.Out e)) = Err (writing_fault e)
