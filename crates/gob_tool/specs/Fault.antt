-- What the program says of a fault. (docs/FORMAT.md, The program: this project's own.)
use Rattle.std.specs.Fmt.{decimal}
use Rattle.std.specs.Prelude.{ℕ, List, ◌++◌, codes}
use Rattle.gob_match.specs.declared.fault.MatchFault.{MatchFault}
use Rattle.gob_match.specs.declared.fault.MatchFault.TheVariants as matching
use Rattle.gob_match.specs.ClashText.{clash_text, path_text}
use Rattle.gob_stream.specs.declared.fault.Fault.{Fault}
use Rattle.gob_stream.specs.declared.fault.Fault.TheVariants as reading
use Rattle.gob_stream.specs.declared.fault.WriteFault.{WriteFault}
use Rattle.gob_stream.specs.declared.fault.WriteFault.TheVariants as writing
use Rattle.gob_stream.specs.RefusalText.{refusal_text}
use Rattle.gob_tool.specs.declared.fault.ToolFault.{ToolFault}
use Rattle.gob_tool.specs.declared.fault.ToolFault.TheVariants as fault

-- the exit status after it
abbrev pub fault_status : ToolFault → ℕ
fault_status (fault.Refused r) = 1
fault_status (fault.Wanted r) = 1
fault_status fault.NoWantedType = 1
fault_status (fault.Clash path reason) = 1
fault_status (fault.LeftOut path number) = 1
fault_status fault.Read = 2
fault_status fault.Write = 2
fault_status fault.Memory = 2

-- whether it is one of the stream that should have the wanted type
abbrev pub IsOfWanted : ToolFault → Type 0
IsOfWanted (fault.Wanted r) = Unit {0}
IsOfWanted fault.NoWantedType = Unit {0}
IsOfWanted (fault.Refused r) = ⊥
IsOfWanted (fault.Clash path reason) = ⊥
IsOfWanted (fault.LeftOut path number) = ⊥
IsOfWanted fault.Read = ⊥
IsOfWanted fault.Write = ⊥
IsOfWanted fault.Memory = ⊥

-- its line
abbrev pub fault_line : ToolFault → List ℕ
fault_line (fault.Refused R) = codes "gob: " ++ refusal_text R
fault_line (fault.Wanted R) = codes "gob: wanted: " ++ refusal_text R
fault_line fault.NoWantedType = codes "gob: refused 35 NoWantedType"
fault_line (fault.Clash path reason) = codes "gob: " ++ clash_text path.items reason
fault_line (fault.LeftOut path number) =
    codes "gob: value " ++ (decimal number ++ (codes " has " ++ (path_text path.items ++ codes ", which isn't wanted")))
fault_line fault.Read = codes "gob: read fault"
fault_line fault.Write = codes "gob: write fault"
fault_line fault.Memory = codes "gob: out of memory"

-- the fault of a run whose reader met this one first; a reader's first fault is never `Failed`
abbrev pub reading_fault : Fault → ToolFault
reading_fault (reading.Refused r) = fault.Refused r
reading_fault reading.Read = fault.Read
reading_fault reading.Memory = fault.Memory
reading_fault reading.Failed = fault.Memory

-- the fault of a run whose output met this one first
abbrev pub writing_fault : WriteFault → ToolFault
writing_fault (writing.Refused r) = fault.Write
writing_fault writing.Write = fault.Write
writing_fault writing.Memory = fault.Memory
writing_fault writing.Failed = fault.Write

-- the fault of a run whose reader of the wanted stream met this one first
abbrev pub wanted_fault : Fault → ToolFault
wanted_fault (reading.Refused r) = fault.Wanted r
wanted_fault reading.Read = fault.Read
wanted_fault reading.Memory = fault.Memory
wanted_fault reading.Failed = fault.Memory

-- the fault of a run in which matching met this one first
abbrev pub matching_fault : MatchFault → ToolFault
matching_fault (matching.Clash path reason) = fault.Clash path reason
matching_fault matching.Memory = fault.Memory
