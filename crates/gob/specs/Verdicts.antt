-- What is said of some files. (docs/FORMAT.md, The program: this project's own.)
use Rattle.std.specs.Prelude.{ℕ, Result, Ok, Err}
use Rattle.gob_tool.specs.declared.fault.ToolFault.{ToolFault}
use Rattle.gob_tool.specs.declared.fault.ToolFault.TheVariants as fault
use Rattle.gob.specs.declared.verdict.Verdict.{Verdict}
use Rattle.gob.specs.declared.verdict.Verdict.TheVariants as verdict

-- what a check that answered so said of a file
abbrev pub verdict_of : Result (Unit {0}) ToolFault → Verdict
verdict_of (Ok _) = verdict.Whole
verdict_of (Err (fault.Refused R)) = verdict.Refused
verdict_of (Err _) = verdict.NotRead

-- the exit status behind it
abbrev pub verdict_status : Verdict → ℕ
verdict_status verdict.Whole = 0
verdict_status verdict.Refused = 1
verdict_status verdict.NotRead = 2

-- the worse of two: a file that isn't read, and then one that is refused
abbrev pub worse : Verdict → Verdict → Verdict
worse verdict.Whole b = b
worse verdict.Refused verdict.Whole = verdict.Refused
worse verdict.Refused verdict.Refused = verdict.Refused
worse verdict.Refused verdict.NotRead = verdict.NotRead
worse verdict.NotRead b = verdict.NotRead
