-- A refusal as it is printed. (docs/FORMAT.md, Refusals, In print: this project's own.)
use Rattle.std.specs.Prelude.{ℕ, List, ◌++◌, codes}
use Rattle.std.specs.Fmt.{decimal}
use Rattle.gob_types.specs.Reasons.{reason_number, reason_text}
use Rattle.gob_stream.specs.declared.fault.Refusal.{Refusal}

-- number and name of the reason, place and seen
abbrev pub refusal_text : Refusal → List ℕ
refusal_text R =
    codes "refused " ++ (decimal (reason_number R.reason) ++ (codes " " ++ (reason_text R.reason
    ++ (codes " at " ++ (decimal R.place ++ (codes " seen " ++ decimal R.seen))))))
