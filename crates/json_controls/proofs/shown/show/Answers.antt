-- A text without such characters stays, and a reader reads in what is shown what it reads in the text.
use Rattle.std.proofs.Common.{sym}
use Rattle.json_controls.proofs.ShownLaws.{shown_reads}
use Rattle.json_controls.proofs.StepLaws.{below_shown}
use Rattle.json_controls.proofs.shown.show.Goals as goal

pub returns-then-are_below_controls-clause-shown : goal.returns-then-are_below_controls-clause-shown
returns-then-are_below_controls-clause-shown c =
    sym (below_shown c.args.text.now.items
    (rw c.deref.ensures.value at (c.are_below_controls.ensures c.if-are_below_controls.true)))

pub returns-then-are_below_controls-clause-read : goal.returns-then-are_below_controls-clause-read
returns-then-are_below_controls-clause-read c = λ j is read. shown_reads c.args.text.now.items j is read

pub returns-in_err-shown-clause-read : goal.returns-in_err-shown-clause-read
returns-in_err-shown-clause-read c = λ j is read. shown_reads c.args.text.now.items j is read
