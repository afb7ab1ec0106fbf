-- A reader reads in the text that is shown what it reads in the text.
use Rattle.std.proofs.Common.{◌≡◌, ◌++◌, List, ℕ, subst, sym}
use Rattle.json_controls.proofs.ShownLaws.{shown_reads}
use Rattle.json_controls.proofs.StepLaws.{below_shown}
use Rattle.json_controls.proofs.shown.push_shown.Goals as goal

pub returns-then-are_below_controls-clause-shown : goal.returns-then-are_below_controls-clause-shown
returns-then-are_below_controls-clause-shown c =
    subst (λ (l : List ℕ). c.extend_from_slice.new.self.items ≡ c.args.out.now.items ++ l)
    (sym (below_shown c.args.text.now (c.are_below_controls.ensures c.if-are_below_controls.true)))
    c.in_ok-extend_from_slice.ensures.items

pub returns-then-are_below_controls-clause-read : goal.returns-then-are_below_controls-clause-read
returns-then-are_below_controls-clause-read c = λ j is read. shown_reads c.args.text.now j is read

pub returns-in_err-held-clause-read : goal.returns-in_err-held-clause-read
returns-in_err-held-clause-read c = λ j is read. shown_reads c.args.text.now j is read

pub returns-clause-read : goal.returns-clause-read
returns-clause-read c = λ j is read. shown_reads c.args.text.now j is read

pub returns-in_err-extend_from_slice-clause-read : goal.returns-in_err-extend_from_slice-clause-read
returns-in_err-extend_from_slice-clause-read c = λ j is read. shown_reads c.args.text.now j is read
