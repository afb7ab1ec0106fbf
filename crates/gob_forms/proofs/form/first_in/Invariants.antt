-- The first mark among those that are left is the first among all.
use Rattle.std.proofs.Common.{Option, drop, map}
use Rattle.gob_forms.specs.Forms.{IsFirstForm, mark_in}
use Rattle.gob_forms.specs.declared.form.Form.{Form}
use Rattle.gob_forms.proofs.form.first_in.Given as goal

abbrev pub invariant-loop-mark : goal.invariant-loop-mark
invariant-loop-mark l = (found : Option Form) → IsFirstForm (drop l.mark-index (map mark_in l.marks)) l.front found
    → IsFirstForm (map mark_in l.marks) l.front found
