use Rattle.std.proofs.Common.{◌∙◌, refl, sym}
use Rattle.gob_go_writer.proofs.SameSteps.{same_described, same_spelled}
use Rattle.gob_go_writer.proofs.same.same_description.Goals as goal

pub returns-then-not-same_bytes-clause-refused : goal.returns-then-not-same_bytes-clause-refused
returns-then-not-same_bytes-clause-refused c = (
  refl,
  λ h.
      c.if-not-same_bytes.ensures (c.deref.ensures.value ∙ same_spelled c.new-spelled.ensures.items
      c.new-due_spelled.ensures.items c.in_ok-write_description.ensures.spelled
      c.in_ok-write_description-2.ensures.spelled h.same ∙ sym c.deref-2.ensures.value),
)

pub returns-clause-ok : goal.returns-clause-ok
returns-clause-ok c = same_described c.new-spelled.ensures.items c.new-due_spelled.ensures.items
    c.in_ok-write_description.ensures.spelled c.in_ok-write_description-2.ensures.spelled
    (sym c.deref.ensures.value ∙ c.if-not-same_bytes.ensures ∙ c.deref-2.ensures.value)
