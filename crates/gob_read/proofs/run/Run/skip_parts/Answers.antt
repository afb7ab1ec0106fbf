use Rattle.std.proofs.Common.{Some, sym, ap, ◌∙◌}
use Rattle.gob_read.proofs.Machine.BasicPartSteps.{before_element}
use Rattle.gob_read.proofs.Machine.Skips.{before_key}
use Rattle.gob_read.proofs.run.Run.skip_parts.Goals as goal

pub skip_elements-requires-clause-before : goal.skip_elements-requires-clause-before
skip_elements-requires-clause-before g c = before_element c.requires (sym c.innermost.ensures
    ∙ (c.in-Some-Many.is ∙ ap Some c.in-Some-Many.field-0-is))

pub skip_entries-requires-clause-before : goal.skip_entries-requires-clause-before
skip_entries-requires-clause-before g c = before_key c.requires (sym c.innermost.ensures
    ∙ (c.in-Some-Key.is ∙ ap Some c.in-Some-Key.field-0-is))
