use Rattle.std.proofs.Common.{Some, refl, sym, ap, ◌∙◌}
use Rattle.gob_read.specs.Machine.BasicParts.{no_part_taken}
use Rattle.gob_read.proofs.Machine.BasicPartSteps.{before_element}
use Rattle.gob_read.proofs.run.Run.take_basic_parts.Goals as goal

pub returns-then-self : goal.returns-then-self
returns-then-self g c = no_part_taken refl refl

pub returns-in_default : goal.returns-in_default
returns-in_default g c = no_part_taken refl refl

pub take_basic_elements-requires-clause-before : goal.take_basic_elements-requires-clause-before
take_basic_elements-requires-clause-before g c = before_element c.requires (sym c.innermost.ensures
    ∙ (c.in-Some-Many.is ∙ ap Some c.in-Some-Many.field-0-is))
