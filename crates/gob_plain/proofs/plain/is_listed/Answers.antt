-- A map is listed where the style has it so, and nothing else.
use Rattle.std.proofs.Common.{◌∙◌, sym}
use Rattle.gob_plain.proofs.ListedLaws.{listed_where, not_listed}
use Rattle.gob_plain.proofs.plain.is_listed.Goals as goal

pub returns-in-Pairs : goal.returns-in-Pairs
returns-in-Pairs c = λ v s. listed_where c.args.style v (sym c.in-Pairs.is ∙ c.kind.ensures s.0 v s.1)

pub returns-in_default : goal.returns-in_default
returns-in_default c = λ v s.
    not_listed c.args.style v (λ e. c.in_default.not-Pairs (c.kind.ensures s.0 v s.1 ∙ sym e))
