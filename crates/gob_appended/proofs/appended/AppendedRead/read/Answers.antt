-- Whether memory was wanting is noted behind an error, and nowhere else.
use Rattle.std.proofs.Common.{◌∙◌, refl, rules, sym}
use Rattle.std.specs.contracts.io.ErrorKind.{the_type}
use denote.Enum.Bare.{same_true, true_same}
use Rattle.gob_appended.proofs.appended.AppendedRead.read.Goals as goal

pub returns-then-is_empty-clause-memory : goal.returns-then-is_empty-clause-memory
returns-then-is_empty-clause-memory g c = refl

pub returns-in-Err-clause-memory : goal.returns-in-Err-clause-memory
returns-in-Err-clause-memory g c = (
  λ t. sym c.kind.ensures ∙ same_true the_type (search rules) _ _ (sym c.eq-self.ensures ∙ t),
  λ e. c.eq-self.ensures ∙ true_same the_type _ _ (c.kind.ensures ∙ e),
)
