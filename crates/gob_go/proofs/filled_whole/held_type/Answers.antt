use Rattle.std.proofs.Common.{ap, rules}
use Rattle.gob_go.proofs.filled_whole.held_type.Goals as goal

pub returns-clause-may : goal.returns-clause-may
returns-clause-may c = record {
  public = λ e. c.if-id.false (ap (λ i. i.0) e);
  ready = c.kept.ensures.0 (search rules);
}
