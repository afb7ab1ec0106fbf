use Rattle.std.proofs.Common.{ap}
use Rattle.gob_nodes.proofs.held.may_hold.Goals as goal

pub returns-clause-may : goal.returns-clause-may
returns-clause-may c = λ kept. record {
  public = λ e. c.if-id-2.false (ap (λ i. i.0) e);
  ready = c.kept.ensures.0 kept;
}

pub returns-clause-whole : goal.returns-clause-whole
returns-clause-whole c = λ may small. c.kept.ensures.1 may.ready
