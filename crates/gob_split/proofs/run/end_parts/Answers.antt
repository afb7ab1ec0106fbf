use Rattle.std.proofs.Common.{refl}
use Rattle.gob_tool.specs.Ending.{ends_so, flush_fails}
use Rattle.gob_split.proofs.run.end_parts.Goals as goal

pub returns-then-matches-clause-ends : goal.returns-then-matches-clause-ends
returns-then-matches-clause-ends g c = ends_so refl

pub returns-in-Ok-clause-ends : goal.returns-in-Ok-clause-ends
returns-in-Ok-clause-ends g c = flush_fails c.in-Ok.is refl

pub returns-in_default-answer-clause-ends : goal.returns-in_default-answer-clause-ends
returns-in_default-answer-clause-ends g c = ends_so refl

pub returns-in_default-answer-2-clause-ends : goal.returns-in_default-answer-2-clause-ends
returns-in_default-answer-2-clause-ends g c = ends_so refl
