use Rattle.std.proofs.Common.{rules}
use Rattle.gob_match.proofs.TextLaws.{utf8_text, bytes_text}
use Rattle.gob_match.proofs.step.NameTextDisplay.fmt.Goals as goal

pub returns-in-Ok-clause-writes : goal.returns-in-Ok-clause-writes
returns-in-Ok-clause-writes g c = rw (utf8_text c.args.self.now.0.now c.in-Ok.ensures.cases.1) (search rules)

pub returns-in-Err-clause-writes : goal.returns-in-Err-clause-writes
returns-in-Err-clause-writes g c = rw (bytes_text c.args.self.now.0.now c.in-Err.ensures.cases.0) (search rules)
