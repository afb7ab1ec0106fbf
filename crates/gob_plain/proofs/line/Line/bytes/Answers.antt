-- What the writer wrote stands behind the comma.
use Rattle.std.proofs.Common.{◌∙◌}
use Rattle.gob_plain.proofs.LineLaws.{lent_put}
use Rattle.gob_plain.proofs.line.Line.bytes.Goals as goal

pub returns : goal.returns
returns c = lent_put (c.lends-out.ensures.before ∙ c.in_ok-comma.ensures.0) c.lends-out.ensures.tokens
    c.in_ok-write_bytes.ensures c.takes.ensures.text c.takes.ensures.read c.takes.ensures.later
