use Rattle.gob_go_source.specs.Grammar.{stopped}
use Rattle.gob_go_source.proofs.GrammarLaws.{closed_at}
use Rattle.gob_go_source.proofs.tokens.Tokens.take_stop.Goals as goal

pub returns-then-takes : goal.returns-then-takes
returns-then-takes c = stopped (c.takes.ensures.taken c.if-takes.true)

pub returns-then-is_closed : goal.returns-then-is_closed
returns-then-is_closed c =
    closed_at (c.takes.ensures.stays c.if-takes.false) (c.is_closed.ensures c.if-is_closed.true)
