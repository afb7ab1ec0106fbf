use Rattle.std.proofs.Common.{rules}
use Rattle.gob_words.proofs.WordLaws.{without_last}
use Rattle.gob_words.proofs.orders.help_in.Goals as goal

pub returns : goal.returns
returns g c = without_last (g.D.Display.output c.args.shown.now) _ _ c.pop.result c.in_ok-text.ensures.ok
    c.pop.ensures.bytes
    (search rules) (search rules)
