-- What refuses the order of words that ask for nothing to be shown.
use Rattle.std.proofs.Common.{map}
use Rattle.gob.proofs.AskedLaws.{refuses_taking}
use Rattle.gob.proofs.asked.taken_by.Goals as goal

pub returns-in_err-order : goal.returns-in_err-order
returns-in_err-order c =
    refuses_taking (map (λ word. word.now) c.args.words.now) c.from_residual.result _
    c.from_residual.ensures.1 c.requires
    c.in_err-order.ensures.taking
