use Rattle.std.proofs.Common.{refl}
use Rattle.gob_counted.proofs.CountLaws.{counts_first}
use Rattle.gob_counted.proofs.counter.Counter.new.Goals as goal

pub returns-clause-counted : goal.returns-clause-counted
returns-clause-counted g c = λ countable.
    let s = c.in_ok-session.ensures in
    counts_first g.S.Steps.stepping c.in_ok-session.session _ c.args.limits countable s.new s.taken s.limits s.allowed
    s.stands refl
