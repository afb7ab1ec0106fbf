use Rattle.std.proofs.Common.{arith, rules, ◌<◌, ◌-◌, ap, sym, vec_len}
use Rattle.gob_tape.specs.declared.tidying.Types.TheVariants as types
use Rattle.gob_tape.specs.Machine.Tidying.{turned}
use Rattle.gob_tape.proofs.TidyingLaws.{last_advanced}
use Rattle.gob_tape.proofs.tidying.advance.Goals as goal

pub returns-in-Alternating : goal.returns-in-Alternating
returns-in-Alternating c =
    let xs = c.args.stack.now in
    let w = c.in-Alternating in
    let some : 0 < vec_len xs = search rules in
    last_advanced xs.items (vec_len xs - 1) c.in-Some.innermost.now (types.Alternating w.behind w.next) (omega
    (arith, xs.ok.0)) c.in-Some.ensures.value (sym (ap turned w.is))
