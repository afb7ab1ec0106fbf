-- An order allows no deeper values than the run of its command takes.
use Rattle.std.proofs.Common.{◌≡◌, ◌≤◌, ap, subst, min, arith}
use Rattle.gob_stream.specs.Bounds.{no_deeper}
use Rattle.gob_words.specs.Depths.{most_depth}
use Rattle.gob_tool.specs.Running.{order_limits}
use Rattle.gob_words.specs.declared.words.Chosen.{Chosen}
use Rattle.gob_words.specs.declared.words.Order.{Order}
use Rattle.gob_tool.proofs.run.run_order.Goals as goal

-- a reader that takes what the command allows keeps to the order's limits
within_order : (order : Order) (command : Chosen) → order.command ≡ command
    → no_deeper (most_depth command) (order_limits order) ≡ order_limits order
within_order order command e =
    let within = subst (λ x. order.depth ≤ most_depth x) e order.most in
    let least : min order.depth (most_depth command) ≡ order.depth = omega (arith, within) in
    ap (λ depth. record (order_limits order) { depth = depth }) least

pub returns-in-Show-clause-does : goal.returns-in-Show-clause-does
returns-in-Show-clause-does g c = λ wanted_bytes bytes known left.
    let shown = rw (c.limits_of-limits.ensures, within_order c.args.order.now _ c.in-Show.is) at
    c.run_show.ensures.shown in
    rw c.in-Show.is (shown bytes left)

pub returns-in-Check-clause-does : goal.returns-in-Check-clause-does
returns-in-Check-clause-does g c = λ wanted_bytes bytes known left.
    let checked = rw (c.limits_of-limits.ensures, within_order c.args.order.now _ c.in-Check.is) at
    c.run_check.ensures.checked in
    rw c.in-Check.is (checked bytes left)

pub returns-in-Rewrite-clause-does : goal.returns-in-Rewrite-clause-does
returns-in-Rewrite-clause-does g c = λ wanted_bytes bytes known left.
    let rewritten = rw (c.limits_of-limits.ensures, within_order c.args.order.now _ c.in-Rewrite.is) at
    c.run_rewrite.ensures.rewritten in
    rw c.in-Rewrite.is (rewritten bytes left)

pub returns-in-Take-clause-does : goal.returns-in-Take-clause-does
returns-in-Take-clause-does g c = λ wanted_bytes bytes known left.
    let taken = rw (c.limits_of-limits.ensures, within_order c.args.order.now _ c.in-Take.is) at
    c.run_take.ensures.taken in
    rw c.in-Take.is (taken wanted_bytes bytes known left)

pub returns-in-Convert-clause-does : goal.returns-in-Convert-clause-does
returns-in-Convert-clause-does g c = λ wanted_bytes bytes known left.
    let converted = rw (c.limits_of-limits.ensures, within_order c.args.order.now _ c.in-Convert.is) at
    c.run_convert.ensures.converted in
    rw c.in-Convert.is (converted wanted_bytes bytes known left)
