use Rattle.std.proofs.Common.{arith, ap, sym}
use Rattle.gob_num.proofs.DigitLaws.{bytes_each}
use Rattle.gob_appended.specs.Front.{starts_odd}
use Rattle.gob_appended.proofs.NumberLaws.{found_at_front, none_at_front}
use Rattle.gob_appended.proofs.front.is_definition.Goals as goal

pub returns-in-None : goal.returns-in-None
returns-in-None c =
    let bytes = bytes_each c.args.body.now (λ i. omega (arith, c.type_inv.body i)) in
    ap starts_odd (sym (none_at_front c.args.body.now bytes (c.uint_at.ensures.none c.in-None.is)))

pub returns-in-Some : goal.returns-in-Some
returns-in-Some c =
    let bytes = bytes_each c.args.body.now (λ i. omega (arith, c.type_inv.body i)) in
    ap starts_odd (sym (found_at_front c.args.body.now _ _ bytes c.in-Some.ensures.found))
