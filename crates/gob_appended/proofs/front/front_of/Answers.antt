use Rattle.std.proofs.Common.{arith, ◌+◌, ◌∙◌, ap, sym}
use Rattle.gob_num.proofs.DigitLaws.{bytes_each}
use Rattle.gob_appended.specs.Front.{of_count, of_size}
use Rattle.gob_appended.proofs.NumberLaws.{found_at_front, none_at_front}
use Rattle.gob_appended.proofs.front.front_of.Goals as goal

pub returns-in-None-clause-front : goal.returns-in-None-clause-front
returns-in-None-clause-front c =
    let xs = c.args.bytes.now in
    let bytes = bytes_each xs (λ i. omega (arith, c.type_inv.bytes i)) in
    ap (of_count xs) (sym (none_at_front xs bytes (c.uint_at.ensures.none c.in-None.is)))

pub returns-in-Some-clause-front : goal.returns-in-Some-clause-front
returns-in-Some-clause-front c =
    let xs = c.args.bytes.now in
    let bytes = bytes_each xs (λ i. omega (arith, c.type_inv.bytes i)) in
    let behind = c.in-Some.behind in
    c.of_size.ensures.front ∙ ap (λ n. of_size xs behind (n + behind)) c.from.ensures
    ∙ ap (of_count xs) (sym (found_at_front xs _ _ bytes c.in-Some.ensures.found))
