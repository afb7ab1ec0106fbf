-- The row of the table, with its comma or without.
use Rattle.std.proofs.Common.{List, ℕ, ◌+◌, ◌-◌, ◌*◌, arith, subst}
use Rattle.gob_json.proofs.HeadLaws.{later_head, first_head}
use Rattle.gob_json.proofs.text.between.put_digit_head.Goals as goal

pub returns-then-later : goal.returns-then-later
returns-then-later g c =
    let n = c.args.number in
    rw c.if-later.true
    (subst (λ (t : List ℕ). g.O.TextOut.puts c.args.out.now c.put.new.self t c.put.result)
    (later_head n (n * 5) (n * 5 + 5 - n * 5) c.requires (omega arith) (omega arith)) c.put.ensures)

pub returns : goal.returns
returns g c =
    let n = c.args.number in
    rw c.if-later.false
    (subst (λ (t : List ℕ). g.O.TextOut.puts c.args.out.now c.put-2.new.self t c.put-2.result)
    (first_head n (n * 5 + 1) (n * 5 + 5 - (n * 5 + 1)) c.requires (omega arith) (omega arith)) c.put-2.ensures)
