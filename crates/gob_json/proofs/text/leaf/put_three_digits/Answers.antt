-- The row of the table.
use Rattle.std.proofs.Common.{List, ℕ, ◌+◌, ◌-◌, ◌*◌, arith, subst}
use Rattle.gob_json.proofs.DigitLaws.{last_digits}
use Rattle.gob_json.proofs.text.leaf.put_three_digits.Goals as goal

pub returns : goal.returns
returns g c =
    let n = c.args.number in
    subst (λ (t : List ℕ). g.O.TextOut.puts c.args.out.now c.put.new.self t c.put.result)
    (last_digits n (n * 4) (n * 4 + 3 - n * 4) 0 c.requires (omega arith) (omega arith)) c.put.ensures
