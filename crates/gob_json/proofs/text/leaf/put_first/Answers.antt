-- The last digits, as many as the number has.
use Rattle.std.proofs.Common.{List, ℕ, ◌+◌, ◌-◌, ◌*◌, ◌∙◌, arith, subst}
use Rattle.gob_json.proofs.DigitLaws.{all_digits, two_of_three, one_of_three, last_digits}
use Rattle.gob_json.proofs.text.leaf.put_first.Goals as goal

pub returns-then-number-ge100 : goal.returns-then-number-ge100
returns-then-number-ge100 g c =
    let n = c.args.number in
    subst (λ (t : List ℕ). g.O.TextOut.puts c.args.out.now c.put.new.self t c.put.result)
    (last_digits n (n * 4) (n * 4 + 3 - n * 4) 0 c.requires (omega arith) (omega arith)
    ∙ all_digits n (omega arith) c.requires) c.put.ensures

pub returns-then-number-ge10 : goal.returns-then-number-ge10
returns-then-number-ge10 g c =
    let n = c.args.number in
    subst (λ (t : List ℕ). g.O.TextOut.puts c.args.out.now c.put-then-number-ge10.new.self t
    c.put-then-number-ge10.result)
    (last_digits n (n * 4 + 1) (n * 4 + 3 - (n * 4 + 1)) 1 c.requires (omega arith) (omega arith)
    ∙ two_of_three n (omega arith) (omega arith)) c.put-then-number-ge10.ensures

pub returns : goal.returns
returns g c =
    let n = c.args.number in
    subst (λ (t : List ℕ). g.O.TextOut.puts c.args.out.now c.put-2.new.self t c.put-2.result)
    (last_digits n (n * 4 + 2) (n * 4 + 3 - (n * 4 + 2)) 2 c.requires (omega arith) (omega arith)
    ∙ one_of_three n (omega arith)) c.put-2.ensures
