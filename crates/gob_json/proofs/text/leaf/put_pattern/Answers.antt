-- No hexadecimal digit needs an escape.
use Rattle.std.proofs.Common.{subst, List, ℕ}
use Rattle.gob_json.proofs.LeafLaws.{pattern_text}
use Rattle.gob_json.proofs.text.leaf.put_pattern.Goals as goal

pub returns : goal.returns
returns g c =
    subst (λ (t : List ℕ). g.O.TextOut.puts c.args.out.now c.put_three.new.out t c.put_three.result)
    (pattern_text c.args.pattern c.to_be_bytes.result c.pattern_digits.result c.to_be_bytes.ensures
    c.pattern_digits.ensures)
    c.put_three.ensures
