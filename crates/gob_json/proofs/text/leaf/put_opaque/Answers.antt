-- The key, the digits and the bracket.
use Rattle.std.proofs.Common.{List, ℕ, codes, arith, subst}
use Rattle.json.specs.Print.{escape_byte}
use Rattle.gob_json.proofs.LeafLaws.{hex_behind}
use Rattle.gob_json.proofs.text.leaf.put_opaque.Goals as goal

pub returns : goal.returns
unfolding escape_byte
returns g c =
    subst (λ (t : List ℕ). g.O.TextOut.puts c.args.out.now c.put_digits_between.new.out t c.put_digits_between.result)
    (hex_behind (codes "{\"opaque\":\"") c.args.bytes.now (λ i. omega (arith, c.type_inv.bytes i)))
    c.put_digits_between.ensures
