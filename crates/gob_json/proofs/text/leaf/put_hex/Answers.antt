-- No hexadecimal digit needs an escape.
use Rattle.std.proofs.Common.{List, ℕ, [], ◌∷◌, ◌++◌, arith, ap, subst, sym}
use Rattle.gob_json.proofs.LeafLaws.{hex_plain}
use Rattle.gob_json.proofs.text.leaf.put_hex.Goals as goal

pub returns : goal.returns
returns g c =
    subst (λ (t : List ℕ). g.O.TextOut.puts c.args.out.now c.put_digits_between.new.out t c.put_digits_between.result)
    (ap (λ (l : List ℕ). 34 ∷ (l ++ 34 ∷ []))
    (sym (hex_plain c.args.bytes.now (λ i. omega (arith, c.type_inv.bytes i)))))
    c.put_digits_between.ensures
