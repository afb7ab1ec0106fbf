-- The row of the table.
use Rattle.std.proofs.Common.{List, ℕ, ◌+◌, ◌-◌, ◌*◌, arith, subst}
use Rattle.hex.specs.Hex.{encode_with}
use Rattle.gob_json.proofs.DigitLaws.{hex_row}
use Rattle.gob_json.proofs.text.leaf.put_byte.Goals as goal

pub returns : goal.returns
unfolding encode_with
returns g c =
    let row = c.from-row.result * 2 in
    subst (λ (t : List ℕ). g.O.TextOut.puts c.args.out.now c.put.new.self t c.put.result)
    (hex_row c.args.byte row (row + 2 - row) c.ranges.byte.fits (omega (arith, c.from-row.ensures)) (omega arith))
    c.put.ensures
