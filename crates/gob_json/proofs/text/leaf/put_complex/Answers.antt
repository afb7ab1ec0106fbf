-- The two patterns in brackets.
use Rattle.std.specs.Int.{to_be_bytes}
use Rattle.hex.specs.Hex.{encode_lower}
use Rattle.std.proofs.Common.{refl, w64, subst, List, ℕ, [], ◌∷◌, ◌++◌}
use Rattle.gob_json.proofs.LeafLaws.{complex_text}
use Rattle.gob_json.proofs.OutLaws.{piece_failed}
use Rattle.gob_json.proofs.text.leaf.put_complex.Goals as goal

pub returns-in_err-put_three : goal.returns-in_err-put_three
returns-in_err-put_three g c =
    subst (λ (t : List ℕ). g.O.TextOut.puts c.args.out.now c.put_three.new.out t c.from_residual.result)
    (complex_text c.args.real c.args.imaginary c.to_be_bytes.result (to_be_bytes w64 c.args.imaginary)
    c.pattern_digits.result
    (encode_lower (to_be_bytes w64 c.args.imaginary)) c.to_be_bytes.ensures c.pattern_digits.ensures refl refl)
    (piece_failed g.O.TextOut.puts g.met.O.TextOut.cut (encode_lower (to_be_bytes w64 c.args.imaginary) ++ 34 ∷ 93 ∷ [])
    c.from_residual.result c.from_residual.ensures.1 c.in_err-put_three.ensures)

pub returns : goal.returns
returns g c =
    subst (λ (t : List ℕ). g.O.TextOut.puts c.args.out.now c.put_three-2.new.out t c.put_three-2.result)
    (complex_text c.args.real c.args.imaginary c.to_be_bytes.result c.to_be_bytes-2.result c.pattern_digits.result
    c.pattern_digits-2.result c.to_be_bytes.ensures c.pattern_digits.ensures c.to_be_bytes-2.ensures
    c.pattern_digits-2.ensures)
    (g.met.O.TextOut.joined _ _ _ _ _ _ c.in_ok-put_three.ensures c.put_three-2.ensures)
