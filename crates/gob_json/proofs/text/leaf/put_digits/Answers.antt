-- Byte by byte two digits more.
use Rattle.std.proofs.Common.{ap, arith, subst, sym, ℕ, List, ◌+◌, drop, Ok}
use Rattle.std.proofs.lemmas.List.{drop_more, drop_all}
use Rattle.hex.specs.Hex.{encode_with, encode_lower}
use Rattle.gob_json.proofs.OutLaws.{piece_failed}
use Rattle.gob_json.proofs.text.leaf.put_digits.Goals as goal

pub bytes-preserved : goal.bytes-preserved
unfolding encode_with
bytes-preserved g c = λ new r p. c.bytes.invariant new r
    (subst (λ (t : List ℕ). g.O.TextOut.puts c.bytes.out new t r)
    (sym (ap encode_lower (drop_more c.args.bytes.now c.bytes.byte-index 0 (omega arith))))
    (g.met.O.TextOut.joined _ _ _ _ _ _ c.in_ok-put_byte.ensures p))

pub returns-in_err-put_byte : goal.returns-in_err-put_byte
unfolding encode_with
returns-in_err-put_byte g c = c.bytes.invariant c.put_byte.new.out c.from_residual.result
    (subst (λ (t : List ℕ). g.O.TextOut.puts c.bytes.out c.put_byte.new.out t c.from_residual.result)
    (sym (ap encode_lower (drop_more c.args.bytes.now c.bytes.byte-index 0 (omega arith))))
    (piece_failed g.O.TextOut.puts g.met.O.TextOut.cut (encode_lower (drop (c.bytes.byte-index + 1) c.args.bytes.now))
    c.from_residual.result c.from_residual.ensures.1 c.in_err-put_byte.ensures))

pub returns : goal.returns
unfolding encode_with
returns g c = c.bytes.invariant c.bytes.out (Ok tt)
    (subst (λ (t : List ℕ). g.O.TextOut.puts c.bytes.out c.bytes.out t (Ok tt))
    (sym (ap encode_lower (drop_all c.bytes.byte-index c.args.bytes.now (omega arith))))
    (g.met.O.TextOut.nothing c.bytes.out))
