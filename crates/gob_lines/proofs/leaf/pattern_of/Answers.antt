use Rattle.std.proofs.Common.{◌≡◌, ◌∙◌, ap, sym, arith, w64, refl}
use Rattle.std.specs.Int.{to_be_bytes, from_be_bytes}
use Rattle.std.proofs.lemmas.Nat.{from_be_bytes-to_be_bytes_8}
use Rattle.hex.specs.Hex.{decode_sized, encode_lower}
use Rattle.hex.proofs.HexLemmas.{decode_sized-encode_lower}
use Rattle.gob_json.proofs.LeafLaws.{pattern_bytes}
use Rattle.gob_lines.proofs.leaf.pattern_of.Goals as goal

pub returns-then-is_err-clause-none : goal.returns-then-is_err-clause-none
returns-then-is_err-clause-none c = λ none p small e.
    let sized = ap (λ t. decode_sized t 8) (sym e)
    ∙ decode_sized-encode_lower (to_be_bytes w64 p) 8 refl (pattern_bytes p) in
    let value = rw sized at c.decode_to_slice.ensures.value in
    let test = rw value.0 at c.if-is_err.ensures.value in
    grind (arith, test)

pub returns-clause-none : goal.returns-clause-none
returns-clause-none c = λ none p small e.
    let sized = ap (λ t. decode_sized t 8) (sym e)
    ∙ decode_sized-encode_lower (to_be_bytes w64 p) 8 refl (pattern_bytes p) in
    let value = rw sized at c.decode_to_slice.ensures.value in
    let one : c.from_be_bytes-pattern.result ≡ p =
    c.from_be_bytes-pattern.ensures ∙ ap (from_be_bytes w64) value.1 ∙ from_be_bytes-to_be_bytes_8 p small in
    let yes = c.is_same.ensures.1 (c.as_str.ensures.value ∙ c.in_ok-again.ensures
    ∙ ap encode_lower (c.to_be_bytes.ensures ∙ ap (to_be_bytes w64) one) ∙ e) in
    grind (arith, yes, c.if-is_same.false)
