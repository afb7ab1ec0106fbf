-- Byte by byte two digits more.
use Rattle.std.proofs.Common.{List, ℕ, ◌-◌, ◌≡◌, ◌∷◌, [], ◌*◌, ◌+◌, ◌/◌, ◌%◌, ◌++◌, ◌∙◌, ap, get_or, sym, arith}
use Rattle.std.proofs.Common.{append-nil, take}
use Rattle.std.proofs.lemmas.List.{drop_more, drop_all, take_all}
use Rattle.std.specs.Prelude.{slice_index}
use Rattle.hex.specs.Hex.{encode_with, encode_lower, lower_digits}
use Rattle.json.proofs.Printed.Room.{moved}
use Rattle.gob_json.proofs.DigitLaws.{length_stored, two_hex_stored}
use borrow.Rule.Slice.PartMut.{put_mid}
use Rattle.gob_json.proofs.text.leaf.pattern_digits.Goals as goal

pub bytes-preserved : goal.bytes-preserved
unfolding encode_with
bytes-preserved c =
    let i = c.bytes.index in
    let size = c.bytes.invariant.0 in
    let two : 2 * (i + 1) ≡ 2 * i + 2 = omega arith in
    let d = c.bytes.digits in
    let byte = get_or c.args.bytes i 0 in
    let high = slice_index lower_digits (byte / 16) in
    let low = slice_index lower_digits (byte % 16) in
    let k = 2 * i + 2 - 2 * i in
    let row = c.from-row.result * 2 in
    let new = put_mid (2 * i) k d c.copy_from_slice.new.self in
    let stored : take (2 * (i + 1)) new ≡ take (2 * i) d ++ high ∷ low ∷ [] =
    ap (λ n. take n new) two ∙ ap (λ (l : List ℕ). take (2 * i + 2) (put_mid (2 * i) k d l))
    c.copy_from_slice.ensures.after
    ∙ two_hex_stored d (2 * i) byte k row (row + 2 - row) (omega (arith, size)) c.bytes-test.element_fits.fits
    (omega (arith, c.from-row.ensures)) (omega arith) in (
      length_stored d c.copy_from_slice.new.self (2 * i) k (omega (arith, size))
          (omega (arith, c.copy_from_slice.ensures.len)) ∙ size,
      moved _ _ _ _ _ _ stored (ap encode_lower (drop_more c.args.bytes i 0 (omega arith))) c.bytes.invariant.1,
    )

pub returns : goal.returns
unfolding encode_with
returns c =
    let d = c.bytes.digits in
    let all : 2 * c.bytes.index ≡ 16 = omega arith in
    let none = drop_all c.bytes.index c.args.bytes (omega arith) in
    sym (take_all 16 d (omega (arith, c.bytes.invariant.0))) ∙ ap (λ n. take n d) (sym all) ∙ sym (append-nil _)
    ∙ ap (λ l. take (2 * c.bytes.index) d ++ encode_lower l) (sym none) ∙ c.bytes.invariant.1
