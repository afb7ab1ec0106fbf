-- Text as it is, text with escapes, and bytes that are no text.
use Rattle.std.proofs.Common.{List, ℕ, codes, arith, subst}
use Rattle.json.specs.Print.{escape_byte}
use Rattle.gob_json.proofs.LeafLaws.{plain_text, hex_behind}
use Rattle.gob_json.proofs.TextLaws.{utf8_json, bytes_json}
use Rattle.gob_json.proofs.text.leaf.put_text.Goals as goal

pub returns-then-is_plain_ascii : goal.returns-then-is_plain_ascii
returns-then-is_plain_ascii g c =
    subst (λ (t : List ℕ). g.O.TextOut.puts c.args.out.now c.put_three.new.out t c.put_three.result)
    (plain_text c.args.bytes.now (c.is_plain_ascii.ensures c.if-is_plain_ascii.true)) c.put_three.ensures

pub returns-in-Ok : goal.returns-in-Ok
returns-in-Ok g c = rw (utf8_json c.args.bytes.now c.in-Ok.ensures.cases.1) c.put_string.ensures

pub returns-in-Err : goal.returns-in-Err
unfolding escape_byte
returns-in-Err g c = rw (bytes_json c.args.bytes.now c.in-Err.ensures.cases.0)
    (subst (λ (t : List ℕ). g.O.TextOut.puts c.args.out.now c.put_digits_between.new.out t c.put_digits_between.result)
    (hex_behind (codes "{\"hex\":\"") c.args.bytes.now (λ i. omega (arith, c.type_inv.bytes i)))
    c.put_digits_between.ensures)
