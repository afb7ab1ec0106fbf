use Rattle.std.proofs.Common.{◌∙◌, ap, codes, rules, sym}
use Rattle.std.specs.Str.{is_utf8}
use Rattle.std.proofs.lemmas.Str.{is_utf8-from_IsUtf8}
use Rattle.gob_json.proofs.TextLaws.{utf8_json, bytes_json}
use Rattle.gob_lines.proofs.PartLaws.{object_it, text_object}
use Rattle.gob_lines.proofs.UniqueLaws.{false_is_not_true}
use Rattle.gob_lines.proofs.leaf.read_text.Goals as goal

pub returns-in_ok-from_slice-in-Some-String-clause-read : goal.returns-in_ok-from_slice-in-Some-String-clause-read
returns-in_ok-from_slice-in-Some-String-clause-read c =
    let is = c.in_ok-from_slice-in-Some-String.ensures.items ∙ c.as_bytes.ensures.value in
    let utf8 = rw c.as_bytes.ensures.value at c.as_bytes.ensures.utf8 in
    rw (is, utf8_json c.in-Some-String.text.now utf8)
    (rw c.in-Some-String.field-0-is at c.in-Some-String.ensures.value)

pub returns-in-Err-clause-read : goal.returns-in-Err-clause-read
returns-in-Err-clause-read c =
    let bad = rw c.as_slice.ensures.value at c.in-Err.ensures.cases.0 in
    rw (bytes_json c.in_ok-bytes-in-Some-BeginObject.bytes.items bad) (search rules)

pub returns-in-Err-clause-whole : goal.returns-in-Err-clause-whole
returns-in-Err-clause-whole c = λ b rest bytes said.
    let object = rw c.in-Some-BeginObject.field-0-is at c.in-Some-BeginObject.ensures.value in
    object_it (codes "hex") c.in_ok-bytes-in-Some-BeginObject.bytes.items b c.args.tokens.now c.next.new.self
    c.take_key.new.tokens c.read_hex.new.tokens c.take_object_end.new.tokens rest
    c.in_ok-bytes-in-Some-BeginObject.ensures.only bytes object c.in_ok-take_key-in-Some-BeginObject.ensures.ok
    c.in_ok-take_object_end-in-Some-BeginObject.ensures.ok
    (text_object b c.args.tokens.now c.next.new.self rest object said).1

pub returns-in-Ok-clause-whole : goal.returns-in-Ok-clause-whole
returns-in-Ok-clause-whole c = λ b rest bytes said _.
    let object = rw c.in-Some-BeginObject.field-0-is at c.in-Some-BeginObject.ensures.value in
    let text = text_object b c.args.tokens.now c.next.new.self rest object said in
    let one = (object_it (codes "hex") c.in_ok-bytes-in-Some-BeginObject.bytes.items b c.args.tokens.now c.next.new.self
    c.take_key.new.tokens c.read_hex.new.tokens c.take_object_end.new.tokens rest
    c.in_ok-bytes-in-Some-BeginObject.ensures.only bytes object c.in_ok-take_key-in-Some-BeginObject.ensures.ok
    c.in_ok-take_object_end-in-Some-BeginObject.ensures.ok text.1).0 in
    let utf8 = is_utf8-from_IsUtf8 c.as_slice.result.now c.in-Ok.ensures.cases.1 in
    false_is_not_true (sym text.0 ∙ ap is_utf8 (sym one ∙ sym c.as_slice.ensures.value) ∙ utf8)
