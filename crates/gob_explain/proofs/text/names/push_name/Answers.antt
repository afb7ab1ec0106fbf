-- The characters of a text, or the bytes of what is none.
use Rattle.std.proofs.Common.{arith, string_bytes}
use Rattle.std.proofs.lemmas.Str.{IsUtf8-string_bytes}
use Rattle.gob_explain.proofs.NameLaws.{bytes_shown, name_added, name_of_text}
use Rattle.gob_explain.proofs.text.names.push_name.Goals as goal

pub returns-in_ok-escaped-in-Ok : goal.returns-in_ok-escaped-in-Ok
returns-in_ok-escaped-in-Ok c =
    let line = c.in_ok-escaped-in-Ok.field-0 in
    name_added c.push_str.result (string_bytes c.args.out.now) (string_bytes c.push_str.new.self) c.as_str.result.now
    c.args.name.now (string_bytes line) c.as_str.ensures.value
    (name_of_text c.args.name.now c.in-Ok.text.now (string_bytes line) c.in-Ok.ensures.cases.1
    c.in-Ok.ensures.cases.0 (IsUtf8-string_bytes line) c.in_ok-escaped-in-Ok.ensures.characters)
    c.push_str.ensures.bytes

pub returns-after-loop-byte : goal.returns-after-loop-byte
returns-after-loop-byte c =
    bytes_shown c.args.name.now (string_bytes c.args.out.now) (string_bytes c.loop-byte.out) c.loop-byte.byte-index
    c.in-Err.ensures.cases.0 (omega arith) c.loop-byte.invariant
