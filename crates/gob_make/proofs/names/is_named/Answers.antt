use Rattle.std.proofs.Common.{◌≡◌, ◌∙◌, List, ℕ, Bool, IsTrue, rules, sym}
use Rattle.std.specs.Prelude.{◌↔◌}
use Rattle.gob_plain.specs.Plain.{name_text}
use Rattle.gob_make.proofs.NameLaws.{bytes_name, utf8_name}
use Rattle.gob_make.proofs.names.is_named.Goals as goal

named : (b name text found : List ℕ) (r : Bool) → name_text b ≡ found → text ≡ found → IsTrue r ↔ (text ≡ name)
    → IsTrue r ↔ (name_text b ≡ name)
named b name text found r is same iff = (λ t. is ∙ sym same ∙ iff.0 t, λ e. iff.1 (same ∙ sym is ∙ e))

pub returns-in-Ok : goal.returns-in-Ok
returns-in-Ok c =
    let utf8 = rw c.as_bytes-bytes.ensures at c.in-Ok.ensures.cases.1 in
    let same : c.in-Ok.text.now ≡ c.args.field.now.name = search rules in
    named c.args.field.now.name c.args.name.now _ _ c.is_same.result (utf8_name _ utf8) same c.is_same.ensures

pub returns-in_ok-hex_name-in-Err : goal.returns-in_ok-hex_name-in-Err
returns-in_ok-hex_name-in-Err c =
    let other = rw c.as_bytes-bytes.ensures at c.in-Err.ensures.cases.0 in
    named c.args.field.now.name c.args.name.now _ _ c.is_same-in-Err.result (bytes_name _ other) (search rules)
    c.is_same-in-Err.ensures
