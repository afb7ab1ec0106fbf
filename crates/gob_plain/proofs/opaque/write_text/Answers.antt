-- The bytes are UTF-8 or aren't.
use Rattle.std.proofs.Common.{◌∙◌, ap, refl, sym, List, ℕ}
use Rattle.json.specs.Json as json
use Rattle.base64.specs.Engines.{standard}
use Rattle.base64.specs.GeneralPurpose.{encode_of}
use Rattle.gob_plain.proofs.NameLaws.{utf8_chosen, bytes_chosen}
use Rattle.gob_plain.proofs.SomeLaws.{some_of, some_weaker, one_written}
use Rattle.gob_plain.proofs.opaque.write_text.Goals as goal

pub returns-in-Ok : goal.returns-in-Ok
returns-in-Ok c =
    let b = c.args.bytes.now in
    some_of (one_written c.string.ensures) (
      json.string c.in-Ok.text.now,
      ap (λ (s : List ℕ). json.string s)
          (c.in-Ok.ensures.cases.0 ∙ sym (utf8_chosen b (encode_of standard b) c.in-Ok.ensures.cases.1)),
      refl,
    )

pub returns-in-Err : goal.returns-in-Err
returns-in-Err c =
    let b = c.args.bytes.now in
    some_weaker
    (λ ts p. (
      p.0,
      p.1 ∙ ap (λ (s : List ℕ). json.string s) (sym (bytes_chosen b (encode_of standard b) c.in-Err.ensures.cases.0)),
      p.2,
    ))
    c.write_bytes.ensures
