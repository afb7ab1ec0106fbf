use Rattle.std.proofs.Common.{◌∙◌, refl, rules}
use Rattle.json.specs.Json as json
use Rattle.json.specs.declared.token.Token.TheVariants as taken
use Rattle.gob_json.proofs.TextLaws.{utf8_json}
use Rattle.gob_make.proofs.TakenLaws.{from_this}
use Rattle.gob_make.proofs.leaf.read_text.Goals as goal

pub returns-in_ok-from_slice-in-Some-String-clause-read : goal.returns-in_ok-from_slice-in-Some-String-clause-read
returns-in_ok-from_slice-in-Some-String-clause-read c =
    let is = c.in_ok-from_slice-in-Some-String.ensures.items ∙ c.as_bytes.ensures.value in
    let utf8 = rw c.as_bytes.ensures.value at c.as_bytes.ensures.utf8 in
    from_this (taken.String c.in-Some-String.text) (search rules)
    (rw (is, utf8_json c.in-Some-String.text.now utf8) (record {
      json = json.string c.in-Some-String.text.now;
      holds = refl;
      stands = refl;
    }))
