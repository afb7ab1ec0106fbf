-- The text is that of a text or a number.
use Rattle.std.proofs.Common.{List, [], ◌∷◌, ◌++◌, ◌∙◌, ap}
use Rattle.std.specs.Fmt.{decimal}
use Rattle.json.specs.Json as json
use Rattle.json.specs.Token.{Token}
use Rattle.gob_plain_tests.proofs.filled_values.json_text.Goals as goal

pub returns-in-Some : goal.returns-in-Some
returns-in-Some c = (
  json.string c.in-Some.text.now,
  c.text_of.ensures ∙ c.in_ok-string.ensures.ok
      ∙ ap (λ (l : List Token). l ++ Token.string c.in-Some.text.now ∷ []) c.new-out.ensures.tokens,
)

pub returns : goal.returns
returns c = (
  json.number (decimal c.unwrap_or.result),
  c.text_of-2.ensures ∙ c.in_ok-u64.ensures.ok
      ∙ ap (λ (l : List Token). l ++ Token.number (decimal c.unwrap_or.result) ∷ []) c.new-out.ensures.tokens,
)
