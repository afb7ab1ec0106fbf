-- The word is the text of the token.
use Rattle.std.proofs.Common.{false, refl, true}
use Rattle.std.proofs.lemmas.Result.{on_ok_weaker}
use Rattle.json.specs.Token.{Token}
use Rattle.gob_plain.proofs.LineLaws.{token_put}
use Rattle.gob_plain.proofs.line.Line.boolean.Goals as goal

pub returns-then-truth : goal.returns-then-truth
returns-then-truth c = rw c.if-truth.true
    (on_ok_weaker c.puts.result (λ p. token_put (Token.boolean true) refl tt p.0 p.1) c.puts.ensures)

pub returns : goal.returns
returns c = rw c.if-truth.false
    (on_ok_weaker c.puts-2.result (λ p. token_put (Token.boolean false) refl tt p.0 p.1) c.puts-2.ensures)
