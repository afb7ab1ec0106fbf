-- The bracket is the text of the token.
use Rattle.std.proofs.Common.{refl}
use Rattle.std.proofs.lemmas.Result.{on_ok_weaker}
use Rattle.json.specs.Token.{Token}
use Rattle.gob_plain.proofs.LineLaws.{token_put}
use Rattle.gob_plain.proofs.line.Line.begin_object.Goals as goal

pub returns : goal.returns
returns c = on_ok_weaker c.puts.result (λ p. token_put Token.begin_object refl tt p.0 p.1) c.puts.ensures
