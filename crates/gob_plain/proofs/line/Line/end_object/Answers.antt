-- The bracket is the text of the token.
use Rattle.std.proofs.Common.{refl}
use Rattle.std.proofs.lemmas.Result.{on_ok_weaker}
use Rattle.json.specs.Token.{Token}
use Rattle.gob_plain.proofs.LineLaws.{closing_put}
use Rattle.gob_plain.proofs.line.Line.end_object.Goals as goal

pub returns : goal.returns
returns c = on_ok_weaker c.closes.result (λ p. closing_put Token.end_object refl tt p.0 p.1) c.closes.ensures
