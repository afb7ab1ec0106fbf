-- A text is UTF-8.
use Rattle.std.proofs.Common.{[], ◌∷◌, subst}
use Rattle.json.specs.Token.{Token}
use Rattle.gob_plain.specs.PutsTokens.{IsPut}
use Rattle.gob_plain.proofs.LineLaws.{text_name}
use Rattle.gob_plain.proofs.line.Line.known_name.Goals as goal

pub returns : goal.returns
returns c = subst (λ t. IsPut c.args.self.now c.key.new.self (Token.key t ∷ [])) c.as_bytes.ensures.value
    (text_name c.in_ok-_put._put c.as_bytes.ensures.utf8 c.in_ok-_put.ensures)
