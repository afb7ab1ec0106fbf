-- The text that stands for the name is that of its bytes.
use Rattle.std.proofs.Common.{[], ◌∷◌, ◌∙◌, subst, sym}
use Rattle.json.specs.Token.{Token}
use Rattle.gob_plain.specs.PutsTokens.{PutsTokens}
use Rattle.gob_plain.proofs.NameLaws.{bytes_name}
use Rattle.gob_plain.proofs.line.Line.other_name.Goals as goal

pub returns : goal.returns
returns c = subst (λ t. PutsTokens c.known_name.result c.args.self.now c.known_name.new.self (Token.key t ∷ []))
    (c.as_str.ensures.value ∙ c.in_ok-text.ensures ∙ sym (bytes_name c.args.name.now c.requires)) c.known_name.ensures
