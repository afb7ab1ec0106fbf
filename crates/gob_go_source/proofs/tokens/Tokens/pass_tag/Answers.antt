use Rattle.gob_go_source.specs.Grammar.{untagged, tagged}
use Rattle.gob_go_source.proofs.tokens.Tokens.pass_tag.Goals as goal

pub returns-in-Some-Text : goal.returns-in-Some-Text
returns-in-Some-Text c = tagged (rw c.in-Some-Text.field-0-is at c.in-Some-Text.ensures.some)

pub returns : goal.returns
returns c = untagged

pub returns-2 : goal.returns-2
returns-2 c = untagged
