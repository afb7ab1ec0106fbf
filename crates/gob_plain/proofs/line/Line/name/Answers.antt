-- A name that isn't UTF-8 has another text.
use Rattle.std.proofs.Common.{[], ◌∷◌, subst, sym}
use Rattle.std.proofs.lemmas.Result.{on_ok_weaker}
use Rattle.json.specs.Token.{Token}
use Rattle.gob_plain.specs.PutsTokens.{IsPut, none_put, put_both}
use Rattle.gob_plain.proofs.NameLaws.{utf8_name}
use Rattle.gob_plain.proofs.LineLaws.{chosen_name, other_name}
use Rattle.gob_plain.proofs.line.Line.name.Goals as goal

pub other_name-requires : goal.other_name-requires
other_name-requires c = (other_name c.if-branch.false c.in_ok-key.ensures).0

pub returns-then-branch : goal.returns-then-branch
returns-then-branch c = chosen_name c.args.name.now c.if-branch.true c.in_ok-key.ensures

pub returns : goal.returns
returns c = on_ok_weaker c.other_name.result (λ p. put_both (other_name c.if-branch.false c.in_ok-key.ensures).1 p)
    c.other_name.ensures
