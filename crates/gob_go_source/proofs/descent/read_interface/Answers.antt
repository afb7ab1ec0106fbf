use Rattle.std.proofs.Common.{refl}
use Rattle.gob_go_source.specs.Grammar.{says_interface}
use Rattle.gob_go_source.proofs.GrammarLaws.{added}
use Rattle.gob_go_source.proofs.descent.read_interface.Goals as goal

pub returns-clause-says : goal.returns-clause-says
returns-clause-says c =
    says_interface (added _ _ _ _ c.in_ok-add.ensures.place c.in_ok-add.ensures.added) refl c.in_ok-take.ensures
    c.in_ok-pass_brackets.ensures
