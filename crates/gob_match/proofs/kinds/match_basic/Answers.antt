use Rattle.std.proofs.Common.{◌∙◌, sym}
use denote.Enum.Bare.{same_true, same_false}
use Rattle.gob_types.specs.contracts.basic.Basic.{the_type}
use Rattle.gob_match.proofs.KindLaws.{others_clash, basics_convert, basics_clash}
use Rattle.gob_match.proofs.kinds.match_basic.Goals as goal

pub returns-in_default : goal.returns-in_default
returns-in_default c = others_clash _ c.args.wanted.now c.in_default.not-Basic

pub returns-then-eq : goal.returns-then-eq
returns-then-eq c = basics_convert c.in-Basic.is (same_true the_type tt c.args.basic c.in-Basic.other
    (sym c.eq.ensures ∙ c.if-eq.true))

pub returns-else-eq : goal.returns-else-eq
returns-else-eq c = basics_clash c.in-Basic.is (same_false the_type c.args.basic c.in-Basic.other
    (sym c.eq.ensures ∙ c.if-eq.false))
