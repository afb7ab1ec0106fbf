use Rattle.std.proofs.Common.{◌∙◌, sym}
use denote.Enum.Bare.{same_true, same_false}
use Rattle.gob_types.specs.contracts.kind.Marshal.{the_type}
use Rattle.gob_match.proofs.KindLaws.{others_clash, opaques_convert, opaques_clash}
use Rattle.gob_match.proofs.kinds.match_opaque.Goals as goal

pub returns-in_default : goal.returns-in_default
returns-in_default c = others_clash _ c.args.wanted.now c.in_default.not-Opaque

pub returns-then-eq : goal.returns-then-eq
returns-then-eq c = opaques_convert c.in-Opaque.is
    (same_true the_type tt c.args.marshal c.in-Opaque.other (sym c.eq.ensures ∙ c.if-eq.true))

pub returns-else-eq : goal.returns-else-eq
returns-else-eq c = opaques_clash c.in-Opaque.is (same_false the_type c.args.marshal c.in-Opaque.other
    (sym c.eq.ensures ∙ c.if-eq.false))
