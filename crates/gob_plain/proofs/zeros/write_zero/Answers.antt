-- The field has a zero or hasn't.
use Rattle.std.proofs.Common.{◌∙◌, sym, subst}
use Rattle.gob_plain.specs.AbsentFields.{SaysZero}
use Rattle.gob_plain.specs.Plain.{name_text}
use Rattle.gob_plain.specs.WritesPlain.{WritesSome}
use Rattle.gob_plain.proofs.PartLaws.{member_some}
use Rattle.gob_plain.proofs.SomeLaws.{MemberTokens, some_weaker}
use Rattle.gob_plain.proofs.ZeroLaws.{one_zero, no_zero, some_nothing}
use Rattle.gob_plain.proofs.zeros.write_zero.Goals as goal

pub returns-in_ok-write_name-in-Some : goal.returns-in_ok-write_name-in-Some
returns-in_ok-write_name-in-Some g c =
    let T = g.S.Shapes.table c.args.table.now in
    let types = c.args.types.now in
    let kind = c.in-Some.kind in
    some_weaker (λ ts p. one_zero T types c.args.number kind ts (sym c.zero_kind_at.ensures ∙ c.in-Some.is) p)
    (subst (λ l. WritesSome c.write_zero_value.result c.args.out.now c.write_zero_value.new.out
    (MemberTokens (name_text l) (SaysZero kind))) c.name_at.ensures
    (member_some c.in_ok-write_name-in-Some.ensures c.write_zero_value.ensures))

pub returns-in-None : goal.returns-in-None
returns-in-None g c =
    some_nothing
    (no_zero (g.S.Shapes.table c.args.table.now) c.args.types.now c.args.number
    (sym c.zero_kind_at.ensures ∙ c.in-None.is))
