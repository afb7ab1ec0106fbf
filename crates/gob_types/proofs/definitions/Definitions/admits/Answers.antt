use Rattle.std.proofs.Common.{sym, ◌∙◌}
use Rattle.gob_types.proofs.WalkLaws.{told_some}
use Rattle.gob_types.proofs.definitions.Definitions.admits.Goals as goal

pub returns-then-is_some-clause-refused : goal.returns-then-is_some-clause-refused
returns-then-is_some-clause-refused c = (
  c.is_own.ensures.0 c.if-not-is_own.false,
  told_some c.shape_of.result _ c.shape_of.ensures (sym c.is_some.ensures ∙ c.if-is_some.true),
)
