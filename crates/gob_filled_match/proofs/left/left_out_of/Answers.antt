use Rattle.std.proofs.Common.{subst}
use Rattle.gob_types.specs.Defined.{types}
use Rattle.gob_value.specs.Top.{SpellsTop}
use Rattle.gob_value.specs.View.{view}
use Rattle.gob_filled_match.proofs.LossLaws.{left_of_tree}
use Rattle.gob_filled_match.proofs.left.left_out_of.Goals as goal

pub returns-clause-left : goal.returns-clause-left
returns-clause-left c v fs filled =
    left_of_tree (subst (SpellsTop (types c.args.stream.now) c.args.id (view c.in_ok-value.value)) c.deref.ensures.value
    c.in_ok-value.ensures) c.in_ok-left_out.ensures filled
