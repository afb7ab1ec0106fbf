use Rattle.gob_read.proofs.Events.BuiltLaws.{built_value}
use Rattle.gob_read.proofs.tree_builder.TreeBuilderBuilder.take.Goals as goal

pub returns : goal.returns
returns c = λ us v a t. c.into_value.ensures v (built_value a t)
