use Rattle.gob_read.proofs.Events.CheckedLaws.{told_counts}
use Rattle.gob_read.proofs.check_builder.CheckBuilderBuilder.take.Goals as goal

pub returns : goal.returns
returns c = told_counts c.args.self.counts
