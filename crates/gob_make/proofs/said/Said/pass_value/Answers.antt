use Rattle.gob_make.proofs.SkipLaws.{skipped_value}
use Rattle.gob_make.proofs.said.Said.pass_value.Goals as goal

pub returns-in-Ok-clause-passed : goal.returns-in-Ok-clause-passed
returns-in-Ok-clause-passed c = skipped_value 1000 c.args.self.now.tokens c.skip_value.new.self c.in-Ok.ensures.value
